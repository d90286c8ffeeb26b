-- `job::bringing::bring` meets its contract: each of its ways gives what `Brings` says.
-- Assumes nothing.
use Rattle.std.specs.Prelude.{Option, Some, None}
use mathlib.Core.Path.{◌≡◌, sym, ◌∙◌, subst}
use Prim.Native.Nat.{ℕ, ◌≤◌}
use native.Mathlib.Omega.{arith}
use Rattle.field.proofs.Curves.{short_curve}
use Rattle.field.proofs.Fields.{field_of}
use Rattle.poly.specs.Inner.Linear.{entry}
use Rattle.linear.specs.Inner.Systems.{flat, rank}
use Rattle.linear.proofs.Solutions.{rank_le, rank_full, solves_vector}
use Rattle.points.specs.Series.{columns_of}
use Rattle.points.proofs.Series.{full_places}
use Rattle.code.specs.Terms.{size}
use Rattle.job.specs.Inner.Bringing.{Collects, Compared}
use Rattle.job.proofs.Advancing.{counted_on}
use Rattle.job.proofs.Standings.{stands_only, stands_collected, usable_message, only_solution, brings_clash, brings_only, brings_fewer}
use Rattle.job.proofs.bringing.bring.Goals as goal
use Rattle.job.proofs.bringing.bring.Goals.{After-collect-r}

-- how collecting ended, by its rows
collects : (c : goal.After-collect-r) (rows : Option ℕ) → c.collect-r.result.rank ≡ rows
    → let x = c.args in
    Collects x.q (columns_of x.q x.series) x.m x.word.now x.budget x.work.now x.next
    (rank (size x.q x.m) (flat 64 (size x.q x.m) x.work.now)) c.collect-r.new.work
    c.collect-r.result.next rows c.collect-r.result.brought
collects c rows e =
    let x = c.args in
    let r = c.collect-r in
    subst (λ (t : Option ℕ). Collects x.q (columns_of x.q x.series) x.m x.word.now x.budget x.work.now x.next
    (rank (size x.q x.m) (flat 64 (size x.q x.m) x.work.now)) r.new.work
    r.result.next t r.result.brought) e r.ensures.collects

-- where the rows are complete, there are k
full : (c : goal.After-collect-r) (rows : ℕ) → c.collect-r.result.rank ≡ Some rows → c.args.k ≤ rows → rows ≡ size c.args.q c.args.m
full c rows e l =
    let x = c.args in
    let h = (collects (goal.at.After-collect-r c).After-collect-r (Some rows) e).0.ready in
    omega (
      arith,
      c.requires.short.3,
      h.ranked,
      rank_le (field_of x.q) (flat 64 (size x.q x.m) c.collect-r.new.work) (size
          x.q x.m),
    )

pub returns-then-complete : goal.returns-then-complete
returns-then-complete c =
    let x = c.args in
    let r = c.compare-then-complete in
    let complete = c.if-complete.true in
    let clear = c.if-clash.false in
    brings_only x.q x.series x.m x.word.now c.requires.short.2 x.budget x.work.now x.candidate.now x.whole.now x.next x.complete
    x.clash x.work.now x.candidate.now x.whole.now r.result r.ensures.counted x.next x.k r.ensures.counted.onward
    r.ensures.stopped c.requires.short.3
    (usable_message x.q x.m x.work.now x.candidate.now x.complete x.clash complete clear c.requires.candidate_len.2)
    (stands_only x.q x.series x.m x.word.now x.work.now x.candidate.now x.whole.now x.next x.complete
    x.clash complete clear)
    r.ensures.compared

pub returns-in-None : goal.returns-in-None
returns-in-None c =
    let x = c.args in
    let from = c.collect-r.result in
    let r = c.compare-in-None in
    brings_clash x.q x.series x.m x.word.now c.requires.short.2 x.budget x.work.now x.candidate.now x.whole.now x.next
    x.complete
    x.clash c.collect-r.new.work x.candidate.now x.whole.now r.result
    (counted_on x.word.now x.budget x.next 0 from.next from.brought r.result.next r.result.brought c.collect-r.ensures.counted
    r.ensures.counted)
    from.next x.word.now r.ensures.counted.onward r.ensures.stopped
    (λ h v vector.
    collects (goal.at.returns-in-None c).After-collect-r None c.in-None.is
    (stands_collected x.q x.series x.m x.word.now x.work.now x.candidate.now x.whole.now x.next x.complete x.clash
    c.if-complete.false c.if-clash.false h) (entry v))
    (subst (λ (t : Option ℕ). Compared x.word.now x.word.now from.next t r.result.next r.result.rank) c.in-None.is r.ensures.compared)

pub settle-requires : goal.settle-requires
settle-requires c =
    let x = c.args in
    let clear = c.in-Some.is in
    let ready = (collects (goal.at.settle-requires c).After-collect-r (Some c.in-Some.rank) clear).0.ready in
    let k = size x.q x.m in record {
      short = (c.requires.short.0, c.requires.short.1, c.requires.short.3, c.requires.candidate_len.0, c.requires.candidate_len.1 ∙ c.requires.short.2.long ∙ full_places x.q x.series (short_curve x.q c.requires.short.0));
      well_formed = (
        ready.formed,
        rank_full (field_of x.q) (flat 64 k c.collect-r.new.work) k (sym ready.ranked
            ∙ full (goal.at.settle-requires c).After-collect-r c.in-Some.rank clear c.if-rank-k.false),
      );
    }

pub returns-in-Some-2 : goal.returns-in-Some-2
returns-in-Some-2 c =
    let x = c.args in
    let k = size x.q x.m in
    let from = c.collect-r.result in
    let after = c.collect-r.new.work in
    let settled = c.settle in
    let candidate = settled.new.candidate in
    let whole = settled.new.whole in
    let long = settled.auto.candidate ∙ c.requires.candidate_len.0 in
    let r = c.compare-in-Some-2 in
    let clear = c.in-Some.is in
    brings_only x.q x.series x.m x.word.now c.requires.short.2 x.budget x.work.now x.candidate.now x.whole.now x.next x.complete
    x.clash after candidate whole r.result
    (counted_on x.word.now x.budget x.next 0 from.next from.brought r.result.next r.result.brought c.collect-r.ensures.counted
    r.ensures.counted)
    from.next c.in-Some.rank r.ensures.counted.onward r.ensures.stopped
    (full (goal.at.returns-in-Some-2 c).After-collect-r c.in-Some.rank clear c.if-rank-k.false)
    (solves_vector (field_of x.q) (flat 64 k after) k candidate long settled.ensures.solves)
    (λ h.
    only_solution x.q x.series x.m x.word.now c.requires.short.2 after from.next c.in-Some.rank candidate whole
    ((collects (goal.at.returns-in-Some-2 c).After-collect-r (Some c.in-Some.rank) clear).0.collected
    (stands_collected x.q x.series x.m x.word.now x.work.now x.candidate.now x.whole.now x.next x.complete x.clash
    c.if-complete.false
    c.if-clash.false h))
    settled.ensures.solves long settled.ensures.whole_after)
    (subst (λ (t : Option ℕ). Compared x.word.now whole from.next t r.result.next r.result.rank) clear r.ensures.compared)

pub returns-in-Some : goal.returns-in-Some
returns-in-Some c =
    let x = c.args in
    let from = c.collect-r.result in
    let is_k = c.requires.short.3 in
    brings_fewer x.q x.series x.m x.word.now c.requires.short.2 x.budget x.work.now x.candidate.now x.whole.now x.next x.complete
    x.clash c.collect-r.new.work x.candidate.now x.whole.now from c.collect-r.ensures.counted c.in-Some.rank
    (rank (size x.q x.m) (flat 64 (size x.q x.m) x.work.now)) c.in-Some.is (omega arith)
    (stands_collected x.q x.series x.m x.word.now x.work.now x.candidate.now x.whole.now x.next x.complete x.clash c.if-complete.false c.if-clash.false)
    (collects (goal.at.returns-in-Some c).After-collect-r (Some c.in-Some.rank) c.in-Some.is)
