-- `job::bringing::bring_equations` meets its contract: the symbols below p are counted and collected.
-- Assumes nothing.
use mathlib.Core.Logic.{inl, inr, ⊎_elim}
use mathlib.Core.Path.{◌≡◌, refl, sym, ap, ◌∙◌}
use Prim.Native.Nat.{◌+◌, ◌<◌}
use native.Mathlib.Nat.{mul-le-mul_left}
use native.Mathlib.Omega.{arith}
use lib.ListN.{length, get_or}
use Rattle.std.proofs.lemmas.Grind.{get_or_default_zero}
use Rattle.std.proofs.lemmas.Iterator.Consumers.{YieldsList-turn, YieldsList-end}
use Rattle.field.proofs.Curves.{short_sizes}
use Rattle.field.proofs.Fields.{field_of}
use Rattle.linear.proofs.Solutions.{rank_le}
use Rattle.linear.specs.Inner.Systems.{flat}
use Rattle.code.specs.Terms.{size}
use Rattle.code.proofs.GridEntries.{length_entries}
use Rattle.job.proofs.Advancing.{counted_gap, counted_symbol, collecting_gap, collecting_step, collects_clash}
use Rattle.job.proofs.Places.{place_walk, places_turn, places_end, place_more}
use Rattle.job.proofs.bringing.bring_equations.Goals as goal
use Rattle.job.proofs.bringing.bring_equations.Goals.{In-Some, In-None}

-- the place of a turn, and the symbol there
turn : (c : goal.In-Some) → let x = c.args in let p = x.next + length c.loop-p.yielded in
    (p < length x.word.now) × (c.in-Some.p ≡ p) × (c.in-Some.s.now ≡ get_or x.word.now p 0)
turn c =
    let x = c.args in
    let s = c.in-Some in
    let walk = place_walk {s = c.into_iter-p-iterator.result} x.word.now x.next (cc) (cc) (cc) in
    let t = places_turn x.word.now x.next (length c.loop-p.yielded) s.p s.s.now
    (YieldsList-turn walk c.loop-p.yielded _ c.loop-p.yielded_by _ c.next.new.self _ s.is c.next.ensures.steps) in
    (t.0, t.1, t.2 ∙ get_or_default_zero x.word.now (x.next + length c.loop-p.yielded) s.s.now t.0)

-- the place after the last turn
ended : (c : goal.In-None) → c.args.next + length c.loop-p.yielded ≡ length c.args.word.now
ended c =
    let x = c.args in
    let walk = place_walk {s = c.into_iter-p-iterator.result} x.word.now x.next (cc) (cc) (cc) in
    places_end x.word.now x.next (length c.loop-p.yielded) c.requires.broken_over.2
    (YieldsList-end walk c.loop-p.yielded _ c.loop-p.yielded_by _ c.next.new.self c.in-None.is c.next.ensures.steps).1

pub step-requires : goal.step-requires
step-requires c =
    let x = c.args in
    let h = c.requires.broken_over.0 in
    let l = c.loop-p in
    let w = l.invariant.2.ready in
    let t = turn (goal.at.step-requires c).In-Some in record {
      columns = (
        h.over,
        omega (arith, h.long, t.0, t.1),
        omega (arith, h.order, mul-le-mul_left x.q h.few, mul-le-mul_left x.q (short_sizes x.q c.requires.broken_over.4).symbols),
        c.requires.broken_over.1,
        omega (arith, c.requires.broken_over.3, w.ranked, rank_le (field_of x.q) (flat 64 (size x.q x.m) l.work) (size x.q x.m)),
        c.requires.broken_over.4,
      );
      s_bound = λ n. ⊎_elim (λ e. absurd (n (t.2 ∙ e))) (λ b. rw t.2 b) (h.value (x.next + length l.yielded) t.0);
      well_formed = w.formed;
    }

pub returns-then-brought-budget : goal.returns-then-brought-budget
returns-then-brought-budget c =
    let x = c.args in
    let t = turn (goal.at.returns-then-brought-budget c).In-Some in
    let is_k = ap length c.requires.broken_over.1 ∙ length_entries x.q x.m in
    rw t.1 (record {
      counted = c.loop-p.invariant.1;
      collects = (
        c.loop-p.invariant.2,
        ⊎_elim (λ e. inr (inr (t.0, (λ f. c.if-s.false (t.2 ∙ f)), e))) (λ e. inl (e.1 ∙ is_k)) c.then-brought-budget.either,
      );
    })

pub returns-in_default : goal.returns-in_default
returns-in_default c =
    let x = c.args in
    let l = c.loop-p in
    let p = x.next + length l.yielded in
    let t = turn (goal.at.returns-in_default c).In-Some in
    rw t.1 (record {
      counted = counted_symbol x.word.now x.budget x.next 0 p l.brought l.invariant.1 t.0 (λ e. c.if-s.false (t.2 ∙ e)) c.if-brought-budget.false;
      collects = collects_clash x.q x.columns.now x.m x.word.now x.work.now x.next x.rows l.work p l.rank l.invariant.2
          x.budget (l.brought + 1) c.step.new.work (rw (← t.2, ← t.1) c.in_default.ensures);
    })

pub returns : goal.returns
returns c =
    rw (← ended (goal.at.returns c).In-None) (record { counted = c.loop-p.invariant.1; collects = (c.loop-p.invariant.2, inr (inl refl)) })

pub loop-p-preserved-then-s : goal.loop-p-preserved-then-s
loop-p-preserved-then-s c =
    let x = c.args in
    let l = c.loop-p in
    let p = x.next + length l.yielded in
    let t = turn (goal.at.loop-p-preserved-then-s c).In-Some in
    let gap = sym t.2 ∙ c.if-s.true in
    rw (place_more x.next l.yielded _) (
      l.invariant.0,
      counted_gap x.word.now x.budget x.next 0 p l.brought l.invariant.1 t.0 gap,
      collecting_gap x.q x.columns.now x.m x.word.now x.work.now x.next x.rows l.work p l.rank l.invariant.2 gap,
    )

pub loop-p-preserved : goal.loop-p-preserved
loop-p-preserved c =
    let x = c.args in
    let l = c.loop-p in
    let p = x.next + length l.yielded in
    let t = turn (goal.at.loop-p-preserved c).In-Some in
    rw (place_more x.next l.yielded _) (
      c.step.auto.work ∙ l.invariant.0,
      counted_symbol x.word.now x.budget x.next 0 p l.brought l.invariant.1 t.0 (λ e. c.if-s.false (t.2 ∙ e)) c.if-brought-budget.false,
      collecting_step x.q x.columns.now x.m x.word.now x.work.now x.next x.rows l.work p l.rank l.invariant.2 c.step.new.work c.in-Some-step.more
          (rw (← t.2, ← t.1) c.in-Some-step.ensures),
    )
