-- `job::bringing::compare` meets its contract: the symbols below p are counted and compared.
-- Assumes nothing.
use mathlib.Core.Logic.{inl, inr}
use mathlib.Core.Path.{◌≡◌, refl, sym, ap, ◌∙◌}
use Prim.Native.Nat.{ℕ, ◌+◌, ◌<◌}
use native.Mathlib.Omega.{arith}
use lib.ListN.{length, get_or}
use Rattle.std.specs.List.{zip}
use Rattle.std.proofs.lemmas.Grind.{get_or_default_zero}
use Rattle.std.proofs.lemmas.Iterator.Consumers.{YieldsList-turn, YieldsList-end}
use Rattle.std.proofs.lemmas.Slice.Zip.{length-zip, get_or-zip}
use Rattle.job.proofs.Advancing.{counted_gap, counted_symbol, compared_same, compared_differs}
use Rattle.job.proofs.Places.{pair_walk, places_turn, places_end, place_more}
use Rattle.job.proofs.bringing.compare.Goals as goal
use Rattle.job.proofs.bringing.compare.Goals.{In-Some, In-None, then-other-s, else-other-s}

-- the place of a turn, and the symbols there
turn : (c : goal.In-Some) → let x = c.args in let p = x.from.next + length c.loop-p.yielded in
    (p < length x.word.now) × (c.in-Some.p ≡ p) × (c.in-Some.s.now ≡ get_or x.word.now p 0) × (c.in-Some.other.now ≡ get_or x.whole.now p 0)
turn c =
    let x = c.args in
    let s = c.in-Some in
    let p = x.from.next + length c.loop-p.yielded in
    let walk = pair_walk {s = c.into_iter-p-iterator.result} x.word.now x.whole.now x.from.next (cc) (cc) (cc) (cc) in
    let t = places_turn (zip x.word.now x.whole.now) x.from.next (length c.loop-p.yielded) s.p (s.s.now, s.other.now)
    (YieldsList-turn walk c.loop-p.yielded _ c.loop-p.yielded_by _ c.next.new.self _ s.is c.next.ensures.steps) in
    let l : p < length x.word.now = omega (arith, t.0, length-zip x.word.now x.whole.now) in
    let m : p < length x.whole.now = omega (arith, c.requires.0) in
    let e = t.2 ∙ get_or-zip x.word.now x.whole.now p (s.s.now, s.other.now) l m in (
      l,
      t.1,
      ap (λ (y : ℕ × ℕ). y.0) e ∙ get_or_default_zero x.word.now p s.s.now l,
      ap (λ (y : ℕ × ℕ). y.1) e ∙ get_or_default_zero x.whole.now p s.other.now m,
    )

-- the place after the last turn
ended : (c : goal.In-None) → c.args.from.next + length c.loop-p.yielded ≡ length c.args.word.now
ended c =
    let x = c.args in
    let walk = pair_walk {s = c.into_iter-p-iterator.result} x.word.now x.whole.now x.from.next (cc) (cc) (cc) (cc) in
    let long = length-zip x.word.now x.whole.now in
    let e = places_end (zip x.word.now x.whole.now) x.from.next (length c.loop-p.yielded) (omega (arith, c.requires))
    (YieldsList-end walk c.loop-p.yielded _ c.loop-p.yielded_by _ c.next.new.self c.in-None.is c.next.ensures.steps).1 in
    omega (arith, c.requires)

pub loop-p-preserved : goal.loop-p-preserved
loop-p-preserved c =
    let x = c.args in
    let l = c.loop-p in
    let p = x.from.next + length l.yielded in
    let t = turn (goal.at.loop-p-preserved c).In-Some in
    let arrived : get_or x.word.now p 0 ≡ 255 → ⊥ = λ e. c.if-s.false (t.2 ∙ e) in
    rw (place_more x.from.next l.yielded _) (
      counted_symbol x.word.now x.budget x.from.next x.from.brought p l.brought l.invariant.0 t.0 arrived c.if-brought-budget.false,
      elim c.if-other-s.branch [
        | then-other-s u ↦ rw u.rank-is
            (compared_differs x.word.now x.whole.now x.from.next x.from.rank p l.invariant.0.onward arrived
            (λ e. u.if-other-s.true (t.3 ∙ e ∙ sym t.2)))
        | else-other-s u ↦ rw u.rank-is
            (compared_same x.word.now x.whole.now x.from.next x.from.rank p l.rank l.invariant.1
            (λ d. sym t.3 ∙ u.if-other-s.false ∙ t.2))
      ],
    )

pub loop-p-preserved-then-s : goal.loop-p-preserved-then-s
loop-p-preserved-then-s c =
    let x = c.args in
    let l = c.loop-p in
    let p = x.from.next + length l.yielded in
    let t = turn (goal.at.loop-p-preserved-then-s c).In-Some in
    let gap = sym t.2 ∙ c.if-s.true in
    rw (place_more x.from.next l.yielded _) (
      counted_gap x.word.now x.budget x.from.next x.from.brought p l.brought l.invariant.0 t.0 gap,
      compared_same x.word.now x.whole.now x.from.next x.from.rank p l.rank l.invariant.1 (λ d. absurd (d gap)),
    )

pub returns-then-brought-budget : goal.returns-then-brought-budget
returns-then-brought-budget c =
    let t = turn (goal.at.returns-then-brought-budget c).In-Some in
    rw t.1 (record {
      counted = c.loop-p.invariant.0;
      stopped = inr (t.0, (λ e. c.if-s.false (t.2 ∙ e)), c.if-brought-budget.true);
      compared = c.loop-p.invariant.1;
    })

pub returns : goal.returns
returns c =
    rw (← ended (goal.at.returns c).In-None) (record { counted = c.loop-p.invariant.0; stopped = inl refl; compared = c.loop-p.invariant.1 })
