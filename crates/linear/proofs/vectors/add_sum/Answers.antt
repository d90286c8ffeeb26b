-- `linear::vectors::add_sum` meets its contract: block by block.
-- Assumes nothing.
use mathlib.Core.List.{List}
use mathlib.Core.Path.{◌≡◌, ap, ap₂, ◌∙◌, subst}
use Prim.Native.Nat.{ℕ, ◌+◌, ◌*◌, ◌≤◌, ◌<◌}
use native.Mathlib.Omega.{arith}
use lib.ListN.{length, get_or}
use Rattle.field.specs.Plus.{plus}
use Rattle.poly.specs.Inner.Lanes.{lanes}
use Rattle.poly.specs.Inner.Linear.{entry}
use Rattle.poly.proofs.Fillings.{Filled, filled_turn, filled_writes}
use Rattle.poly.proofs.LaneLaws.{length_lanes, lanes_at}
use Rattle.linear.proofs.vectors.add_sum.Goals as goal
use Rattle.linear.proofs.vectors.add_sum.Goals.{In-loop-i}

-- what is written
abbrev sums : List ℕ → List ℕ → List ℕ → ℕ → ℕ
sums low top v j = plus (entry v j) (plus (entry low j) (entry top j))

-- what a block is given, in lanes
sum_at : (low top v₀ v : List ℕ) (j : ℕ) → Filled 0 (sums low top v₀) v₀ v j → (old sum a b : List ℕ) → old ≡ lanes (λ t. get_or v (j + t) 0)
    → sum ≡ lanes (λ t. plus (entry a t) (entry b t)) → a ≡ lanes (λ t. get_or low (j + t) 0) → b ≡ lanes (λ t. get_or top (j + t) 0)
    → (t : ℕ) → t < 16 → plus (entry old t) (entry sum t) ≡ sums low top v₀ (j + t)
sum_at low top v₀ v j h old sum a b is-old is_sum is-a is_b t l =
    let z : 0 + (j + t) ≡ j + t = omega arith in
    let kept : get_or v (j + t) 0 ≡ get_or v₀ (j + t) 0 = rw z at (h.rest (j + t) (omega arith)) in
    ap₂ plus
    (ap (λ (x : List ℕ). get_or x t 0) is-old ∙ lanes_at _ t l ∙ kept)
    (ap (λ (x : List ℕ). get_or x t 0) is_sum ∙ lanes_at _ t l
    ∙ ap₂ plus (ap (λ (x : List ℕ). get_or x t 0) is-a ∙ lanes_at _ t l) (ap (λ (x : List ℕ). get_or x t 0) is_b ∙ lanes_at _ t l))

-- a block is within the lists
fits : (c : goal.In-loop-i) → (16 * c.loop-i.i + 16 ≤ length c.loop-i.v) × (16 * c.loop-i.i + 16 ≤ length c.args.low.now)
    × (16 * c.loop-i.i + 16 ≤ length c.args.top.now)
fits c =
    let l = c.loop-i in
    let e : 16 * l.i + 16 ≤ length c.args.v.now = omega (arith, c.loop-i-test.true) in
    (omega (arith, l.auto.v), omega (arith, c.requires.1), omega (arith, c.requires.2))

pub loop-i-preserved : goal.loop-i-preserved
loop-i-preserved c =
    let a = c.args in
    let l = c.loop-i in
    let j = 16 * l.i in
    let r = c.plus-new in
    let p = c.plus-sum in
    let old = c.take-old in
    let low = c.take-a in
    let top = c.take-b in
    let next : 16 * (l.i + 1) ≡ j + 16 = omega arith in
    rw next
    (filled_turn 0 _ a.v.now l.v j j l.invariant (omega arith) (fits (goal.at.loop-i-preserved c).In-loop-i).0 _ _
    (omega (arith, ap length r.ensures ∙ length_lanes _)) c.copy.ensures
    (λ t k. ap (λ (x : List ℕ). get_or x t 0) r.ensures ∙ lanes_at _ t k
    ∙ sum_at a.low.now a.top.now a.v.now l.v j l.invariant old.result p.result low.result top.result
    old.ensures p.ensures low.ensures top.ensures t k))

pub returns : goal.returns
returns c =
    let a = c.args in
    let l = c.loop-i in
    let n = length a.v.now in
    let e : 16 * l.i ≡ n = omega (arith, l.auto.i-end, c.loop-i-test.false, c.requires.0) in
    filled_writes n _ a.v.now l.v (omega arith)
    (subst (λ (x : ℕ). Filled 0 (sums a.low.now a.top.now a.v.now) a.v.now l.v x) e l.invariant)
