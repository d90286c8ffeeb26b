-- `systematic::term_words::multiply` meets its contract: block by block.
-- Assumes nothing.
use mathlib.Core.List.{List}
use mathlib.Core.Path.{◌≡◌, ap, ap₂, ◌∙◌, subst}
use Prim.Native.Nat.{ℕ, ◌+◌, ◌*◌, ◌≤◌, ◌<◌}
use native.Mathlib.Omega.{arith}
use lib.ListN.{length, get_or}
use Rattle.field.proofs.Fields.{field_of}
use Rattle.poly.specs.Inner.Lanes.{lanes}
use Rattle.poly.specs.Inner.Linear.{entry}
use Rattle.poly.proofs.Fillings.{Filled, filled_turn, filled_writes, filled_below}
use Rattle.poly.proofs.LaneLaws.{length_lanes, lanes_at, lanes_below}
use Rattle.systematic.proofs.term_words.multiply.Goals as goal
use Rattle.systematic.proofs.term_words.multiply.Goals.{In-loop-i}

-- what is written
abbrev products : ℕ → List ℕ → List ℕ → ℕ → ℕ
products q by row j = (field_of q).times (entry by j) (entry row j)

-- what a block is given, in lanes
product_at : (q : ℕ) (by row₀ row : List ℕ) (j : ℕ) → Filled 0 (products q by row₀) row₀ row j → (a old : List ℕ)
    → a ≡ lanes (λ t. get_or by (j + t) 0) → old ≡ lanes (λ t. get_or row (j + t) 0)
    → (t : ℕ) → t < 16 → (field_of q).times (entry a t) (entry old t) ≡ products q by row₀ (j + t)
product_at q by row₀ row j h a old is-a is-old t l =
    let z : 0 + (j + t) ≡ j + t = omega arith in
    let kept : get_or row (j + t) 0 ≡ get_or row₀ (j + t) 0 = rw z at (h.rest (j + t) (omega arith)) in
    ap₂ (field_of q).times
    (ap (λ (x : List ℕ). get_or x t 0) is-a ∙ lanes_at _ t l)
    (ap (λ (x : List ℕ). get_or x t 0) is-old ∙ lanes_at _ t l ∙ kept)

-- a block is within the lists
fits : (c : goal.In-loop-i) → (16 * c.loop-i.i + 16 ≤ length c.loop-i.row) × (16 * c.loop-i.i + 16 ≤ length c.args.by.now)
fits c =
    let e : 16 * c.loop-i.i + 16 ≤ length c.args.row.now = omega (arith, c.loop-i-test.true) in
    (omega (arith, c.loop-i.auto.row), omega (arith, c.requires.row_len.1))

pub multiply_in-new-requires-clause-symbols : goal.multiply_in-new-requires-clause-symbols
multiply_in-new-requires-clause-symbols c =
    let l = c.loop-i in
    let n = (field_of c.args.q).size in (
      rw c.take-a.ensures (lanes_below _ n (λ t k. c.requires.below.0 (16 * l.i + t))),
      rw c.take-old.ensures
          (lanes_below _ n (λ t k. filled_below n _ c.args.row.now l.row (16 * l.i) l.invariant c.requires.below.1
          (λ e. (field_of c.args.q).times_lt _ _) (16 * l.i + t))),
    )

pub loop-i-preserved : goal.loop-i-preserved
loop-i-preserved c =
    let a = c.args in
    let l = c.loop-i in
    let j = 16 * l.i in
    let r = c.multiply_in-new in
    let old = c.take-old in
    let by = c.take-a in
    let next : 16 * (l.i + 1) ≡ j + 16 = omega arith in
    rw next
    (filled_turn 0 _ a.row.now l.row j j l.invariant (omega arith) (fits (goal.at.loop-i-preserved c).In-loop-i).0 _ _
    (omega (arith, ap length r.ensures ∙ length_lanes _)) c.copy.ensures
    (λ t k. ap (λ (x : List ℕ). get_or x t 0) r.ensures ∙ lanes_at _ t k
    ∙ product_at a.q a.by.now a.row.now l.row j l.invariant by.result old.result by.ensures old.ensures t k))

pub returns : goal.returns
returns c =
    let a = c.args in
    let l = c.loop-i in
    let n = length a.row.now in
    let e : 16 * l.i ≡ n = omega (arith, l.auto.i-end, c.loop-i-test.false, c.requires.row_len.0) in
    filled_writes n _ a.row.now l.row (omega arith)
    (subst (λ (x : ℕ). Filled 0 (products a.q a.by.now a.row.now) a.row.now l.row x) e l.invariant)
