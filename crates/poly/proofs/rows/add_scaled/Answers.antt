-- `poly::rows::add_scaled` meets its contract: block by block.
-- Assumes nothing.
use mathlib.Core.List.{List}
use mathlib.Core.Path.{◌≡◌, ap, ap₂, ◌∙◌, subst}
use Prim.Native.Nat.{ℕ, ◌+◌, ◌-◌, ◌*◌, ◌≤◌, ◌<◌}
use native.Mathlib.Omega.{arith}
use borrow.Rule.Slice.PartMut.{put_mid}
use lib.ListN.{length, get_or}
use Rattle.field.specs.Plus.{plus}
use Rattle.field.proofs.Fields.{field_of}
use Rattle.poly.specs.Inner.Lanes.{lanes}
use Rattle.poly.specs.Inner.Linear.{entry}
use Rattle.poly.specs.Inner.Rows.{added}
use Rattle.poly.proofs.Fillings.{Filled, filled_turn, filled_writes}
use Rattle.poly.proofs.LaneLaws.{length_lanes, lanes_at, lanes_below}
use Rattle.poly.proofs.rows.add_scaled.Goals as goal
use Rattle.poly.proofs.rows.add_scaled.Goals.{Start, In-loop-at, After-copy}

-- what is written
abbrev sums : ℕ → ℕ → List ℕ → List ℕ → ℕ → ℕ
sums q c src dst j = plus (entry dst j) ((field_of q).times c (entry src j))

-- what a block is given, in lanes
sum_at : (q c : ℕ) (src dst₀ dst : List ℕ) (at : ℕ) → Filled 0 (sums q c src dst₀) dst₀ dst at → (a b : List ℕ)
    → a ≡ lanes (λ t. get_or dst (at + t) 0) → b ≡ lanes (λ t. get_or src (at + t) 0) → (t : ℕ) → t < 16
    → plus (entry a t) ((field_of q).times (entry b t) c) ≡ sums q c src dst₀ (at + t)
sum_at q c src dst₀ dst at h a b is-a is_b t l =
    let z : 0 + (at + t) ≡ at + t = omega arith in
    let kept : get_or dst (at + t) 0 ≡ get_or dst₀ (at + t) 0 = rw z at (h.rest (at + t) (omega arith)) in
    ap₂ plus
    (ap (λ (x : List ℕ). get_or x t 0) is-a ∙ lanes_at _ t l ∙ kept)
    ((field_of q).times_comm (entry b t) c ∙ ap ((field_of q).times c) (ap (λ (x : List ℕ). get_or x t 0) is_b ∙ lanes_at _ t l))

-- a block is within both lists
fits : (c : goal.In-loop-at) → (c.loop-at.at + 16 ≤ length c.loop-at.dst) × (c.loop-at.at + 16 ≤ length c.args.src.now)
    × (c.loop-at.at + 16 ≤ 16 * c.args.blocks)
fits c =
    let l = c.loop-at in
    let e : l.at + 16 ≤ 16 * c.args.blocks = omega (arith, l.invariant.1.is_at, c.loop-at-test.true) in
    (omega (arith, l.invariant.1.long, c.requires.blocks_in_bounds.1), omega (arith, c.requires.blocks_in_bounds.0), e)

-- a block is written
turned : (c : goal.After-copy) → let a = c.args in let l = c.loop-at in l.at + 16 ≤ length l.dst
    → Filled 0 (sums a.q a.c a.src.now a.dst.now) a.dst.now (put_mid l.at (l.at + 16 - l.at) l.dst c.copy.new.dst) (l.at + 16)
turned c room =
    let a = c.args in
    let l = c.loop-at in
    let r = c.add_scaled-sum in
    let u = c.take-a in
    let v = c.take-b in
    filled_turn 0 _ a.dst.now l.dst l.at l.at l.invariant.1 (omega arith) room _ _
    (omega (arith, ap length r.ensures ∙ length_lanes _)) c.copy.ensures
    (λ t k. ap (λ (x : List ℕ). get_or x t 0) r.ensures ∙ lanes_at _ t k
    ∙ sum_at a.q a.c a.src.now a.dst.now l.dst l.at l.invariant.1 u.result v.result u.ensures v.ensures t k)

-- all blocks are
all : (c : goal.Start) (dst : List ℕ) (at : ℕ) → let a = c.args in
    Filled 0 (sums a.q a.c a.src.now a.dst.now) a.dst.now dst at → at ≡ 16 * a.blocks → dst ≡ added (field_of a.q) a.c (16 * a.blocks) a.src.now a.dst.now
unfolding added
all c dst at h e =
    let a = c.args in
    filled_writes (16 * a.blocks) _ a.dst.now dst c.requires.blocks_in_bounds.1
    (subst (λ (n : ℕ). Filled 0 (sums a.q a.c a.src.now a.dst.now) a.dst.now dst n) e h)

pub add_scaled-sum-requires : goal.add_scaled-sum-requires
add_scaled-sum-requires c =
    let at = c.loop-at.at in (
      c.requires.c_bound.0,
      rw c.take-b.ensures
          (lanes_below _ (field_of c.args.q).size
          (λ t k. c.requires.c_bound.1 (at + t) (omega (arith, (fits (goal.at.add_scaled-sum-requires c).In-loop-at).2)))),
      c.requires.c_bound.2,
    )

pub loop-at-preserved : goal.loop-at-preserved
loop-at-preserved c =
    let room = fits (goal.at.loop-at-preserved c).In-loop-at in
    (room.2, turned (goal.at.loop-at-preserved c).After-copy room.0)

pub returns : goal.returns
returns c = all (goal.at.returns c).Start _ c.loop-at.at c.loop-at.invariant.1 (omega (arith, c.loop-at.invariant.0, c.loop-at-test.false))

pub returns-2 : goal.returns-2
returns-2 c =
    let room = fits (goal.at.returns-2 c).In-loop-at in
    all (goal.at.returns-2 c).Start _ (c.loop-at.at + 16) (turned (goal.at.returns-2 c).After-copy room.0) (omega (arith, room.2))
