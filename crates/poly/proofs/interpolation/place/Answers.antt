-- `interpolation::place` meets its contract: block by block. Assumes nothing.
use mathlib.Core.Path.{refl, ap, ◌∙◌, subst}
use mathlib.Core.List.{List}
use Prim.Native.Nat.{ℕ, ◌+◌, ◌-◌, ◌≤◌, ◌<◌}
use native.Mathlib.Omega.{arith}
use borrow.Rule.Slice.PartMut.{put_mid}
use lib.ListN.{length, get_or, length-replicate}
use Rattle.poly.specs.Inner.Interpolation.{Placed}
use Rattle.poly.proofs.Fillings.{Filled, filled_turn, filled_placed, block_room, block_end}
use Rattle.poly.proofs.LaneLaws.{length_lanes, lanes_at}
use Rattle.poly.proofs.interpolation.place.Goals as goal
use Rattle.poly.proofs.interpolation.place.Goals.{Start, In-loop-at, After-copy}

-- the block is within the list
fits : (c : goal.In-loop-at) → 32 + c.loop-at.at + 16 ≤ length c.loop-at.out
fits c =
    let l = c.loop-at in
    block_end c.args.n l.at (length l.out) l.invariant.1.blocks l.invariant.1.is_at c.requires.n_bound.0
    (l.invariant.1.long ∙ ap length c.requires.out_value ∙ length-replicate {A = ℕ} 96 0) c.loop-at-test.true

pub take-a-requires : goal.take-a-requires
take-a-requires c =
    let l = c.loop-at in
    block_room c.args.n (length c.args.src.now) l.at c.requires.n_bound.1 l.invariant.1.blocks l.invariant.1.is_at c.loop-at-test.true

-- the block is written
turned : (c : goal.After-copy) → let l = c.loop-at in let from = 32 + l.at in from + 16 ≤ length l.out
    → Filled 32 (λ e. get_or c.args.src.now e 0) c.args.out.now (put_mid from (from + 16 - from) l.out c.copy.new.dst) (l.at + 16)
turned c room =
    let l = c.loop-at in
    let t = c.take-a in
    filled_turn 32 (λ e. get_or c.args.src.now e 0) c.args.out.now l.out l.at (32 + l.at) l.invariant.1 refl room _ _
    (omega (arith, ap length t.ensures, length_lanes (λ t. get_or c.args.src.now (l.at + t) 0))) c.copy.ensures
    (λ i k. ap (λ (x : List ℕ). get_or x i 0) t.ensures ∙ lanes_at _ i k)

-- all blocks are
all : (c : goal.Start) (out : List ℕ) (at : ℕ) → Filled 32 (λ e. get_or c.args.src.now e 0) c.args.out.now out at → c.args.n ≤ at
    → at < c.args.n + 16 → Placed c.args.n c.args.src.now out
all c out at h =
    filled_placed c.args.n c.args.src.now out at c.requires.n_bound.2 c.requires.n_bound.0
    (subst (λ (x : List ℕ). Filled 32 (λ e. get_or c.args.src.now e 0) x out at) c.requires.out_value h)

pub loop-at-preserved : goal.loop-at-preserved
loop-at-preserved c =
    (omega (arith, c.loop-at-test.true), turned (goal.at.loop-at-preserved c).After-copy (fits (goal.at.loop-at-preserved c).In-loop-at))

pub returns : goal.returns
returns c = all (goal.at.returns c).Start _ c.loop-at.at c.loop-at.invariant.1 c.loop-at-test.false c.loop-at.invariant.0

pub returns-2 : goal.returns-2
returns-2 c =
    all (goal.at.returns-2 c).Start _ (c.loop-at.at + 16)
    (turned (goal.at.returns-2 c).After-copy (fits (goal.at.returns-2 c).In-loop-at)) (omega arith) (omega (arith, c.loop-at-test.true))
