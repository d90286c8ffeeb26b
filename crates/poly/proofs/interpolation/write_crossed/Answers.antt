-- `interpolation::write_crossed` meets its contract: block by block. Assumes nothing.
use mathlib.Core.Path.{ap, ◌∙◌}
use mathlib.Core.List.{List}
use Prim.Native.Nat.{ℕ, ◌+◌, ◌-◌, ◌≤◌}
use native.Mathlib.Nat.{add_assoc}
use native.Mathlib.Omega.{arith}
use borrow.Rule.Slice.PartMut.{put_mid}
use lib.ListN.{length, get_or}
use Rattle.field.proofs.Fields.{field_of}
use Rattle.poly.specs.Inner.Ranges.{Below}
use Rattle.poly.specs.Inner.Interpolation.{crossed, Written}
use Rattle.poly.proofs.Fillings.{Filled, filled_turn, filled_written, filled_below, block_room}
use Rattle.poly.proofs.Crossings.{crossed_lt}
use Rattle.poly.proofs.LaneLaws.{length_lanes, lanes_at}
use Rattle.poly.proofs.interpolation.write_crossed.Goals as goal
use Rattle.poly.proofs.interpolation.write_crossed.Goals.{Start, In-loop-at, After-copy}

-- what is written
abbrev product : (c : goal.Start) → ℕ → ℕ
product c p = let a = c.args in crossed (field_of a.q) a.w (length a.f.now) a.f.now a.g.now a.left.now a.right.now (32 + p)

-- the block is within the list
fits : (c : goal.In-loop-at) → c.loop-at.at + 16 ≤ length c.loop-at.work
fits c =
    let l = c.loop-at in
    rw l.invariant.long
    (block_room c.args.n (length c.args.work.now) l.at c.requires.by_index.0 l.invariant.blocks l.invariant.is_at c.loop-at-test.true)

-- the block is written
turned : (c : goal.After-copy) → let a = c.args in let l = c.loop-at in l.at + 16 ≤ length l.work
    → Filled 0 (λ p. crossed (field_of a.q) a.w (length a.f.now) a.f.now a.g.now a.left.now a.right.now (32 + p))
    a.work.now (put_mid l.at (l.at + 16 - l.at) l.work c.copy.new.dst) (l.at + 16)
turned c room =
    let a = c.args in
    let l = c.loop-at in
    let r = c.cross-a in
    filled_turn 0 _ a.work.now l.work l.at l.at l.invariant (omega arith) room _ _
    (omega (arith, ap length r.ensures ∙ length_lanes _)) c.copy.ensures
    (λ i k. ap (λ (x : List ℕ). get_or x i 0) r.ensures ∙ lanes_at _ i k
    ∙ ap (crossed (field_of a.q) a.w (length a.f.now) a.f.now a.g.now a.left.now a.right.now)
    (add_assoc 32 l.at i))

-- all blocks are
all : (c : goal.Start) (work : List ℕ) (at : ℕ) → Filled 0 (product c) c.args.work.now work at → c.args.n ≤ at
    → Written c.args.n (product c) work × Below (field_of c.args.q).size work
all c work at h l =
    let a = c.args in (
      filled_written a.n (product c) a.work.now work at h l,
      filled_below (field_of a.q).size (product c) a.work.now work at h c.requires.by_index.1
          (λ e. crossed_lt (field_of a.q) a.w a.f.now a.g.now a.left.now a.right.now (length a.f.now) (32 + e)),
    )

pub slice_bounds-copy-end-in-loop-at : goal.slice_bounds-copy-end-in-loop-at
slice_bounds-copy-end-in-loop-at c = fits (goal.at.slice_bounds-copy-end-in-loop-at c).In-loop-at

pub loop-at-preserved : goal.loop-at-preserved
loop-at-preserved c = turned (goal.at.loop-at-preserved c).After-copy (fits (goal.at.loop-at-preserved c).In-loop-at)

pub returns : goal.returns
returns c = all (goal.at.returns c).Start _ c.loop-at.at c.loop-at.invariant c.loop-at-test.false

pub returns-2 : goal.returns-2
returns-2 c =
    all (goal.at.returns-2 c).Start _ (c.loop-at.at + 16)
    (turned (goal.at.returns-2 c).After-copy (fits (goal.at.returns-2 c).In-loop-at)) (omega arith)
