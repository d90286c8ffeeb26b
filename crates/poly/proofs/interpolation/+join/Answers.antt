-- `interpolation::join` meets its contract, by recursion on the number of columns. Assumes nothing.
use mathlib.Core.Path.{sym, subst}
use Prim.Native.Nat.{ℕ, suc, ◌+◌, ◌-◌, ◌*◌, ◌≤◌}
use native.Mathlib.Omega.{arith}
use lib.ListN.{length, length-drop}
use lib.Seq.{length-take-le}
use Rattle.field.proofs.Fields.{field_of}
use Rattle.poly.specs.Inner.Ranges.{part}
use Rattle.poly.specs.Inner.Interpolation.{half, Node, Tree}
use Rattle.poly.proofs.Parts.{part_rest}
use Rattle.poly.proofs.Joins.{FirstJoined, BothJoined, halves, joined, left_falls, right_falls}
use Rattle.poly.proofs.Joins.{left_asks, first_joined, first_alone, right_asks, both_joined, others_alone}
use Rattle.poly.proofs.interpolation.+join.Goals as goal
use Rattle.poly.proofs.interpolation.+join.Goals.{Start, Joined-h-gt1, Joined-h-c, then-h-gt1, else-h-gt1, then-h-c, else-h-c}

-- where the two arms of each `if` meet: the first half is joined, and then both
once : (t : ℕ) (c : goal.Joined-h-gt1 t) →
    FirstJoined (field_of c.args.q) c.args.w c.args.columns.now c.args.work.now c.requires.joinable.0 c.requires.joinable.1 c.if-h-gt1.work
once t c =
    let p = c.requires.joinable.0 in
    let two = c.requires.joinable.1 in
    elim c.if-h-gt1.branch [
      | then-h-gt1 w ↦ first_joined _ _ _ _ p two c.if-h-gt1.work w.join.new.work w.join.auto.work w.work-is w.join.ensures
      | else-h-gt1 w ↦ first_alone _ _ _ _ p two c.if-h-gt1.work w.work-is w.if-h-gt1.false
    ]

twice : (t : ℕ) (c : goal.Joined-h-c t) →
    BothJoined (field_of c.args.q) c.args.w c.args.columns.now c.args.work.now c.requires.joinable.0 c.requires.joinable.1
    c.if-h-gt1.work (once t (goal.at.Joined-h-c t c).Joined-h-gt1) c.if-h-c.work
twice t c =
    let p = c.requires.joinable.0 in
    let two = c.requires.joinable.1 in
    let first = once t (goal.at.Joined-h-c t c).Joined-h-gt1 in
    elim c.if-h-c.branch [
      | then-h-c w ↦ both_joined _ _ _ _ p two _ first c.if-h-c.work w.join-then-h-c.new.work w.join-then-h-c.auto.work w.work-is w.join-then-h-c.ensures
      | else-h-c w ↦ others_alone _ _ _ _ p two _ first c.if-h-c.work w.work-is w.if-h-c.false
    ]

-- the node of all columns
node : (t : ℕ) (c : goal.Start t) → Node (field_of c.args.q) c.args.tree.now c.args.at c.args.columns.now
node t c = (c.requires.tree.0 1 c.requires.joinable.1).0

pub overflow_add-next : goal.overflow_add-next
overflow_add-next t c = omega (arith, (node t (goal.at.overflow_add-next t c).Start).room, c.requires.stride_bound)

pub overflow_add-after : goal.overflow_add-after
overflow_add-after t c =
    omega (arith, (node t (goal.at.overflow_add-after t c).Start).room, c.requires.stride_bound, c.requires.joinable.0.few)

pub join-requires : goal.join-requires
join-requires t c =
    let p = c.requires.joinable.0 in
    let two = c.requires.joinable.1 in
    let columns = c.args.columns.now in (
      left_falls _ _ _ _ p two c.decreases,
      (
        (
          left_asks _ _ _ _ p two,
          omega (arith, length-take-le (half columns) columns (omega arith)),
          λ short. ((c.requires.joinable.2 short).0, omega (arith, (c.requires.joinable.2 short).1, length-take-le (half columns) columns (omega arith))),
        ),
        ((λ n. (c.requires.tree.0 (suc n) two).1, c.requires.tree.1), c.requires.stride_bound),
      ),
    )

pub join-requires-then-h-c : goal.join-requires-then-h-c
join-requires-then-h-c t c =
    let p = c.requires.joinable.0 in
    let two = c.requires.joinable.1 in
    let columns = c.args.columns.now in
    let h = half columns in
    let right = c.args.at + c.args.stride + 2 * h in
    let tree = subst (Tree (field_of c.args.q) c.args.stride c.args.tree.now right)
    (sym (part_rest columns h)) (λ n. (c.requires.tree.0 (suc n) two).2) in
    let more : 2 ≤ length (part columns h (length columns)) =
    rw (part_rest columns h) (omega (arith, length-drop h columns, c.if-h-c.true)) in (
      right_falls _ _ _ _ p two c.decreases,
      (
        (
          right_asks _ _ _ _ p two c.if-h-gt1.work (once t (goal.at.join-requires-then-h-c t c).Joined-h-gt1),
          more,
          λ short. ((c.requires.joinable.2 short).0, rw (part_rest columns h) (omega (arith, (c.requires.joinable.2 short).1, length-drop h columns))),
        ),
        ((tree, c.requires.tree.1), c.requires.stride_bound),
      ),
    )

pub overflow_add-mid-2 : goal.overflow_add-mid-2
overflow_add-mid-2 t c = omega (arith, (node t (goal.at.overflow_add-mid-2 t c).Start).room, c.requires.stride_bound)

pub overflow_add-end-2 : goal.overflow_add-end-2
overflow_add-end-2 t c = omega (arith, (node t (goal.at.overflow_add-end-2 t c).Start).room, c.requires.stride_bound)

pub slice_bounds-combine_by_rows-end : goal.slice_bounds-combine_by_rows-end
slice_bounds-combine_by_rows-end t c = omega (arith, (node t (goal.at.slice_bounds-combine_by_rows-end t c).Start).room)

pub slice_bounds-combine_by_rows-end-then-q-eq8 : goal.slice_bounds-combine_by_rows-end-then-q-eq8
slice_bounds-combine_by_rows-end-then-q-eq8 t c =
    omega (arith, (node t (goal.at.slice_bounds-combine_by_rows-end-then-q-eq8 t c).Start).room)

pub combine_by_rows-requires : goal.combine_by_rows-requires
combine_by_rows-requires t c =
    let d = goal.at.combine_by_rows-requires t c in
    let k : ℕ = length c.args.columns.now - half c.args.columns.now + 1 in
    let h =
    halves _ _ _ _ c.requires.joinable.0 c.requires.joinable.1 _ (once t d.Joined-h-gt1) c.if-h-c.work (twice t d.Joined-h-c)
    c.args.tree.now c.args.at (c.args.at + k) (c.args.at + k + k) (node t d.Start) c.requires.tree.1 (omega arith) (omega arith) in
    rw c.if-q-eq8.true at h

pub slice_bounds-combine_by_windows-end : goal.slice_bounds-combine_by_windows-end
slice_bounds-combine_by_windows-end t c = omega (arith, (node t (goal.at.slice_bounds-combine_by_windows-end t c).Start).room)

pub slice_bounds-combine_by_windows-end-else-q-eq8 : goal.slice_bounds-combine_by_windows-end-else-q-eq8
slice_bounds-combine_by_windows-end-else-q-eq8 t c =
    omega (arith, (node t (goal.at.slice_bounds-combine_by_windows-end-else-q-eq8 t c).Start).room)

pub combine_by_windows-requires : goal.combine_by_windows-requires
combine_by_windows-requires t c =
    let d = goal.at.combine_by_windows-requires t c in
    let k : ℕ = length c.args.columns.now - half c.args.columns.now + 1 in
    let h =
    halves _ _ _ _ c.requires.joinable.0 c.requires.joinable.1 _ (once t d.Joined-h-gt1) c.if-h-c.work (twice t d.Joined-h-c)
    c.args.tree.now c.args.at (c.args.at + k) (c.args.at + k + k) (node t d.Start) c.requires.tree.1 (omega arith) (omega arith) in
    let short = c.requires.joinable.2 c.if-q-eq8.false in
    (h, short.0, short.1, c.if-q-eq8.false)

pub returns-then-q-eq8 : goal.returns-then-q-eq8
returns-then-q-eq8 t c =
    let d = goal.at.returns-then-q-eq8 t c in
    let k : ℕ = length c.args.columns.now - half c.args.columns.now + 1 in
    joined _ _ _ _ c.requires.joinable.0 c.requires.joinable.1 _ (once t d.Joined-h-gt1) c.if-h-c.work (twice t d.Joined-h-c)
    c.args.tree.now c.args.at (c.args.at + k) (c.args.at + k + k) (node t d.Start) c.requires.tree.1 (omega arith) (omega arith)
    _ (rw c.if-q-eq8.true c.combine_by_rows.ensures)

pub returns-else-q-eq8 : goal.returns-else-q-eq8
returns-else-q-eq8 t c =
    let d = goal.at.returns-else-q-eq8 t c in
    let k : ℕ = length c.args.columns.now - half c.args.columns.now + 1 in
    joined _ _ _ _ c.requires.joinable.0 c.requires.joinable.1 _ (once t d.Joined-h-gt1) c.if-h-c.work (twice t d.Joined-h-c)
    c.args.tree.now c.args.at (c.args.at + k) (c.args.at + k + k) (node t d.Start) c.requires.tree.1 (omega arith) (omega arith)
    _ c.combine_by_windows.ensures
