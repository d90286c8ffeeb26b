-- `chosen_columns::read_word` meets its contract: by the grid of the word. Assumes nothing.
use mathlib.Core.Path.{◌∙◌}
use Prim.Native.Nat.{◌≤◌}
use native.Mathlib.Omega.{arith}
use lib.ListN.{length, take}
use Rattle.code.proofs.Stages.{columns_short}
use Rattle.code.proofs.WordGrids.{front_grid, read_answer}
use Rattle.chosen_columns.proofs.read_word.Goals as goal
use Rattle.chosen_columns.proofs.read_word.Goals.{After-interpolate_over-grid, Start}

-- the word is no longer than the array
few : (c : goal.Start) → length c.args.word.now ≤ 64
few c =
    let h = c.requires.0.whole in
    omega (arith, h.long, columns_short c.args.q c.args.columns.now h.over c.requires.1 h.few)

-- what is lent of the grid
room : (c : goal.After-interpolate_over-grid) → length c.args.word.now ≤ length c.interpolate_over-grid.result
room c = omega (arith, few (goal.at.After-interpolate_over-grid c).Start, c.interpolate_over-grid.ensures.1)

pub returns : goal.returns
returns c =
    let a = c.args in
    let n = length a.word.now in
    let r = c.interpolate_over-grid in
    read_answer a.q a.columns.now a.word.now c.requires.0.whole a.m c.requires.0.order (take n r.result)
    (front_grid a.q a.columns.now a.word.now c.requires.0.whole r.result r.ensures.0 (room (goal.at.returns c).After-interpolate_over-grid)) a.message.now
    ∙ c.read_grid.ensures
