-- `chosen_columns::columns::widen` meets its contract: column number t of the word is moved to column columns[t].
-- Assumes nothing.
use mathlib.Core.List.{List}
use mathlib.Core.Path.{◌≡◌, sym, ap, ◌∙◌, subst}
use Prim.Native.Nat.{ℕ, ◌*◌, ◌≤◌}
use native.Mathlib.Nat.{mul-le-mul_left}
use native.Mathlib.Omega.{arith}
use lib.ListN.{length, take, length-replicate}
use lib.Seq.{length-take-le}
use Rattle.field.proofs.Curves.{sizes, short_sizes}
use Rattle.code.specs.Inner.Moving.{Moved}
use Rattle.chosen_columns.proofs.Widenings.{numbers_are, numbers_within, widened}
use Rattle.chosen_columns.proofs.columns.widen.Goals as goal
use Rattle.chosen_columns.proofs.columns.widen.Goals.{After-columns-numbers}

fits : (c : goal.After-columns-numbers) → length c.args.columns.now ≤ length c.columns-numbers.result
fits c =
    omega (arith, c.requires.0.few, (short_sizes c.args.q c.requires.1).symbols, c.columns-numbers.ensures.1)

numbers_long : (c : goal.After-columns-numbers) → let n = length c.args.columns.now in length (take n c.columns-numbers.result) ≡ n
numbers_long c = length-take-le _ _ (fits (goal.at.After-columns-numbers c).After-columns-numbers)

pub move_columns-requires : goal.move_columns-requires
move_columns-requires c =
    let x = c.args in
    let h = c.requires.0 in record {
      within = (
        numbers_within x.q x.columns.now x.word.now h (take (length x.columns.now) c.columns-numbers.result) (numbers_long (goal.at.move_columns-requires c).After-columns-numbers) (numbers_are x.q _ c.columns-numbers.ensures.0 _ h.few),
        h.over,
        sym (numbers_long (goal.at.move_columns-requires c).After-columns-numbers),
      );
      word_len_bound = (
        omega (arith, h.long, mul-le-mul_left x.q h.few, (sizes x.q h.over.curve).grid),
        ap length c.requires.2 ∙ length-replicate {A = ℕ} (x.q * x.q * x.q) 255,
      );
    }

pub returns : goal.returns
returns c =
    let x = c.args in
    let m = c.move_columns in
    let numbers = take (length x.columns.now) c.columns-numbers.result in
    widened x.q x.columns.now x.word.now c.requires.0 numbers (numbers_long (goal.at.returns c).After-columns-numbers) (numbers_are x.q _ c.columns-numbers.ensures.0 _ c.requires.0.few) _
    (subst (λ (l : List ℕ). Moved x.q numbers x.columns.now x.word.now l m.new.out (length numbers)) c.requires.2 m.ensures)
