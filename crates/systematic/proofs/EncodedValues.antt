-- Values of the definition, one table with one theorem for all rows: at q = 2, m = 2, where a message is a + b·x and each column's two symbols are
-- the same, the places of the paper's value G, a set that does, and the refusals in their order.
-- Assumes nothing.
use mathlib.Core.List.{List, [], ◌∷◌, map, flat_map}
use mathlib.Core.Path.{◌≡◌, refl}
use Prim.Native.Nat.{ℕ}
use Rattle.field.specs.Plus.{plus}
use Rattle.field.specs.Product.{times_z, combine, times}
use Rattle.field.specs.Power.{power}
use Rattle.field.specs.Sum.{sum}
use Rattle.field.specs.Tests.{every}
use Rattle.field.specs.Outcomes.{number, second}
use Rattle.poly.specs.Lists.{filter, below}
use Rattle.poly.specs.Messages.{all}
use Rattle.points.specs.Passing.{passing}
use Rattle.points.specs.Points.{ys_of, points_on}
use Rattle.points.specs.Series.{columns_of}
use Rattle.code.specs.Answers.{Answer}
use Rattle.code.specs.Word.{value_at, word_of}
use Rattle.code.specs.Checks.{curve_checks, order_checks, first_bad, slice_checks}
use Rattle.code.proofs.PaperValues.{Row}
use Rattle.poly.specs.Ascending.{is_ascending, are_below, is_ascending_below}
use Rattle.systematic.specs.Places.{good_places}
use Rattle.systematic.specs.InformationSets.{codewords, symbols_at, same_list, all_of, is_information_set, codewords_with}
use Rattle.systematic.specs.EncodedAt.{encode_at_checks, encoded_at}

-- answers as lists of numbers
abbrev numbers : Answer → List ℕ
numbers a = number a.outcome ∷ second a.outcome ∷ a.slice

-- numbers to be written over
abbrev eight : List ℕ
eight = 9 ∷ 9 ∷ 9 ∷ 9 ∷ 9 ∷ 9 ∷ 9 ∷ 9 ∷ []

abbrev pub rows : List Row
rows =
    -- the symbols 1 and 2 in columns 0 and 1 are those of 1 + 3·x
    record { ours = numbers (encoded_at 2 1 2 (0 ∷ 2 ∷ []) (1 ∷ 2 ∷ []) eight); paper = 0 ∷ 0 ∷ 1 ∷ 1 ∷ 2 ∷ 2 ∷ 0 ∷ 0 ∷ 3 ∷ 3 ∷ [] }
    -- G's places: 16, with symbols that some codewords have and with symbols that none has
    ∷ record { ours = numbers (encoded_at 2 1 2 (0 ∷ 1 ∷ []) (0 ∷ 0 ∷ []) eight); paper = 16 ∷ 0 ∷ eight }
    ∷ record { ours = numbers (encoded_at 2 1 2 (0 ∷ 1 ∷ []) (1 ∷ 2 ∷ []) eight); paper = 16 ∷ 0 ∷ eight }
    -- 1 before 17, 17 before 2, 2 before 15, 15 before 3
    ∷ record { ours = numbers (encoded_at 8 3 512 [] [] eight); paper = 1 ∷ 0 ∷ eight }
    ∷ record { ours = numbers (encoded_at 2 3 8 [] [] eight); paper = 17 ∷ 0 ∷ eight }
    ∷ record { ours = numbers (encoded_at 2 1 8 [] [] eight); paper = 2 ∷ 0 ∷ eight }
    ∷ record { ours = numbers (encoded_at 2 1 2 (0 ∷ []) [] eight); paper = 15 ∷ 0 ∷ eight }
    -- 15: the same place twice, descending, 8
    ∷ record { ours = numbers (encoded_at 2 1 2 (2 ∷ 2 ∷ []) (1 ∷ 2 ∷ []) eight); paper = 15 ∷ 0 ∷ eight }
    ∷ record { ours = numbers (encoded_at 2 1 2 (2 ∷ 0 ∷ []) (1 ∷ 2 ∷ []) eight); paper = 15 ∷ 0 ∷ eight }
    ∷ record { ours = numbers (encoded_at 2 1 2 (0 ∷ 8 ∷ []) (1 ∷ 2 ∷ []) eight); paper = 15 ∷ 0 ∷ eight }
    -- 3 before 4, 4 with the lowest index before 5, 5 before 16
    ∷ record { ours = numbers (encoded_at 2 1 2 (0 ∷ 1 ∷ []) (4 ∷ []) eight); paper = 3 ∷ 0 ∷ eight }
    ∷ record { ours = numbers (encoded_at 2 1 2 (0 ∷ 1 ∷ []) (1 ∷ 4 ∷ []) []); paper = 4 ∷ 1 ∷ [] }
    ∷ record { ours = numbers (encoded_at 2 1 2 (0 ∷ 1 ∷ []) (1 ∷ 1 ∷ []) []); paper = 5 ∷ 0 ∷ [] }
    ∷ []

-- THE THEOREM of all rows
pub values : map (λ (r : Row). r.ours) rows ≡ map (λ (r : Row). r.paper) rows
unfolding encoded_at encode_at_checks good_places is_ascending_below is_ascending are_below every is_information_set all_of same_list symbols_at codewords codewords_with filter all below
    flat_map word_of value_at points_on ys_of columns_of passing power sum times combine times_z plus curve_checks order_checks first_bad slice_checks
values = refl
