-- Values of the definitions, one table with one theorem for all rows: at q = 2 the paper's message 1 2 3 over some of the columns, the divisor
-- that isn't 1, and the refusals in their order.
-- Assumes nothing.
use mathlib.Core.List.{List, [], ◌∷◌, map, flat_map}
use mathlib.Core.Path.{◌≡◌, refl}
use Prim.Native.Nat.{ℕ}
use Rattle.field.specs.Plus.{plus}
use Rattle.field.specs.Product.{times_z, combine, times}
use Rattle.field.specs.Power.{power}
use Rattle.field.specs.Sum.{sum}
use Rattle.field.specs.Tests.{every}
use Rattle.field.specs.Outcomes.{number, second}
use Rattle.field.proofs.Fields.{field_of}
use Rattle.poly.specs.Ascending.{is_ascending, are_below, is_ascending_below}
use Rattle.poly.specs.Lists.{filter, below}
use Rattle.poly.specs.Messages.{all}
use Rattle.poly.specs.Inner.Polynomials.{value, derivative, linear, vanishing}
use Rattle.points.specs.Passing.{passing}
use Rattle.points.specs.Points.{ys_of, points_on}
use Rattle.code.specs.Answers.{Answer}
use Rattle.code.specs.Exponent.{exponent, exponent_from}
use Rattle.code.specs.Fitting.{agrees, fits, fitting}
use Rattle.code.specs.Recovered.{read, reading, answer_of}
use Rattle.code.specs.Word.{value_at, word_of}
use Rattle.code.specs.Checks.{first_bad, slice_checks}
use Rattle.code.proofs.PaperValues.{Row}
use Rattle.chosen_columns.specs.ColumnLists.{is_column_list, on_checks}
use Rattle.chosen_columns.specs.EncodedOn.{encoded_on}
use Rattle.chosen_columns.specs.UnencodedOn.{unencoded_on}
use Rattle.chosen_columns.specs.RecoveredOn.{recovered_on}

-- answers as lists of numbers
abbrev numbers : Answer → List ℕ
numbers a = number a.outcome ∷ second a.outcome ∷ a.slice

-- the value, at column x, of the derivative of the vanishing polynomial of a list of columns of q = 2
abbrev divisor : List ℕ → ℕ → ℕ
divisor columns x = value (field_of 2) 4 (derivative (vanishing (field_of 2) columns)) x

-- numbers to be written over
abbrev three : List ℕ
three = 9 ∷ 9 ∷ 9 ∷ []

abbrev four : List ℕ
four = 9 ∷ 9 ∷ 9 ∷ 9 ∷ []

abbrev pub rows : List Row
rows =
    -- E's word 1 2 2 1 3 0 1 2 has 2 1 in column 1 and 1 2 in column 3
    record { ours = numbers (encoded_on 2 (1 ∷ 3 ∷ []) 3 (1 ∷ 2 ∷ 3 ∷ []) four); paper = 0 ∷ 0 ∷ 2 ∷ 1 ∷ 1 ∷ 2 ∷ [] }
    ∷ record { ours = numbers (unencoded_on 2 (1 ∷ 3 ∷ []) 3 (2 ∷ 1 ∷ 1 ∷ 2 ∷ []) three); paper = 0 ∷ 0 ∷ 1 ∷ 2 ∷ 3 ∷ [] }
    ∷ record { ours = numbers (unencoded_on 2 (1 ∷ 3 ∷ []) 3 (2 ∷ 1 ∷ 1 ∷ 1 ∷ []) three); paper = 9 ∷ 0 ∷ three }
    ∷ record { ours = numbers (recovered_on 2 (1 ∷ 3 ∷ []) 3 (2 ∷ 1 ∷ 1 ∷ 255 ∷ []) three); paper = 0 ∷ 0 ∷ 1 ∷ 2 ∷ 3 ∷ [] }
    ∷ record { ours = numbers (recovered_on 2 (1 ∷ 3 ∷ []) 3 (2 ∷ 1 ∷ 255 ∷ 255 ∷ []) three); paper = 10 ∷ 1 ∷ three }
    -- over all columns the divisor is 1, over 0 1 2 it is 2, 3 and 1
    ∷ record { ours = map (divisor (0 ∷ 1 ∷ 2 ∷ 3 ∷ [])) (0 ∷ 1 ∷ 2 ∷ 3 ∷ []); paper = 1 ∷ 1 ∷ 1 ∷ 1 ∷ [] }
    ∷ record { ours = map (divisor (0 ∷ 1 ∷ 2 ∷ [])) (0 ∷ 1 ∷ 2 ∷ []); paper = 2 ∷ 3 ∷ 1 ∷ [] }
    -- 1 before 18, 18 before 2, 2 before 3
    ∷ record { ours = numbers (encoded_on 8 [] 512 [] four); paper = 1 ∷ 0 ∷ four }
    ∷ record { ours = numbers (encoded_on 2 [] 8 [] four); paper = 18 ∷ 0 ∷ four }
    ∷ record { ours = numbers (encoded_on 2 (1 ∷ 3 ∷ []) 4 [] four); paper = 2 ∷ 0 ∷ four }
    -- 18: the same column twice, descending, 4
    ∷ record { ours = numbers (encoded_on 2 (1 ∷ 1 ∷ []) 3 (1 ∷ 2 ∷ 3 ∷ []) four); paper = 18 ∷ 0 ∷ four }
    ∷ record { ours = numbers (encoded_on 2 (3 ∷ 1 ∷ []) 3 (1 ∷ 2 ∷ 3 ∷ []) four); paper = 18 ∷ 0 ∷ four }
    ∷ record { ours = numbers (encoded_on 2 (1 ∷ 4 ∷ []) 3 (1 ∷ 2 ∷ 3 ∷ []) four); paper = 18 ∷ 0 ∷ four }
    -- 3 before 4, 4 with the lowest index before 5, 5
    ∷ record { ours = numbers (encoded_on 2 (1 ∷ 3 ∷ []) 3 (4 ∷ []) four); paper = 3 ∷ 0 ∷ four }
    ∷ record { ours = numbers (encoded_on 2 (1 ∷ 3 ∷ []) 3 (1 ∷ 4 ∷ 4 ∷ []) []); paper = 4 ∷ 1 ∷ [] }
    ∷ record { ours = numbers (encoded_on 2 (1 ∷ 3 ∷ []) 3 (1 ∷ 2 ∷ 3 ∷ []) []); paper = 5 ∷ 0 ∷ [] }
    ∷ []

-- THE THEOREM of all rows
pub values : map (λ (r : Row). r.ours) rows ≡ map (λ (r : Row). r.paper) rows
unfolding encoded_on unencoded_on recovered_on on_checks is_column_list is_ascending_below is_ascending are_below every reading read answer_of exponent exponent_from fitting agrees fits
    filter all below flat_map word_of value_at points_on ys_of passing power sum times combine times_z plus first_bad slice_checks value derivative linear vanishing
values = refl
