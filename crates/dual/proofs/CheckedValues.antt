-- Values of the definitions, one table with one theorem for all rows: partners, the strap's among them; and at q = 2 what the check says of the
-- paper's word E, whole and with one symbol changed, and its refusals in their order.
-- Assumes nothing.
use mathlib.Core.List.{List, [], ◌∷◌, map, flat_map}
use mathlib.Core.Path.{◌≡◌, refl}
use Prim.Native.Nat.{ℕ}
use Rattle.field.specs.Plus.{plus}
use Rattle.field.specs.Product.{times_z, combine, times}
use Rattle.field.specs.Power.{power}
use Rattle.field.specs.Sum.{sum}
use Rattle.field.specs.Tests.{every}
use Rattle.field.specs.Outcomes.{number, second}
use Rattle.poly.specs.Lists.{below, one_if}
use Rattle.poly.specs.Messages.{all}
use Rattle.points.specs.Passing.{passing}
use Rattle.points.specs.Points.{ys_of, points_on}
use Rattle.points.specs.Series.{columns_of}
use Rattle.code.specs.Checks.{curve_checks, order_checks, first_bad}
use Rattle.code.specs.Word.{value_at, word_of}
use Rattle.code.proofs.PaperValues.{Row}
use Rattle.dual.specs.Partner.{partner}
use Rattle.dual.specs.Checked.{is_orthogonal, check_checks, checked}
use Rattle.dual.specs.Checked.{Verdict}

-- a verdict as numbers: those of the outcome, and 1 for yes
abbrev numbers : Verdict → List ℕ
numbers v = number v.outcome ∷ second v.outcome ∷ one_if v.codeword ∷ []

-- the paper's word E, and with the symbol 2 at place 2 changed to 0
abbrev word_e : List ℕ
word_e = 1 ∷ 2 ∷ 2 ∷ 1 ∷ 3 ∷ 0 ∷ 1 ∷ 2 ∷ []

abbrev changed : List ℕ
changed = 1 ∷ 2 ∷ 0 ∷ 1 ∷ 3 ∷ 0 ∷ 1 ∷ 2 ∷ []

abbrev pub rows : List Row
rows =
    -- "For the strap, 37 is its own partner."
    record { ours = partner 4 37 ∷ []; paper = 37 ∷ [] }
    -- the lowest order and the highest are partners
    ∷ record { ours = partner 2 1 ∷ partner 4 11 ∷ partner 8 55 ∷ []; paper = 7 ∷ 63 ∷ 511 ∷ [] }
    -- yes and no at m = 6, the partner of 2
    ∷ record { ours = numbers (checked 2 1 6 word_e); paper = 0 ∷ 0 ∷ 1 ∷ [] }
    ∷ record { ours = numbers (checked 2 1 6 changed); paper = 0 ∷ 0 ∷ 0 ∷ [] }
    -- 17 before 2, 2 before 3, 19 at m = 0, before 3, and 3 before 4
    ∷ record { ours = numbers (checked 2 3 8 []); paper = 17 ∷ 0 ∷ 0 ∷ [] }
    ∷ record { ours = numbers (checked 2 1 8 []); paper = 2 ∷ 0 ∷ 0 ∷ [] }
    ∷ record { ours = numbers (checked 2 1 0 []); paper = 19 ∷ 0 ∷ 0 ∷ [] }
    ∷ record { ours = numbers (checked 2 1 6 (255 ∷ [])); paper = 3 ∷ 0 ∷ 0 ∷ [] }
    -- 4 for the value at place 3
    ∷ record { ours = numbers (checked 2 1 6 (1 ∷ 2 ∷ 2 ∷ 4 ∷ 3 ∷ 255 ∷ 1 ∷ 2 ∷ [])); paper = 4 ∷ 3 ∷ 0 ∷ [] }
    ∷ []

-- THE THEOREM of all rows
pub values : map (λ (r : Row). r.ours) rows ≡ map (λ (r : Row). r.paper) rows
unfolding checked check_checks is_orthogonal every all below flat_map word_of value_at points_on ys_of columns_of passing power sum times combine times_z plus order_checks curve_checks first_bad
values = refl
