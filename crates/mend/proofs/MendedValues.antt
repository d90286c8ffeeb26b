-- Values of the definition, one table with one theorem for all rows: the strap's t; and at q = 2 the paper's word E, of the message 1, 2, 3, with
-- one symbol changed and with two, and the refusals in their order.
-- Assumes nothing.
use mathlib.Core.Bool.{cond}
use mathlib.Core.List.{List, [], ◌∷◌, ◌++◌, map, flat_map}
use mathlib.Core.Path.{◌≡◌, refl, ap, ap₂, ◌∙◌}
use Prim.Native.Nat.{ℕ}
use lib.Dec.{eqb}
use Rattle.field.specs.Plus.{plus}
use Rattle.field.specs.Product.{times_z, combine, times}
use Rattle.field.specs.Power.{power}
use Rattle.field.specs.Sum.{sum}
use Rattle.std.specs.Prelude.{Err}
use Rattle.field.specs.Outcomes.{number, second}
use Rattle.field.specs.declared.outcome.Refusal.TheVariants.{NoneNear}
use Rattle.poly.specs.Lists.{count, filter, below}
use Rattle.poly.specs.Messages.{all}
use Rattle.points.specs.Passing.{passing}
use Rattle.points.specs.Points.{ys_of, points_on}
use Rattle.points.specs.Series.{columns_of}
use Rattle.code.specs.Terms.{size}
use Rattle.code.specs.Word.{value_at, word_of}
use Rattle.code.specs.Checks.{curve_checks, order_checks, first_bad, slice_checks}
use Rattle.code.proofs.PaperValues.{Row}
use Rattle.mend.specs.Mended.{radius, differing, marks_of, near, Mending, answered, the_near, mend_checks, mended}

-- answers as lists of numbers
abbrev numbers : Mending → List ℕ
numbers a = number a.outcome ∷ second a.outcome ∷ a.count ∷ a.message ++ a.codeword ++ a.marks

-- numbers to be written over
abbrev eight : List ℕ
eight = 9 ∷ 9 ∷ 9 ∷ 9 ∷ 9 ∷ 9 ∷ 9 ∷ 9 ∷ []

abbrev three : List ℕ
three = 9 ∷ 9 ∷ 9 ∷ []

-- the paper's word E where the symbol 2 at place 2 came as 0, and where the symbol 1 at place 3 came as 0 too
abbrev one_wrong : List ℕ
one_wrong = 1 ∷ 2 ∷ 0 ∷ 1 ∷ 3 ∷ 0 ∷ 1 ∷ 2 ∷ []

abbrev two_wrong : List ℕ
two_wrong = 1 ∷ 2 ∷ 0 ∷ 0 ∷ 3 ∷ 0 ∷ 1 ∷ 2 ∷ []

abbrev pub by_checks : List Row
by_checks =
    -- "For the strap t is 10"; at q = 2, m = 3 it is 1
    record { ours = radius 4 37 ∷ radius 2 3 ∷ []; paper = 10 ∷ 1 ∷ [] }
    -- 12 at m = 7, before 3; 2 at m = 8, before 12
    ∷ record { ours = numbers (mended 2 1 7 [] [] [] []); paper = 12 ∷ 0 ∷ 0 ∷ [] }
    ∷ record { ours = numbers (mended 2 1 8 [] [] [] []); paper = 2 ∷ 0 ∷ 0 ∷ [] }
    -- 4 for the first value, before 5; 5 for the marks
    ∷ record { ours = numbers (mended 2 1 3 eight three eight three); paper = 4 ∷ 0 ∷ 0 ∷ three ++ eight ++ three }
    ∷ record { ours = numbers (mended 2 1 3 one_wrong three eight three); paper = 5 ∷ 0 ∷ 0 ∷ three ++ eight ++ three }
    ∷ []

abbrev pub by_messages : List Row
by_messages =
    record {
      ours = numbers (mended 2 1 3 one_wrong three eight eight);
      paper = 0 ∷ 0 ∷ 1 ∷ 1 ∷ 2 ∷ 3 ∷ 1 ∷ 2 ∷ 2 ∷ 1 ∷ 3 ∷ 0 ∷ 1 ∷ 2 ∷ 0 ∷ 0 ∷ 1 ∷ 0 ∷ 0 ∷ 0 ∷ 0 ∷ 0 ∷ [];
    }
    -- two symbols wrong: 11, and nothing is written
    ∷ record { ours = numbers (mended 2 1 3 two_wrong three eight eight); paper = 11 ∷ 0 ∷ 0 ∷ three ++ eight ++ eight }
    ∷ []

abbrev pub rows : List Row
rows = by_checks ++ by_messages

-- which of the 64 messages are near, tried once for each word
abbrev near_ones : List ℕ → List (List ℕ)
near_ones word = near 4 (size 2 3) (word_of 2 (columns_of 2 1) 3) 1 word

near_one : near_ones one_wrong ≡ (1 ∷ 2 ∷ 3 ∷ []) ∷ []
unfolding near differing filter all below count flat_map word_of value_at points_on ys_of columns_of passing power sum times combine times_z plus
near_one = refl

near_none : near_ones two_wrong ≡ []
unfolding near differing filter all below count flat_map word_of value_at points_on ys_of columns_of passing power sum times combine times_z plus
near_none = refl

abbrev from_near : List ℕ → List (List ℕ) → List ℕ
from_near word l = numbers (the_near word (word_of 2 (columns_of 2 1) 3) (answered (Err NoneNear) 0 three eight eight) l)

from_near_lem : (word : List ℕ) (l : List (List ℕ)) → number (mend_checks 2 1 3 word 3 8 8) ≡ 0 → near_ones word ≡ l
    → numbers (mended 2 1 3 word three eight eight) ≡ from_near word l
unfolding mended
from_near_lem word l accepted e =
    let refused : Mending = answered (mend_checks 2 1 3 word 3 8 8) 0 three eight eight in
    let found : List (List ℕ) → Mending = the_near word (word_of 2 (columns_of 2 1) 3) (answered (Err NoneNear) 0 three eight eight) in
    ap (λ (c : ℕ). numbers (cond (eqb c 0) (found (near_ones word)) refused)) accepted ∙ ap (λ l. numbers (found l)) e

values_by_checks : map (λ (r : Row). r.ours) by_checks ≡ map (λ (r : Row). r.paper) by_checks
unfolding mended mend_checks passing curve_checks order_checks first_bad slice_checks
values_by_checks = refl

mended_one : numbers (mended 2 1 3 one_wrong three eight eight) ≡ 0 ∷ 0 ∷ 1 ∷ 1 ∷ 2 ∷ 3 ∷ 1 ∷ 2 ∷ 2 ∷ 1 ∷ 3 ∷ 0 ∷ 1 ∷ 2 ∷ 0 ∷ 0 ∷ 1 ∷ 0 ∷ 0 ∷ 0 ∷ 0 ∷ 0 ∷ []
unfolding mend_checks the_near differing marks_of below count flat_map word_of value_at points_on ys_of columns_of passing power sum times combine times_z plus
    curve_checks order_checks first_bad slice_checks
mended_one = from_near_lem one_wrong ((1 ∷ 2 ∷ 3 ∷ []) ∷ []) refl near_one

mended_none : numbers (mended 2 1 3 two_wrong three eight eight) ≡ 11 ∷ 0 ∷ 0 ∷ three ++ eight ++ eight
unfolding mend_checks the_near passing curve_checks order_checks first_bad slice_checks
mended_none = from_near_lem two_wrong [] refl near_none

-- THE THEOREM of all rows
pub values : map (λ (r : Row). r.ours) rows ≡ map (λ (r : Row). r.paper) rows
values = ap₂ ◌++◌ values_by_checks (ap₂ (λ (a b : List ℕ). a ∷ b ∷ []) mended_one mended_none)
