-- THE TABLE: the paper's values with a letter, A to J, and the orders at the edge, as rows of one list.
-- Assumes nothing.
use mathlib.Core.Bool.{Bool, true, false}
use mathlib.Core.List.{List, [], ◌∷◌, ◌++◌, map, flat_map}
use mathlib.Core.Logic.{inl}
use mathlib.Core.Path.{◌≡◌, refl, sym, ap, ap₂, ◌∙◌}
use Prim.Native.Nat.{ℕ, ◌*◌, ◌+◌, ◌<◌}
use native.Mathlib.Omega.{arith}
use native.Mathlib.Decide.{dec_lt}
use lib.Dec.{T, eqb, eqb→eq, ltb, ltb→lt}
use lib.ListN.{length, get_or, take, drop, get_or-eq_default}
use Rattle.field.specs.Plus.{plus}
use Rattle.field.specs.Tests.{every}
use Rattle.field.specs.Product.{times_z, combine, times, inverse}
use Rattle.field.specs.Power.{power}
use Rattle.field.specs.Sum.{sum}
use Rattle.field.specs.Curve.{is_curve}
use Rattle.field.specs.Outcomes.{Done, number, second}
use Rattle.field.proofs.Search.{of_every}
use Rattle.poly.specs.Lists.{filter, below}
use Rattle.poly.specs.Messages.{all}
use Rattle.poly.specs.Inner.Ranges.{Below}
use Rattle.poly.specs.Inner.Polynomials.{value}
use Rattle.points.specs.Passing.{passing}
use Rattle.points.specs.Points.{ys_of, points_on}
use Rattle.points.specs.Series.{columns_by_powers, columns_of}
use Rattle.points.proofs.Series.{full_columns}
use Rattle.code.specs.Terms.{size}
use Rattle.code.specs.Word.{value_at, word_of}
use Rattle.code.specs.Inner.Grid.{order_at_most}
use Rattle.code.specs.Checks.{curve_checks, order_checks, first_bad, slice_checks}
use Rattle.code.specs.Answers.{Answer, unless_refused}
use Rattle.code.specs.Exponent.{exponent_from, exponent}
use Rattle.code.specs.Fitting.{agrees, fits, fitting}
use Rattle.code.specs.Unencoded.{unencode_checks, the_message, unencoded}
use Rattle.code.specs.Recovered.{read, reading, answer_of, recover_checks, recovered}
use Rattle.code.specs.Inner.Readable.{WordOver, grid_value, GridOf}
use Rattle.code.proofs.Readings.{Fitting, fitting_list, none_listed}
use Rattle.code.proofs.WordGrids.{only_within}

-- what the definitions give, and what the paper says
pub record Row : Type 0 where
  pub ours : List ℕ
  pub paper : List ℕ

-- points, answers and orders as lists of numbers
abbrev flat : List (ℕ × ℕ) → List ℕ
flat points = flat_map (λ (p : ℕ × ℕ). p.0 ∷ p.1 ∷ []) points

abbrev numbers : Answer → List ℕ
numbers a = number a.outcome ∷ second a.outcome ∷ a.slice

abbrev edge : ℕ → ℕ → List ℕ
edge q m = number (order_checks (is_curve q) q 1 m Done) ∷ []

abbrev room : List ℕ
room = 9 ∷ 9 ∷ 9 ∷ []

abbrev pub computed : List Row
computed =
    record { ours = times 2 2 2 ∷ times 2 2 3 ∷ times 2 3 3 ∷ []; paper = 3 ∷ 1 ∷ 2 ∷ [] }  -- A
    ∷ record { ours = times 4 2 8 ∷ times 4 9 9 ∷ inverse 4 2 ∷ []; paper = 3 ∷ 13 ∷ 9 ∷ [] }  -- B
    ∷ record { ours = flat (points_on 2 (columns_of 2 1)); paper = 0 ∷ 0 ∷ 0 ∷ 1 ∷ 1 ∷ 2 ∷ 1 ∷ 3 ∷ 2 ∷ 2 ∷ 2 ∷ 3 ∷ 3 ∷ 2 ∷ 3 ∷ 3 ∷ [] }  -- C
    ∷ record { ours = flat (take 8 (points_on 4 (columns_of 4 1))); paper = 0 ∷ 0 ∷ 0 ∷ 1 ∷ 0 ∷ 6 ∷ 0 ∷ 7 ∷ 1 ∷ 2 ∷ 1 ∷ 3 ∷ 1 ∷ 4 ∷ 1 ∷ 5 ∷ [] }  -- D
    ∷ record { ours = word_of 2 (columns_of 2 1) 3 (1 ∷ 2 ∷ 3 ∷ []); paper = 1 ∷ 2 ∷ 2 ∷ 1 ∷ 3 ∷ 0 ∷ 1 ∷ 2 ∷ [] }  -- E
    ∷ record { ours = word_of 2 (columns_of 2 1) 3 (0 ∷ 1 ∷ 1 ∷ []); paper = 0 ∷ 1 ∷ 3 ∷ 2 ∷ 0 ∷ 1 ∷ 1 ∷ 0 ∷ [] }  -- F
    ∷ record { ours = numbers (recovered 2 1 2 (0 ∷ 0 ∷ 255 ∷ 255 ∷ 255 ∷ 255 ∷ 255 ∷ 255 ∷ []) (9 ∷ 9 ∷ [])); paper = 10 ∷ 1 ∷ 9 ∷ 9 ∷ [] }  -- G
    ∷ record { ours = numbers (recovered 2 1 3 (0 ∷ 255 ∷ 255 ∷ 255 ∷ 0 ∷ 255 ∷ 255 ∷ 0 ∷ []) room); paper = 10 ∷ 1 ∷ 9 ∷ 9 ∷ 9 ∷ [] }  -- H
    ∷ record { ours = numbers (recovered 2 1 3 (0 ∷ 1 ∷ 255 ∷ 255 ∷ 0 ∷ 255 ∷ 255 ∷ 0 ∷ []) room); paper = 0 ∷ 0 ∷ 0 ∷ 1 ∷ 1 ∷ [] }  -- H
    ∷ record { ours = map (size 4) (3 ∷ 4 ∷ 11 ∷ 37 ∷ 63 ∷ []); paper = 1 ∷ 2 ∷ 6 ∷ 32 ∷ 58 ∷ [] }  -- J
    ∷ record { ours = edge 2 7 ++ edge 2 8 ++ edge 4 63 ++ edge 4 64; paper = 0 ∷ 2 ∷ 0 ∷ 2 ∷ [] }
    ∷ record { ours = times 6 2 32 ∷ inverse 6 2 ∷ []; paper = 3 ∷ 33 ∷ [] }  -- T-09: "z⁶ = z + 1"
    ∷ record { ours = flat (take 8 (points_on 8 (columns_of 8 1))); paper = 0 ∷ 0 ∷ 0 ∷ 1 ∷ 0 ∷ 14 ∷ 0 ∷ 15 ∷ 0 ∷ 22 ∷ 0 ∷ 23 ∷ 0 ∷ 24 ∷ 0 ∷ 25 ∷ [] }
    ∷ record { ours = map (size 8) (0 ∷ 8 ∷ 54 ∷ 55 ∷ 300 ∷ 511 ∷ []); paper = 1 ∷ 2 ∷ 28 ∷ 28 ∷ 273 ∷ 484 ∷ [] }
    ∷ record { ours = edge 8 511 ++ edge 8 512; paper = 0 ∷ 2 ∷ [] }
    -- T-11: series 2, of which column 3 is x = z^2 = 4; 1 before 17, and 17 before 2
    ∷ record { ours = columns_of 4 2; paper = 0 ∷ 1 ∷ 2 ∷ 4 ∷ 8 ∷ 3 ∷ 6 ∷ 12 ∷ 11 ∷ 5 ∷ 10 ∷ 7 ∷ 14 ∷ 15 ∷ 13 ∷ 9 ∷ [] }
    ∷ record { ours = flat (take 4 (drop 12 (points_on 4 (columns_of 4 2)))); paper = 4 ∷ 8 ∷ 4 ∷ 9 ∷ 4 ∷ 14 ∷ 4 ∷ 15 ∷ [] }
    ∷ record { ours = map (λ s. number (order_checks true 4 s 64 Done)) (0 ∷ 1 ∷ 2 ∷ 3 ∷ 255 ∷ []); paper = 17 ∷ 2 ∷ 2 ∷ 17 ∷ 17 ∷ [] }
    ∷ record { ours = number (order_checks (is_curve 3) 3 3 64 Done) ∷ []; paper = 1 ∷ [] }
    ∷ []

-- I: seven zeros, then 1
abbrev word_i : List ℕ
word_i = 0 ∷ 0 ∷ 0 ∷ 0 ∷ 0 ∷ 0 ∷ 0 ∷ 1 ∷ []

abbrev room_i : List ℕ
room_i = 9 ∷ 9 ∷ 9 ∷ 9 ∷ 9 ∷ 9 ∷ 9 ∷ []

abbrev pub by_weight : List Row
by_weight =
    record { ours = numbers (unencoded 2 1 7 word_i room_i); paper = 9 ∷ 0 ∷ room_i }  -- I, unencoded
    ∷ record { ours = numbers (recovered 2 1 7 word_i room_i); paper = 9 ∷ 0 ∷ room_i }  -- I, recovered
    ∷ []

abbrev pub rows : List Row
rows = computed ++ by_weight

-- ---- I: the word's grid has a term of weight 9, so no message of order 7 has the word

abbrev grid_i : List ℕ
grid_i = 0 ∷ 0 ∷ 3 ∷ 2 ∷ 1 ∷ 3 ∷ 2 ∷ 1 ∷ []

-- a list of symbols, by trying them
symbols_of : (b : ℕ) (l : List ℕ) → 0 < b → T (every (length l) (λ i. ltb (get_or l i 0) b)) → Below b l
symbols_of b l pos t i = elim (dec_lt i (length l)) [
  | yes k ↦ ltb→lt (get_or l i 0) b (of_every (length l) (λ i. ltb (get_or l i 0) b) t i k)
  | no d ↦ omega (arith, get_or-eq_default l 0 {n = i} (omega arith))
]

over : WordOver 2 (columns_of 2 1) word_i
unfolding every passing columns_of
over = record { over = full_columns 2 1 (inl refl); few = omega arith; long = refl; symbols = symbols_of 4 word_i (omega arith) tt }

takes_values : T (every 4 (λ t. every 2 (λ s. eqb (grid_value 2 (columns_of 2 1) grid_i t s) (get_or word_i (2 * t + s) 0))))
unfolding every passing value sum power times combine times_z plus ys_of columns_of
takes_values = tt

small : T (every 8 (λ i. ltb (get_or grid_i i 0) 4))
unfolding every
small = tt

gridded : GridOf 2 (columns_of 2 1) word_i grid_i
unfolding passing columns_of
gridded =
    record {
      long = refl;
      symbols = symbols_of 4 grid_i (omega arith) small;
      is = λ t s a b. eqb→eq (grid_value 2 (columns_of 2 1) grid_i t s) (get_or word_i (2 * t + s) 0)
          (of_every 2 (λ s. eqb (grid_value 2 (columns_of 2 1) grid_i t s) (get_or word_i (2 * t + s) 0))
          (of_every 4 (λ t. every 2 (λ s. eqb (grid_value 2 (columns_of 2 1) grid_i t s) (get_or word_i (2 * t + s) 0))) takes_values t a) s b);
    }

heavy : order_at_most 2 7 (length grid_i) grid_i ≡ false
unfolding order_at_most
heavy = refl

low : 7 < 2 * length (columns_of 2 1)
unfolding passing columns_of
low = omega arith

none_has : (v : List ℕ) → Fitting 4 (size 2 7) (word_of 2 (columns_of 2 1) 7) word_i v → ⊥
none_has v h =
    let z : ◌≡◌ {A = Bool} true false = sym (only_within 2 (columns_of 2 1) word_i over 7 low grid_i gridded v h) ∙ heavy in
    let o : ◌≡◌ {A = ℕ} 0 1 = cc in omega arith

none_listed_I : fitting 4 (size 2 7) (word_of 2 (columns_of 2 1) 7) word_i ≡ []
none_listed_I =
    none_listed (Fitting 4 (size 2 7) (word_of 2 (columns_of 2 1) 7) word_i) (fitting 4 (size 2 7) (word_of 2 (columns_of 2 1) 7) word_i)
    (fitting_list 4 (size 2 7) (word_of 2 (columns_of 2 1) 7) word_i) none_has

unencoded_I : numbers (unencoded 2 1 7 word_i room_i) ≡ 9 ∷ 0 ∷ room_i
unfolding unencoded order_checks curve_checks slice_checks first_bad passing columns_of
unencoded_I =
    ap (λ (l : List (List ℕ)). numbers (unless_refused (unencode_checks 2 1 7 word_i room_i) room_i (the_message l room_i))) none_listed_I

recovered_I : numbers (recovered 2 1 7 word_i room_i) ≡ 9 ∷ 0 ∷ room_i
unfolding recovered reading read answer_of order_checks curve_checks slice_checks first_bad passing columns_of
recovered_I =
    ap (λ (l : List (List ℕ)). numbers (unless_refused (recover_checks 2 1 7 word_i room_i) room_i (answer_of (read 4 l) room_i))) none_listed_I

values_computed : map (λ (r : Row). r.ours) computed ≡ map (λ (r : Row). r.paper) computed
unfolding recovered answer_of reading read fitting fits agrees every filter all below flat_map exponent exponent_from word_of value_at points_on ys_of columns_of columns_by_powers curve_checks
    passing power sum times inverse combine times_z plus order_checks first_bad slice_checks
values_computed = refl

-- THE THEOREM of all rows
pub values : map (λ (r : Row). r.ours) rows ≡ map (λ (r : Row). r.paper) rows
values = ap₂ ◌++◌ values_computed (ap₂ (λ (a b : List ℕ). a ∷ b ∷ []) unencoded_I recovered_I)
