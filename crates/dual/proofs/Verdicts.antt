-- What the check computes and what it says: the sums against the terms are 0 exactly where the test of all codewords is passed, and that
-- exactly where each codeword's products add up to 0.
-- Assumes nothing.
use mathlib.Core.Bool.{Bool, true, false}
use mathlib.Core.List.{List, []}
use mathlib.Core.Path.{◌≡◌, refl, sym, ap, ◌∙◌}
use Prim.Native.Nat.{ℕ, ◌*◌}
use borrow.Author.Tests.{eqb-true, eq-eqb}
use lib.Dec.{eqb}
use lib.ListN.{length, get_or}
use Rattle.field.specs.Curve.{curve_of}
use Rattle.field.specs.Power.{power}
use Rattle.field.specs.Tests.{every}
use Rattle.field.proofs.Fields.{field_of}
use Rattle.field.proofs.Search.{of_every, to_every}
use Rattle.field.proofs.Sums.{sum_cong}
use Rattle.poly.specs.Messages.{all}
use Rattle.poly.proofs.Bools.{T_true}
use Rattle.poly.proofs.Lists.{mem_get_or, each_mem}
use Rattle.poly.proofs.Messages.{mem_all, of_mem_all}
use Rattle.code.specs.Terms.{size}
use Rattle.code.specs.Word.{word_of}
use Rattle.dual.specs.Orthogonal.{product_sum, Orthogonal}
use Rattle.dual.specs.Checked.{is_orthogonal}
use Rattle.dual.specs.Inner.PointSums.{AllColumns, term_sum}
use Rattle.dual.specs.Inner.StagedSums.{column_sum, sum_by_power_of_x, staged_sum, TermsVanish, Tells}
use Rattle.dual.proofs.Orthogonality.{terms_zero, of_terms_zero, by_columns}

-- the test of all codewords
module _ (q : ℕ) (columns : List ℕ) (m : ℕ) (word : List ℕ) where
  messages : List (List ℕ)
  messages = all (curve_of q).symbols (size q m)

  passes : ℕ → Bool
  passes i = eqb (product_sum q word (word_of q columns m (get_or messages i []))) 0

  pub orthogonal_of_test : is_orthogonal q columns m word ≡ true → Orthogonal q columns m word
  unfolding is_orthogonal messages passes
  orthogonal_of_test e other (message, v, is_other) =
      ap (product_sum q word) (sym is_other)
      ∙ each_mem (λ (u : List ℕ). product_sum q word (word_of q columns m u) ≡ 0) [] messages
      (λ i l. eqb-true _ 0 (T_true (passes i) (of_every (length messages) passes (rw e tt) i l))) message (mem_all (curve_of q).symbols (size q m) message v)

  pub test_of_orthogonal : Orthogonal q columns m word → is_orthogonal q columns m word ≡ true
  unfolding is_orthogonal messages passes
  test_of_orthogonal h =
      T_true (every (length messages) passes)
      (to_every (length messages) passes
      (λ i l.
      let message = get_or messages i [] in
      let zero : product_sum q word (word_of q columns m message) ≡ 0
      = h (word_of q columns m message) (message, of_mem_all (curve_of q).symbols (size q m) message (mem_get_or messages [] i l), refl) in
      rw (eq-eqb (product_sum q word (word_of q columns m message)) 0 zero) tt))

-- two tests that are passed in the same cases
same_bool : (a b : Bool) → (a ≡ true → b ≡ true) → (b ≡ true → a ≡ true) → a ≡ b
same_bool true b f g = sym (f refl)
same_bool false true f g = g refl
same_bool false false f g = refl

module _ (q : ℕ) (columns : List ℕ) (f : AllColumns q columns) (m : ℕ) (word : List ℕ) where
  -- the sums in two stages, over all columns
  staged : (i j : ℕ) → staged_sum q columns word i j ≡ term_sum q columns word i j
  staged i j =
      ap (λ (n : ℕ). sum_by_power_of_x n q columns i (column_sum q columns word j)) f.full
      ∙ sum_cong (q * q) _ _ (λ t l. (field_of q).times_comm (column_sum q columns word j t) (power (field_of q) (get_or columns t 0) i))
      ∙ sym (by_columns q columns f word i j)

  -- THE TEST: what tells whether the sums in two stages are 0 is the test of all codewords
  pub told_orthogonal : (b : Bool) → Tells b (TermsVanish q m (staged_sum q columns word)) → b ≡ is_orthogonal q columns m word
  told_orthogonal b told =
      same_bool b (is_orthogonal q columns m word)
      (λ e. test_of_orthogonal q columns m word (of_terms_zero q columns f m word (λ i j l w. sym (staged i j) ∙ told.0 e j l i w)))
      (λ e. told.1 (λ j l i w. staged i j ∙ terms_zero q columns f m word (orthogonal_of_test q columns m word e) i j l w))
