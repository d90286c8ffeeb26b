-- The values of a message are linear in it, and its word has them at the points of the columns.
-- Assumes nothing.
use mathlib.Core.Path.{◌≡◌, ap, ◌∙◌}
use mathlib.Core.List.{List}
use Prim.Native.Nat.{ℕ, ◌<◌}
use lib.ListN.{length, get_or, length-map}
use Rattle.field.specs.Plus.{plus}
use Rattle.field.proofs.Sums.{sum_cong, sum_plus, sum_lt}
use Rattle.field.proofs.Fields.{field_of}
use Rattle.poly.proofs.Lists.{get_or_map}
use Rattle.points.specs.Points.{points_on}
use Rattle.code.specs.Terms.{weights, size}
use Rattle.code.specs.Word.{monomial, value_at, word_of}

pub value_lt : (q m : ℕ) (message : List ℕ) (x y : ℕ) → value_at q m message x y < (field_of q).size
unfolding value_at
value_lt q m message x y =
    sum_lt (field_of q) (size q m) (λ n. (field_of q).times (monomial q (get_or (weights q m) n 0) x y) (get_or message n 0))
    (λ n l. (field_of q).times_lt (monomial q (get_or (weights q m) n 0) x y) (get_or message n 0))

-- the value of a sum of messages
pub value_plus : (q m : ℕ) (s v w : List ℕ) → ((i : ℕ) → i < size q m → get_or s i 0 ≡ plus (get_or v i 0) (get_or w i 0)) → (x y : ℕ)
    → value_at q m s x y ≡ plus (value_at q m v x y) (value_at q m w x y)
unfolding value_at
value_plus q m s v w e x y =
    sum_cong (size q m) (at s) (λ i. plus (at v i) (at w i))
    (λ i l. ap ((field_of q).times (monomial q (get_or (weights q m) i 0) x y)) (e i l) ∙ (field_of q).times_plus _ _ _)
    ∙ sum_plus (size q m) (at v) (at w)
  where
    at : List ℕ → ℕ → ℕ
    at message i = (field_of q).times (monomial q (get_or (weights q m) i 0) x y) (get_or message i 0)

-- the point at a place; past the last, the point (0, 0)
abbrev pub point_at : ℕ → List ℕ → ℕ → ℕ × ℕ
point_at q columns t = get_or (points_on q columns) t (0, 0)

pub length_word : (q : ℕ) (columns : List ℕ) (m : ℕ) (message : List ℕ) → length (word_of q columns m message) ≡ length (points_on q columns)
unfolding word_of
length_word q columns m message = length-map (points_on q columns) (λ p. value_at q m message p.0 p.1)

pub word_at_point : (q : ℕ) (columns : List ℕ) (m : ℕ) (message : List ℕ) (t : ℕ) → t < length (points_on q columns)
    → get_or (word_of q columns m message) t 0 ≡ value_at q m message (point_at q columns t).0 (point_at q columns t).1
unfolding word_of
word_at_point q columns m message t = get_or_map (λ p. value_at q m message p.0 p.1) (points_on q columns) (0, 0) 0 t

pub word_symbol : (q : ℕ) (columns : List ℕ) (m : ℕ) (message : List ℕ) (t : ℕ) → t < length (points_on q columns)
    → get_or (word_of q columns m message) t 0 < (field_of q).size
word_symbol q columns m message t l =
    rw (word_at_point q columns m message t l) (value_lt q m message (point_at q columns t).0 (point_at q columns t).1)
