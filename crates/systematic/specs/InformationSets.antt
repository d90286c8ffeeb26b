-- Sets of places that fix the codeword, which are called information sets: "It refuses a set of places exactly when two codewords agree on all of
-- them, whichever symbols come along" (T-10).
use Rattle.std.specs.Prelude.{Bool, true, false, not, ◌&&◌, ◌||◌, List, [], ◌∷◌, map, ◌≡◌, ℕ, ◌*◌, eqb, get_or}
use Rattle.poly.specs.Lists.{filter}
use Rattle.poly.specs.Messages.{Vector, all}
use Rattle.code.specs.Terms.{size}
use Rattle.code.specs.Word.{word_of}

-- the words of all messages
unfoldable pub codewords : ℕ → List ℕ → ℕ → List (List ℕ)
codewords q columns m = map (word_of q columns m) (all (q * q) (size q m))

-- the symbols of a word at these places
unfoldable pub symbols_at : List ℕ → List ℕ → List ℕ
symbols_at places word = map (λ p. get_or word p 0) places

unfoldable pub same_list : List ℕ → List ℕ → Bool
same_list [] [] = true
same_list [] (y ∷ ys) = false
same_list (x ∷ xs) [] = false
same_list (x ∷ xs) (y ∷ ys) = eqb x y && same_list xs ys

-- every element passes the test
unfoldable pub all_of : {A : Type 0} → (A → Bool) → List A → Bool
all_of test [] = true
all_of test (x ∷ xs) = test x && all_of test xs

-- two codewords that agree on all of the places are the same
unfoldable pub is_information_set : ℕ → List ℕ → ℕ → List ℕ → Bool
is_information_set q columns m places =
    all_of (λ a. all_of (λ b. not (same_list (symbols_at places a) (symbols_at places b)) || same_list a b) (codewords q columns m))
    (codewords q columns m)

-- the codewords with these symbols at these places
unfoldable pub codewords_with : ℕ → List ℕ → ℕ → List ℕ → List ℕ → List (List ℕ)
codewords_with q columns m places symbols = filter (λ word. same_list (symbols_at places word) symbols) (codewords q columns m)

-- "two codewords agree on all of them", in terms of the messages whose words they are
pub record TwoAgree (q : ℕ) (columns : List ℕ) (m : ℕ) (places : List ℕ) : Type 0 where
  pub one : List ℕ
  pub other : List ℕ
  pub one_message : Vector (q * q) (size q m) one
  pub other_message : Vector (q * q) (size q m) other
  pub different : word_of q columns m one ≡ word_of q columns m other → ⊥
  pub agree : symbols_at places (word_of q columns m one) ≡ symbols_at places (word_of q columns m other)
