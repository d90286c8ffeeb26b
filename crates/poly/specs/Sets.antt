-- The elements that have a property: a list of them, one alone, two or more, just n.
use Rattle.std.specs.Prelude.{◌≡◌, ℕ, length}
use mathlib.Core.List.{List, Memᴰ as Mem}
use Rattle.poly.specs.Lists.{Nodup}

module _ {A : Type 0} where
  -- the list has just those with the property P, each once
  pub record ListOf (P : A → Type 0) (list : List A) : Type 0 where
    pub distinct : Nodup list
    pub sound : (x : A) → Mem x list → P x
    pub whole : (x : A) → P x → Mem x list

  -- x has it, and nothing else
  pub record Alone (P : A → Type 0) (x : A) : Type 0 where
    pub has : P x
    pub only : (y : A) → P y → y ≡ x

  -- two different elements have it
  pub record TwoOrMore (P : A → Type 0) : Type 0 where
    pub one : A
    pub other : A
    pub one_has : P one
    pub other_has : P other
    pub different : one ≡ other → ⊥

  -- just n elements have it
  pub record Exactly (n : ℕ) (P : A → Type 0) : Type 0 where
    pub list : List A
    pub lists : ListOf P list
    pub counted : length list ≡ n
