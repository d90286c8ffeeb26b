-- Tests and their values.
-- Assumes nothing.
use mathlib.Core.Path.{◌≡◌, refl}
use mathlib.Core.Bool.{Bool, true, false, not, ◌&&◌, ◌||◌}
use mathlib.Core.Logic.{◌⊎◌, inl, inr}
use lib.Dec.{T}

pub true_or_false : (b : Bool) → (b ≡ true) ⊎ (b ≡ false)
true_or_false true = inl refl
true_or_false false = inr refl

pub T_true : (a : Bool) → T a → a ≡ true
T_true true h = refl
T_true false h = absurd h

pub T-dec : (a : Bool) → Dec (T a)
T-dec true = yes tt
T-dec false = no λ h. h

pub parts : (a b : Bool) → T (a && b) → T a × T b
parts true b h = (tt, h)
parts false b h = absurd h

pub of_or : (a b : Bool) → T (a || b) → T a ⊎ T b
of_or true b t = inl tt
of_or false true t = inr tt
of_or false false t = absurd t

pub or_left : (a b : Bool) → T a → T (a || b)
or_left true b t = tt
or_left false b t = absurd t

pub or_right : (a b : Bool) → T b → T (a || b)
or_right true b t = tt
or_right false true t = tt
or_right false false t = t

-- two tests that follow from each other are equal
pub same_test : (a b : Bool) → (T a → T b) → (T b → T a) → a ≡ b
same_test true true f g = refl
same_test true false f g = absurd (f tt)
same_test false true f g = absurd (g tt)
same_test false false f g = refl

-- a test that is passed where another is
pub implies : (a b : Bool) → (T a → T b) → T (not a || b)
implies true b h = h tt
implies false b h = tt

pub implied : (a b : Bool) → T (not a || b) → T a → T b
implied true b h k = h
implied false b h k = absurd k
