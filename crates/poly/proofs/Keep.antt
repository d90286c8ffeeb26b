-- A number where a test passes, and 0 where it fails: a sum over the numbers that pass is a sum over all.
-- Assumes nothing.
use mathlib.Core.Path.{◌≡◌, refl}
use mathlib.Core.Bool.{Bool, true, false}
use Prim.Native.Nat.{ℕ, ◌≤◌}
use native.Mathlib.Omega.{arith}
use lib.Dec.{T}
use Rattle.field.specs.Plus.{plus}
use Rattle.field.proofs.Plus.{plus_self}

unfoldable pub keep : Bool → ℕ → ℕ
keep true a = a
keep false a = 0

pub keep_pass : (b : Bool) (a : ℕ) → T b → keep b a ≡ a
unfolding keep
keep_pass true a h = refl
keep_pass false a h = absurd h

pub keep_zero : (b : Bool) (a : ℕ) → (T b → a ≡ 0) → keep b a ≡ 0
unfolding keep
keep_zero true a h = h tt
keep_zero false a h = refl

pub keep_cong : (b : Bool) {x y : ℕ} → (T b → x ≡ y) → keep b x ≡ keep b y
unfolding keep
keep_cong true h = h tt
keep_cong false h = refl

pub keep_le : (b : Bool) (a : ℕ) → keep b a ≤ a
unfolding keep
keep_le true a = omega arith
keep_le false a = omega arith

pub keep_plus : (b : Bool) (x y : ℕ) → keep b (plus x y) ≡ plus (keep b x) (keep b y)
unfolding keep
keep_plus true x y = refl
keep_plus false x y = rw plus_self
