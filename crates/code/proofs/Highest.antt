-- The highest value of a list: a turn of the loop that finds it, and that no value is bad where it is a symbol.
-- Assumes nothing.
use mathlib.Core.Bool.{Bool, false}
use mathlib.Core.List.{List}
use mathlib.Core.Path.{◌≡◌, refl, sym}
use Prim.Native.Nat.{ℕ, zero, suc, ◌+◌, ◌≤◌, ◌<◌}
use native.Mathlib.Decide.{ℕ_discrete}
use native.Mathlib.Nat.{zero-add, le_refl}
use native.Mathlib.Numerals.{add-one}
use native.Mathlib.Omega.{arith}
use lib.ListN.{length, get_or, drop}
use Rattle.field.specs.Values.{bad_value, first_bad}
use Rattle.field.proofs.Values.{good_symbol, bad_turn, bad_none}
use Rattle.code.specs.Inner.Highest.{Highest}

module _ (values : List ℕ) where
  pub highest_none : Highest values 0 0
  highest_none = record { bound = λ i l. absurd (omega arith); one = λ n. absurd (n refl) }

  module _ (i high : ℕ) (h : Highest values i high) where
    pub highest_new : high < get_or values i 0 → Highest values (i + 1) (get_or values i 0)
    highest_new l =
        record {
          bound = λ j k. elim (ℕ_discrete j i) [ yes e ↦ rw e (le_refl (get_or values i 0)) | no d ↦ omega (arith, h.bound j (omega arith)) ];
          one = λ n. (i, omega arith, refl);
        }

    pub highest_kept : get_or values i 0 ≤ high → Highest values (i + 1) high
    highest_kept l =
        record {
          bound = λ j k. elim (ℕ_discrete j i) [ yes e ↦ rw e l | no d ↦ h.bound j (omega arith) ];
          one = λ n. let w = h.one n in (w.0, omega (arith, w.1), w.2);
        }

-- the search finds nothing where no value is bad
along : (bad : ℕ → Bool) (list : List ℕ) → ((i : ℕ) → i < length list → bad (get_or list i 0) ≡ false)
    → (i : ℕ) → i ≤ length list → first_bad bad list ≡ i + first_bad bad (drop i list)
along bad list h zero l = sym (zero-add (first_bad bad list))
along bad list h (suc i) l =
    let e = bad_turn bad list i (along bad list h i (omega arith)) (omega arith) (h i (omega arith)) in
    rw (add-one i) at e

pub symbols_good : (gaps : Bool) (size : ℕ) (values : List ℕ) (high : ℕ) → Highest values (length values) high → high < size
    → length values ≡ first_bad (bad_value gaps size) values
symbols_good gaps size values high h l =
    bad_none (bad_value gaps size) values (length values)
    (along (bad_value gaps size) values (λ i k. good_symbol gaps size (get_or values i 0) (omega (arith, h.bound i k))) (length values)
    (le_refl (length values)))
    (le_refl (length values))
