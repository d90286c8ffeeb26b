-- Decimal numbers: the digits before the last one, and how many there are.
-- Assumes nothing.
use mathlib.Core.Path.{◌≡◌, refl}
use mathlib.Core.List.{List, [], ◌∷◌, ◌++◌}
use Prim.Native.Nat.{ℕ, zero, suc, ◌+◌, ◌/◌, ◌%◌, ◌^◌, ◌≤◌, ◌<◌}
use native.Mathlib.Nat.{pow-suc, not-suc-le-zero, mod-eq_of_lt}
use native.Mathlib.Decide.{dec_lt}
use native.Mathlib.Omega.{arith}
use borrow.Author.Tests.{lt-ltb, le-ltb}
use lib.ListN.{length, set, length-append}
use Rattle.lines.specs.Text.{decimal_in, decimal, Written}
use Rattle.lines.proofs.Texts.{one_more}

-- room for more digits changes nothing
enough : (j k n : ℕ) → n < j → n < k → decimal_in j n ≡ decimal_in k n
unfolding decimal_in
enough zero k n a b = absurd (not-suc-le-zero a)
enough (suc j) zero n a b = absurd (not-suc-le-zero b)
enough (suc j) (suc k) n a b =
    elim (dec_lt n 10) [
      | yes h ↦ rw (lt-ltb n 10 h)
      | no h ↦ rw (le-ltb n 10 (omega arith), enough j k (n / 10) (omega arith) (omega arith))
    ]

pub decimal_small : (n : ℕ) → n < 10 → decimal n ≡ (48 + n) ∷ []
unfolding decimal decimal_in
decimal_small n h = rw (lt-ltb n 10 h, mod-eq_of_lt h)

pub decimal_large : (n : ℕ) → 10 ≤ n → decimal n ≡ decimal (n / 10) ++ ((48 + n % 10) ∷ [])
unfolding decimal decimal_in
decimal_large n h = rw (le-ltb n 10 h, enough n (suc (n / 10)) (n / 10) (omega arith) (omega arith))

pub length_small : (n : ℕ) → n < 10 → length (decimal n) ≡ 1
length_small n h = rw (decimal_small n h)

pub length_large : (n : ℕ) → 10 ≤ n → length (decimal n) ≡ length (decimal (n / 10)) + 1
length_large n h = rw (decimal_large n h, length-append (decimal (n / 10)) ((48 + n % 10) ∷ []))

-- a number below 10 ^ suc k has at most suc k digits
length_decimal_in : (k j n : ℕ) → n < 10 ^ suc k → length (decimal_in j n) ≤ suc k
unfolding decimal_in
length_decimal_in k zero n h = omega arith
length_decimal_in zero (suc j) n h = rw (lt-ltb n 10 h) (omega arith)
length_decimal_in (suc k) (suc j) n h =
    elim (dec_lt n 10) [
      | yes l ↦ rw (lt-ltb n 10 l) (omega arith)
      | no l ↦
          rw (le-ltb n 10 (omega arith), length-append (decimal_in j (n / 10)) ((48 + n % 10) ∷ []))
          (omega (arith, length_decimal_in k j (n / 10) (omega (arith, pow-suc 10 (suc k)))))
    ]

-- what the machine's numbers take
pub length_decimal : (n : ℕ) → n < 2 ^ 64 → length (decimal n) ≤ 20
unfolding decimal
length_decimal n h = length_decimal_in 19 (suc n) n (omega arith)

pub length_16_bits : (n : ℕ) → n < 65536 → length (decimal n) ≤ 5
unfolding decimal
length_16_bits n h = length_decimal_in 4 (suc n) n (omega arith)

-- a number of one digit is written
pub small_written : (l : List ℕ) (at n : ℕ) → n < 10 → Written l at (decimal n) (at + 1) (set l at (48 + n))
small_written l at n h = rw (decimal_small n h) (record { ends = refl; holds = refl })

-- the last digit is written after the others
pub large_written :
    (l d : List ℕ) (at end n : ℕ) →
    10 ≤ n →
    Written l at (decimal (n / 10)) end d →
    Written l at (decimal n) (end + 1) (set d end (48 + n % 10))
large_written l d at end n h t =
    record {
      ends = omega (arith, length_large n h, t.ends);
      holds = rw (decimal_large n h) (one_more l d (decimal (n / 10)) at end (48 + n % 10) t.holds t.ends);
    }
