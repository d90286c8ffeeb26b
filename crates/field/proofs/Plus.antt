-- The sum is a commutative group in which each number is its own inverse; halves, bits and doubles pass through it.
-- Assumes nothing.
use mathlib.Core.Path.{◌≡◌, refl, sym, ap, ap₂, ◌∙◌}
use Prim.Native.Nat.{ℕ, zero, suc, ◌+◌, ◌*◌, ◌/◌, ◌%◌, ◌^◌, ◌<◌}
use native.Mathlib.Nat.{zero-mul, one-mul, add-zero, mod-lt, zero-lt-suc, le_of_suc-le-suc, not-suc-le-zero}
use lib.Arith.{bin_ind}
use lib.Bits.{bit_xor, differ, xor_step, xor_shr, xor_mod, xor_block, xor_comm, xor_self, xor_zero_l, xor_zero_r, xor_lt, xor_shifted}
use Rattle.field.specs.Plus.{plus}

-- ---- bits

-- what holds of 0 and of 1 holds of each bit
bit_cases : (P : ℕ → Type 0) → P 0 → P 1 → (b : ℕ) → b < 2 → P b
bit_cases P p q zero h = p
bit_cases P p q (suc zero) h = q
bit_cases P p q (suc (suc b)) h = absurd (not-suc-le-zero (le_of_suc-le-suc (le_of_suc-le-suc h)))

pub low_bit : (P : ℕ → Type 0) → P 0 → P 1 → (n : ℕ) → P (n % 2)
low_bit P p q n = bit_cases P p q (n % 2) (mod-lt n (zero-lt-suc 1))

differ_assoc : (a b c : ℕ) → differ (differ (a % 2) (b % 2)) (c % 2) ≡ differ (a % 2) (differ (b % 2) (c % 2))
differ_assoc a b c =
    low_bit (λ x. differ (differ x (b % 2)) (c % 2) ≡ differ x (differ (b % 2) (c % 2)))
    refl
    (low_bit (λ y. differ (differ 1 y) (c % 2) ≡ differ 1 (differ y (c % 2))) refl
    (low_bit (λ z. z ≡ differ 1 (differ 1 z)) refl refl c) b)
    a

xor_bit : (a b : ℕ) → bit_xor a b % 2 ≡ differ (a % 2) (b % 2)
xor_bit a b =
    xor_mod a b 1
    ∙ low_bit (λ x. bit_xor x (b % 2) ≡ differ x (b % 2)) refl (low_bit (λ y. bit_xor 1 y ≡ differ 1 y) refl refl b) a

xor_assoc : (a b c : ℕ) → bit_xor (bit_xor a b) c ≡ bit_xor a (bit_xor b c)
xor_assoc a =
    bin_ind (λ (n : ℕ). (b c : ℕ) → bit_xor (bit_xor n b) c ≡ bit_xor n (bit_xor b c)) (λ b c. refl)
    (λ n ih b c.
    xor_step (bit_xor n b) c
    ∙ ap₂ (λ (x y : ℕ). bit_xor x (c / 2) * 2 + differ y (c % 2)) (xor_shr n b 1) (xor_bit n b)
    ∙ ap₂ (λ (x y : ℕ). x * 2 + y) (ih (b / 2) (c / 2)) (differ_assoc n b c)
    ∙ sym (ap₂ (λ (x y : ℕ). bit_xor (n / 2) x * 2 + differ (n % 2) y) (xor_shr b c 1) (xor_bit b c))
    ∙ sym (xor_step n (bit_xor b c)))
    a

-- ---- the group

-- the code's sum is the sum
pub is_plus : (a b : ℕ) → bit_xor a b ≡ plus a b
unfolding plus
is_plus a b = refl

pub plus_assoc : (a b c : ℕ) → plus (plus a b) c ≡ plus a (plus b c)
unfolding plus
plus_assoc = xor_assoc

pub plus_comm : (a b : ℕ) → plus a b ≡ plus b a
unfolding plus
plus_comm = xor_comm

pub plus_zero : (a : ℕ) → plus a 0 ≡ a
unfolding plus
plus_zero = xor_zero_r

pub zero_plus : (a : ℕ) → plus 0 a ≡ a
unfolding plus
zero_plus = xor_zero_l

pub plus_self : (a : ℕ) → plus a a ≡ 0
unfolding plus
plus_self = xor_self

pub plus_left_comm : (a b c : ℕ) → plus a (plus b c) ≡ plus b (plus a c)
plus_left_comm a b c = sym (plus_assoc a b c) ∙ ap (λ (x : ℕ). plus x c) (plus_comm a b) ∙ plus_assoc b a c

-- what is added twice changes nothing
pub plus_cancel : (a b : ℕ) → plus a (plus a b) ≡ b
plus_cancel a b = sym (plus_assoc a a b) ∙ ap (λ (x : ℕ). plus x b) (plus_self a) ∙ zero_plus b

-- `simp plus_ac` sorts a sum, and what stands twice in it goes
pub ruleset plus_ac = (plus_assoc, plus_comm, plus_left_comm, plus_self, plus_cancel, plus_zero, zero_plus)

pub plus_exchange : (a b c d : ℕ) → plus (plus a b) (plus c d) ≡ plus (plus a c) (plus b d)
plus_exchange a b c d = simp (plus_assoc, plus_left_comm)

pub plus_back : (a b : ℕ) → plus (plus a b) b ≡ a
plus_back a b = plus_assoc a b b ∙ ap (plus a) (plus_self b) ∙ plus_zero a

-- what is added on both sides can be left out
pub plus_drop : (a b c : ℕ) → plus a c ≡ plus b c → a ≡ b
plus_drop a b c e = sym (plus_back a c) ∙ ap (λ (x : ℕ). plus x c) e ∙ plus_back b c

pub eq_of_plus_zero : (a b : ℕ) → plus a b ≡ 0 → a ≡ b
eq_of_plus_zero a b e = plus_drop a b b (e ∙ sym (plus_self b))

-- a + x = c has one solution
pub plus_solve : (a x c : ℕ) → plus a x ≡ c → x ≡ plus a c
plus_solve a x c e = sym (plus_cancel a x) ∙ ap (plus a) e

-- ---- digits

pub plus_lt : (k a b : ℕ) → a < 2 ^ k → b < 2 ^ k → plus a b < 2 ^ k
unfolding plus
plus_lt = xor_lt

pub plus_mod : (a b k : ℕ) → plus a b % 2 ^ k ≡ plus (a % 2 ^ k) (b % 2 ^ k)
unfolding plus
plus_mod = xor_mod

pub plus_div : (a b k : ℕ) → plus a b / 2 ^ k ≡ plus (a / 2 ^ k) (b / 2 ^ k)
unfolding plus
plus_div = xor_shr

pub plus_shifted : (a k b : ℕ) → b < 2 ^ k → plus (a * 2 ^ k) b ≡ a * 2 ^ k + b
unfolding plus
plus_shifted = xor_shifted

pub plus_half : (a b : ℕ) → plus a b / 2 ≡ plus (a / 2) (b / 2)
unfolding plus
plus_half a b = xor_shr a b 1

pub plus_double : (a b : ℕ) → plus a b * 2 ≡ plus (a * 2) (b * 2)
unfolding plus
plus_double a b =
    sym (add-zero (bit_xor a b * 2)) ∙ sym (xor_block 1 a b 0 0 (zero-lt-suc 1) (zero-lt-suc 1))
    ∙ ap₂ bit_xor (add-zero (a * 2)) (add-zero (b * 2))

-- a bit times a sum, and the sum of two bits times a number
pub bit_plus : (n a b : ℕ) → n % 2 * plus a b ≡ plus (n % 2 * a) (n % 2 * b)
bit_plus n a b = low_bit (λ x. x * plus a b ≡ plus (x * a) (x * b)) (simp (zero-mul, plus_self)) (simp one-mul) n

pub plus_bits : (m n a : ℕ) → plus m n % 2 * a ≡ plus (m % 2 * a) (n % 2 * a)
unfolding plus
plus_bits m n a =
    ap (λ (x : ℕ). x * a) (xor_bit m n)
    ∙ low_bit (λ x. differ x (n % 2) * a ≡ bit_xor (x * a) (n % 2 * a)) (simp zero-mul)
    (low_bit (λ y. differ 1 y * a ≡ bit_xor (1 * a) (y * a)) (simp (one-mul, zero-mul, xor_zero_r)) (simp (one-mul, zero-mul, xor_self)) n)
    m
