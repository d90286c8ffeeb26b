-- A loop that writes a list in blocks of 16 from a place o on.
-- Assumes nothing.
use mathlib.Core.List.{List}
use mathlib.Core.Path.{◌≡◌, refl, sym, ap, ◌∙◌, subst}
use Prim.Native.Nat.{ℕ, suc, ◌+◌, ◌-◌, ◌*◌, ◌/◌, ◌%◌, ◌≤◌, ◌<◌}
use native.Mathlib.Nat.{mul-suc, mul-le-mul_left, div-add-mod, mod-lt}
use native.Mathlib.Decide.{dec_lt}
use native.Mathlib.Omega.{arith}
use borrow.Rule.Slice.PartMut.{put_mid}
use lib.ListN.{length, get_or, take, length-take, get_or-eq_default}
use lib.Seq.{ext_get_or, get_or-take}
use Rattle.poly.specs.Inner.Ranges.{Below, writes, part, put}
use Rattle.poly.specs.Inner.Rows.{stored}
use Rattle.poly.specs.Inner.Interpolation.{Padded, Placed, Written}
use Rattle.poly.proofs.Entries.{zeros, get_or_zeros}
use Rattle.poly.proofs.Parts.{length_part, put_is, length_put, put_low, put_in, put_high}
use Rattle.poly.proofs.Multiples.{length_stored, stored_in}
use Rattle.poly.proofs.Writes.{length_writes, writes_in, writes_out}

-- the blocks before at hold f, and the rest is as it was
pub record Filled (o : ℕ) (f : ℕ → ℕ) (out₀ out : List ℕ) (at : ℕ) : Type 0 where
  pub blocks : ℕ
  pub is_at : at ≡ 16 * blocks
  pub long : length out ≡ length out₀
  pub low : (i : ℕ) → i < o → get_or out i 0 ≡ get_or out₀ i 0
  pub done : (e : ℕ) → e < at → get_or out (o + e) 0 ≡ f e
  pub rest : (e : ℕ) → at ≤ e → get_or out (o + e) 0 ≡ get_or out₀ (o + e) 0

pub filled_none : (o : ℕ) (f : ℕ → ℕ) (out : List ℕ) → Filled o f out out 0
filled_none o f out =
    record { blocks = 0; is_at = refl; long = refl; low = λ i h. refl; done = λ e h. absurd (omega arith); rest = λ e h. refl }

module _ (o : ℕ) (f : ℕ → ℕ) (out₀ out : List ℕ) (at from : ℕ) (h : Filled o f out₀ out at) (is_from : from ≡ o + at)
    (fits : from + 16 ≤ length out) where
  pub filled_turn : (a last : List ℕ) → 16 ≤ length a → last ≡ stored 16 a (part out from (from + 16)) → ((t : ℕ) → t < 16 → get_or a t 0 ≡ f (at + t))
      → Filled o f out₀ (put_mid from (from + 16 - from) out last) (at + 16)
  filled_turn a last short e same =
      record {
        blocks = suc h.blocks;
        is_at = omega (arith, h.is_at, mul-suc 16 h.blocks);
        long = ap length new_is ∙ length_put out from (from + 16) last (omega arith) fits last_long ∙ h.long;
        low =
            λ i l. ap (λ (x : List ℕ). get_or x i 0) new_is
            ∙ put_low out from (from + 16) last (omega arith) fits last_long i (omega arith)
            ∙ h.low i l;
        done = λ p l. ap (λ (x : List ℕ). get_or x (o + p) 0) new_is ∙ go p l (dec_lt p at);
        rest =
            λ p l. ap (λ (x : List ℕ). get_or x (o + p) 0) new_is
            ∙ put_high out from (from + 16) last (omega arith) fits last_long (o + p) (omega arith)
            ∙ h.rest p (omega arith);
      }
    where
      new_is : put_mid from (from + 16 - from) out last ≡ put out from (from + 16) last
      new_is = put_is out from (from + 16) last (omega arith)

      row : List ℕ
      row = part out from (from + 16)

      row_long : length row ≡ 16
      row_long = length_part out from (from + 16) (omega arith) fits ∙ omega arith

      last_long : length last ≡ from + 16 - from
      last_long = ap length e ∙ length_stored 16 a row ∙ row_long ∙ omega arith

      go : (p : ℕ) → p < at + 16 → Dec (p < at) → get_or (put out from (from + 16) last) (o + p) 0 ≡ f p
      go p l (yes b) = put_low out from (from + 16) last (omega arith) fits last_long (o + p) (omega arith) ∙ h.done p b
      go p l (no b) =
          let t : ℕ = p - at in
          let place : o + p ≡ from + (p - at) = omega arith in
          let back : at + (p - at) ≡ p = omega arith in
          ap (λ (x : ℕ). get_or (put out from (from + 16) last) x 0) place
          ∙ put_in out from (from + 16) last (omega arith) fits last_long (p - at) (omega arith)
          ∙ ap (λ (x : List ℕ). get_or x (p - at) 0) e ∙ stored_in 16 a row (p - at) (omega arith) (omega (arith, row_long))
          ∙ same (p - at) (omega arith) ∙ ap f back

-- a block that begins before n ends within a list that has room for it
pub block_room : (n length at : ℕ) → ((b : ℕ) → 16 * b < n → 16 * b + 16 ≤ length) → (b : ℕ) → at ≡ 16 * b → at < n → at + 16 ≤ length
block_room n length at h b e l = omega (arith, h b (omega arith))

-- a block that begins before n, no more than 64, ends within 96 numbers of which the first 32 are passed over
pub block_end : (n at length b : ℕ) → at ≡ 16 * b → n ≤ 64 → length ≡ 96 → at < n → 32 + at + 16 ≤ length
block_end n at length b e small long l = omega arith

-- every block that begins before n is written
pub filled_written : (n : ℕ) (f : ℕ → ℕ) (out₀ out : List ℕ) (at : ℕ) → Filled 0 f out₀ out at → n ≤ at → Written n f out
filled_written n f out₀ out at h l b t s k =
    let below : b < h.blocks = omega (arith, h.is_at) in
    let e : 0 + (16 * b + t) ≡ 16 * b + t = omega arith in
    ap (λ (x : ℕ). get_or out x 0) (sym e) ∙ h.done (16 * b + t) (omega (arith, h.is_at, mul-suc 16 b, mul-le-mul_left 16 below))

-- all of the blocks are written: the same as n stores one by one
pub filled_writes : (n : ℕ) (f : ℕ → ℕ) (out₀ out : List ℕ) → n ≤ length out₀ → Filled 0 f out₀ out n → out ≡ writes out₀ n f
filled_writes n f out₀ out fits h =
    ext_get_or 0 out (writes out₀ n f) (h.long ∙ sym (length_writes out₀ f n))
    (λ e l. let z : 0 + e ≡ e = omega arith in
    ap (λ (i : ℕ). get_or out i 0) (sym z)
    ∙ elim (dec_lt e n) [
      | yes b ↦ h.done e b ∙ sym (writes_in out₀ f n e b fits)
      | no b ↦ h.rest e (omega arith) ∙ ap (λ (i : ℕ). get_or out₀ i 0) z ∙ sym (writes_out out₀ f n e (omega arith))
    ])

-- what is written is below n, and so was the rest
pub filled_below : (n : ℕ) (f : ℕ → ℕ) (out₀ out : List ℕ) (at : ℕ) → Filled 0 f out₀ out at → Below n out₀ → ((e : ℕ) → f e < n) → Below n out
filled_below n f out₀ out at h small new e =
    let z : 0 + e ≡ e = omega arith in
    subst (λ (i : ℕ). get_or out i 0 < n) z
    (elim (dec_lt e at) [
      | yes b ↦ rw (h.done e b) (new e)
      | no b ↦ rw (h.rest e (omega arith)) (small (0 + e))
    ])

-- the elements of src, after 32 zeros
pub filled_placed : (n : ℕ) (src out : List ℕ) (at : ℕ) → Padded n src → n ≤ 64 → Filled 32 (λ e. get_or src e 0) (zeros 96) out at
    → n ≤ at → at < n + 16 → Placed n src out
filled_placed n src out at padded small h l near = record { low = λ i b. h.low i b ∙ get_or_zeros 96 i; is = λ e. go e (dec_lt e n) (dec_lt e at) }
  where
    none : (e : ℕ) → n ≤ e → get_or (take n src) e 0 ≡ 0
    none e b = get_or-eq_default (take n src) 0 {n = e} (omega (arith, length-take n src))

    go : (e : ℕ) → Dec (e < n) → Dec (e < at) → get_or out (32 + e) 0 ≡ get_or (take n src) e 0
    go e (yes b) d = h.done e (omega arith) ∙ sym (get_or-take n src e 0 b)
    go e (no b) (yes d) =
        let q : ℕ = e / 16 in
        let r : ℕ = e % 16 in
        let s : 16 * (e / 16) + e % 16 ≡ e = div-add-mod e 16 in
        let k : 16 * (e / 16) < n = block in
        h.done e d
        ∙ ap (λ (x : ℕ). get_or src x 0) (sym s)
        ∙ padded (e / 16) (e % 16) k (mod-lt e (omega arith)) (omega arith)
        ∙ sym (none e (omega arith))
      where
        block : 16 * (e / 16) < n
        block = let m : e % 16 < 16 = mod-lt e (omega arith) in omega (arith, div-add-mod e 16, h.is_at)
    go e (no b) (no d) = h.rest e (omega arith) ∙ get_or_zeros 96 (32 + e) ∙ sym (none e (omega arith))
