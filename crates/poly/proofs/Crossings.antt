-- The turns of the loops that add up products of two halves: sixteen numbers at once, and row by row.
-- Assumes nothing.
use mathlib.Core.List.{List}
use mathlib.Core.Path.{◌≡◌, sym, ap, ap₂, ◌∙◌}
use Prim.Native.Nat.{ℕ, ◌+◌, ◌-◌, ◌*◌, ◌≤◌, ◌<◌}
use native.Mathlib.Nat.{mul-suc, mul-le-mul_left}
use native.Mathlib.Numerals.{add-one}
use native.Mathlib.Decide.{dec_lt}
use native.Mathlib.Omega.{arith}
use lib.ListN.{length, get_or, take, length-replicate}
use lib.Seq.{get_or-take}
use borrow.Rule.Slice.PartMut.{put_mid}
use Rattle.field.specs.Plus.{plus}
use Rattle.field.specs.Field.{Field}
use Rattle.field.specs.Sum.{sum}
use Rattle.field.proofs.Plus.{plus_assoc, plus_zero}
use Rattle.field.proofs.FieldLaws.{zero_times, times_zero, times_one_right}
use Rattle.field.proofs.Sums.{sum_none, sum_suc, sum_lt}
use Rattle.poly.specs.Inner.Ranges.{Below, part, put}
use Rattle.poly.specs.Inner.Linear.{entry}
use Rattle.poly.specs.Inner.Rows.{added}
use Rattle.poly.specs.Inner.Lanes.{lanes}
use Rattle.poly.specs.Inner.Interpolation.{moved_on, convolved, crossed, ProductAdded}
use Rattle.poly.proofs.Writes.{length_writes, writes_in}
use Rattle.poly.proofs.Parts.{length_part, part_at, put_is, put_low, put_in, put_high}
use Rattle.poly.proofs.Convolutions.{moved_before, moved_from, moved_past}
use Rattle.poly.proofs.Entries.{zeros, get_or_zeros}
use Rattle.poly.proofs.LaneLaws.{lanes_at, lanes_cong, is_lanes}

module _ (F : Field) (a src : List ℕ) (at : ℕ) where
  -- sixteen elements of src, and a with c times them
  abbrev taken : List ℕ
  taken = lanes (λ t. get_or src (at + t) 0)

  abbrev pub added_to : ℕ → List ℕ
  added_to c = lanes (λ t. plus (entry a t) (F.times (get_or src (at + t) 0) c))

  pub add_zero : (c : ℕ) → length a ≡ 16 → c ≡ 0 → a ≡ added_to c
  add_zero c long e =
      is_lanes _ a long
      (λ t k. sym (ap (plus (entry a t)) (ap (F.times (get_or src (at + t) 0)) e ∙ times_zero F (get_or src (at + t) 0)) ∙ plus_zero (entry a t)))

  pub add_one_times : (c : ℕ) → Below F.size src → c ≡ 1 → lanes (λ t. plus (entry a t) (entry taken t)) ≡ added_to c
  add_one_times c small e =
      lanes_cong _ _ (λ t k. ap (plus (entry a t))
      (lanes_at (λ t. get_or src (at + t) 0) t k
      ∙ sym (ap (F.times (get_or src (at + t) 0)) e ∙ times_one_right F (get_or src (at + t) 0) (small (at + t)))))

  pub add_times : (c : ℕ) → lanes (λ t. plus (entry a t) (F.times (entry taken t) c)) ≡ added_to c
  add_times c = lanes_cong _ _ (λ t k. ap (λ (v : ℕ). plus (entry a t) (F.times v c)) (lanes_at (λ t. get_or src (at + t) 0) t k))

module _ (F : Field) (w : ℕ) (f g left right : List ℕ) where
  pub crossed_lt : (k p : ℕ) → crossed F w k f g left right p < F.size
  unfolding crossed
  crossed_lt k p = sum_lt F k _ (λ i b. F.plus_lt _ _ (F.times_lt _ _) (F.times_lt _ _))

  module _ (at : ℕ) where
    pub crossed_none : zeros 16 ≡ lanes (λ t. crossed F w 0 f g left right (at + t))
    unfolding crossed
    crossed_none = is_lanes _ (zeros 16) (length-replicate {A = ℕ} 16 0) (λ t k. get_or_zeros 16 t ∙ sym (sum_none _))

    pub crossed_turn : (i : ℕ) (s s₁ s₂ : List ℕ) → w * i ≤ at → s ≡ lanes (λ t. crossed F w i f g left right (at + t))
        → s₁ ≡ added_to F s left (at - w * i) (get_or g i 0) → s₂ ≡ added_to F s₁ right (at - w * i) (get_or f i 0)
        → s₂ ≡ lanes (λ t. crossed F w (i + 1) f g left right (at + t))
    unfolding crossed
    crossed_turn i s s₁ s₂ fits e e₁ e₂ =
        let from : ℕ = at - w * i in
        e₂ ∙ lanes_cong _ _ (λ t k.
        let p : from + t ≡ at + t - w * i = omega arith in
        let L = F.times (get_or left (from + t) 0) (get_or g i 0) in
        let R = F.times (get_or right (from + t) 0) (get_or f i 0) in
        let h : ℕ → ℕ = λ u. plus (F.times (get_or left (at + t - w * u) 0) (get_or g u 0)) (F.times (get_or right (at + t - w * u) 0) (get_or f u 0)) in
        ap (λ (v : ℕ). plus v R)
        (ap (λ (x : List ℕ). entry x t) e₁ ∙ lanes_at _ t k ∙ ap (λ (v : ℕ). plus v L) (ap (λ (x : List ℕ). entry x t) e ∙ lanes_at _ t k))
        ∙ plus_assoc (sum i h) L R
        ∙ ap (plus (sum i h)) (ap (λ (q : ℕ). plus (F.times (get_or left q 0) (get_or g i 0)) (F.times (get_or right q 0) (get_or f i 0))) p)
        ∙ sym (ap (λ (n : ℕ). sum n h) (add-one i) ∙ sum_suc i h))

-- the place of a turn
pub turn_place : (w n i at : ℕ) → i < n → w * n ≤ at + w → w * i ≤ at
turn_place w n i at l h = omega (arith, mul-suc w i, mul-le-mul_left w l)

-- ---- row by row

module _ (F : Field) (w n : ℕ) (f src work₀ : List ℕ) where
  pub product_none : Below F.size work₀ → ProductAdded F w n f src work₀ work₀ 0
  unfolding convolved
  product_none b = record { below = b; is = λ p. sym (ap (plus (get_or work₀ p 0)) (sum_none _) ∙ plus_zero (get_or work₀ p 0)) }

  abbrev product : ℕ → ℕ → ℕ
  product i p = F.times (moved_on w n src i p) (get_or f i 0)

  convolved_more : (i p : ℕ) → convolved F w n f src (i + 1) p ≡ plus (convolved F w n f src i p) (product i p)
  unfolding convolved
  convolved_more i p = ap (λ (k : ℕ). sum k (λ i. product i p)) (add-one i) ∙ sum_suc i (λ i. product i p)

  product_more : (i : ℕ) (work new : List ℕ) → ProductAdded F w n f src work₀ work i
      → ((p : ℕ) → get_or new p 0 ≡ plus (get_or work p 0) (product i p)) → ProductAdded F w n f src work₀ new (i + 1)
  product_more i work new h e = record {
    below = λ p. rw (e p) (F.plus_lt (get_or work p 0) (product i p) (h.below p) (F.times_lt _ _));
    is = λ p. e p ∙ ap (λ (v : ℕ). plus v (product i p)) (h.is p)
        ∙ plus_assoc (get_or work₀ p 0) (convolved F w n f src i p) (product i p) ∙ sym (ap (plus (get_or work₀ p 0)) (convolved_more i p));
  }

  -- a coefficient that is 0
  pub product_skip : (i : ℕ) (work new : List ℕ) → new ≡ work → get_or f i 0 ≡ 0 → ProductAdded F w n f src work₀ work i
      → ProductAdded F w n f src work₀ new (i + 1)
  product_skip i work new same z h =
      product_more i work new h
      (λ p. ap (λ (l : List ℕ). get_or l p 0) same
      ∙ sym (ap (plus (get_or work p 0)) (ap (F.times (moved_on w n src i p)) z ∙ times_zero F (moved_on w n src i p)) ∙ plus_zero (get_or work p 0)))

  module _ (i : ℕ) (work : List ℕ) (fits : w * i + n ≤ length work) where
    abbrev at : ℕ
    at = w * i

    -- where nothing of src has been moved to
    outside : (p : ℕ) → moved_on w n src i p ≡ 0 → get_or work p 0 ≡ plus (get_or work p 0) (product i p)
    outside p z = sym (ap (plus (get_or work p 0)) (ap (λ (v : ℕ). F.times v (get_or f i 0)) z ∙ zero_times F (get_or f i 0)) ∙ plus_zero (get_or work p 0))

    pub product_turn : (ys new : List ℕ) → ys ≡ added F (get_or f i 0) n src (part work at (at + n)) → new ≡ put_mid at (at + n - at) work ys
        → ProductAdded F w n f src work₀ work i → ProductAdded F w n f src work₀ new (i + 1)
    unfolding added
    product_turn ys new is_ys is_new h =
        product_more i work new h
        (λ p. ap (λ (l : List ℕ). get_or l p 0) (is_new ∙ put_is work at (at + n) ys (omega arith)) ∙ go p (dec_lt p at) (dec_lt p (at + n)))
      where
        lent : length (part work at (at + n)) ≡ n
        lent = length_part work at (at + n) (omega arith) fits ∙ omega arith

        long : length ys ≡ at + n - at
        long = ap length is_ys ∙ length_writes (part work at (at + n)) _ n ∙ lent ∙ omega arith

        within : (e : ℕ) → e < n → get_or ys e 0 ≡ plus (get_or work (at + e) 0) (F.times (get_or f i 0) (get_or src e 0))
        within e l =
            ap (λ (l : List ℕ). get_or l e 0) is_ys ∙ writes_in (part work at (at + n)) _ n e l (omega (arith, lent))
            ∙ ap (λ (v : ℕ). plus v (F.times (get_or f i 0) (get_or src e 0))) (part_at work at (at + n) e (omega arith))

        go : (p : ℕ) → Dec (p < at) → Dec (p < at + n) → get_or (put work at (at + n) ys) p 0 ≡ plus (get_or work p 0) (product i p)
        go p (yes l) d = put_low work at (at + n) ys (omega arith) fits long p l ∙ outside p (moved_before w n src i p (omega arith))
        go p (no l) (yes m) =
            let e : at + (p - at) ≡ p = omega arith in
            let k : p - w * i ≡ p - at = omega arith in
            ap (λ (x : ℕ). get_or (put work at (at + n) ys) x 0) (sym e)
            ∙ put_in work at (at + n) ys (omega arith) fits long (p - at) (omega arith) ∙ within (p - at) (omega arith)
            ∙ ap₂ plus (ap (λ (x : ℕ). get_or work x 0) e)
            (F.times_comm (get_or f i 0) (get_or src (p - at) 0)
            ∙ ap (λ (v : ℕ). F.times v (get_or f i 0))
            (sym (moved_from w n src i p (omega arith) ∙ ap (λ (x : ℕ). get_or (take n src) x 0) k ∙ get_or-take n src (p - at) 0 (omega arith))))
        go p (no l) (no m) = put_high work at (at + n) ys (omega arith) fits long p (omega arith) ∙ outside p (moved_past w n src i p (omega arith))

-- the place of a row
pub row_room : (w n k i long : ℕ) → w * k + n ≤ long + w → i < k → w * i + n ≤ long
row_room w n k i long h l = omega (arith, mul-suc w i, mul-le-mul_left w l)
