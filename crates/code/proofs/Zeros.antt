-- THE ZEROS THEOREM: a polynomial of order m that is 0 at m + 1 different points of the curve is 0. So two messages whose words agree
-- at m + 1 places are the same. And the product lemma: the orders of polynomials add.
-- Assumes nothing.
use mathlib.Core.Path.{◌≡◌, refl, sym, ap₂, ◌∙◌, subst}
use mathlib.Core.Bool.{Bool, true}
use mathlib.Core.List.Memᴰ
use mathlib.Core.List.{List, map, Memᴰ as Mem}
use Prim.Native.Nat.{ℕ, suc, ◌+◌, ◌*◌, ◌≤◌, ◌<◌}
use native.Mathlib.Decide.{dec_lt}
use native.Mathlib.Omega.{arith}
use lib.Dec.{T}
use lib.ListN.{length, get_or, length-map, get_or-eq_default}
use borrow.Author.Tests.{eqb-true}
use Rattle.field.specs.Plus.{plus}
use Rattle.field.specs.Field.{Field}
use Rattle.field.specs.Power.{power}
use Rattle.field.specs.Curve.{IsCurve}
use Rattle.field.proofs.Plus.{plus_self, eq_of_plus_zero}
use Rattle.field.proofs.FieldLaws.{zero_lt}
use Rattle.field.proofs.Fields.{field_of}
use Rattle.field.proofs.Curves.{sizes}
use Rattle.poly.specs.Lists.{Nodup, count, below}
use Rattle.poly.specs.Messages.{Vector}
use Rattle.poly.proofs.Lists.{mem_get_or, get_or_mem, nodup_get_or, nodup_map, count_every}
use Rattle.poly.proofs.Below.{Among, length_below}
use Rattle.poly.proofs.Messages.{tabulate, get_or_tabulate, vector_tabulate, vector_below, vector_ext}
use Rattle.poly.proofs.OrderDomain.{product as order_product}
use Rattle.poly.proofs.OrderValues.{value, value_order, coefficients}
use Rattle.poly.proofs.OrderZeros.{zeros as order_zeros}
use Rattle.poly.proofs.OrderInterpolation.{spanned}
use Rattle.points.specs.Points.{on_curve, points_on}
use Rattle.points.proofs.Passing.{place}
use Rattle.points.proofs.Points.{IsPoint, is_point, nodup_points}
use Rattle.code.specs.Terms.{is_term, size}
use Rattle.code.specs.Word.{value_at, word_of}
use Rattle.code.proofs.Hermitian.{powers, term, hermitian, indicators}
use Rattle.code.proofs.Coefficients.{value_by_weight, coefficient_of, value_by_weight_lem, message_of, value_of_message, vector_message, zero_message}
use Rattle.code.proofs.Word.{value_plus, point_at, word_at_point}

-- ---- points numbered from 0, and coefficients by weight; any field and any q > 1

module _ (F : Field) (q : ℕ) (two_le_q : 1 < q) (n : ℕ) (px py : ℕ → ℕ)
    (curve : (t : ℕ) → t < n → plus (power F (py t) q) (py t) ≡ power F (px t) (suc q)) where
  open F use {size, times}

  -- the curve's order domain has these values
  value_in_domain : (m : ℕ) (c : ℕ → ℕ) (t : ℕ)
      → value_by_weight F q m c (px t) (py t) ≡ value (hermitian F q two_le_q n px py curve) (suc m) c t
  unfolding value_by_weight value hermitian term powers
  value_in_domain m c t = refl

  -- THE PRODUCT LEMMA
  pub product : (u v : ℕ) (c d : ℕ → ℕ) → (e : ℕ → ℕ) × ((w : ℕ) → e w < size)
      × ((t : ℕ) → t < n → value_by_weight F q (u + v) e (px t) (py t)
      ≡ times (value_by_weight F q u c (px t) (py t)) (value_by_weight F q v d (px t) (py t)))
  product u v c d =
      let X = hermitian F q two_le_q n px py curve in
      let (e, l, h) = coefficients X (suc (u + v)) (order_product X (value_order X (suc u) c) (value_order X (suc v) d)) in
      (e, l, λ t tl. rw (value_in_domain (u + v) e t, value_in_domain u c t, value_in_domain v d t) (h t tl))

  module _ (xl : (t : ℕ) → px t < size) (yl : (t : ℕ) → py t < size)
      (different : (s t : ℕ) → s < n → t < n → px s ≡ px t → py s ≡ py t → s ≡ t) where
    -- with more than m zeros, those that pass the test z, all coefficients are 0
    pub zeros_by_weight : (m : ℕ) (c : ℕ → ℕ) → ((w : ℕ) → c w < size) → (z : ℕ → Bool) → m < count z (below n)
        → ((t : ℕ) → Among z n t → value_by_weight F q m c (px t) (py t) ≡ 0) → (w : ℕ) → w ≤ m → T (is_term q w) → c w ≡ 0
    unfolding hermitian
    zeros_by_weight m c cl z l v w h i =
        let X = hermitian F q two_le_q n px py curve in
        let (k, all) = spanned X (indicators F q two_le_q n px py curve xl yl different) in
        order_zeros X k all z c cl (suc m) l (λ t a. sym (value_in_domain m c t) ∙ v t a) w (omega arith, i)

-- ---- lists of points of the curve, and messages

module _ (q : ℕ) (two_le_q : 1 < q) (ps : List (ℕ × ℕ)) where
  abbrev x_at : ℕ → ℕ
  x_at t = (get_or ps t (0, 0)).0

  abbrev y_at : ℕ → ℕ
  y_at t = (get_or ps t (0, 0)).1

  on_curve_lem : ((p : ℕ × ℕ) → Mem p ps → on_curve q p.0 p.1 ≡ true) → (t : ℕ) → t < length ps
      → plus (power (field_of q) (y_at t) q) (y_at t) ≡ power (field_of q) (x_at t) (suc q)
  on_curve_lem h t l = eqb-true (plus (power (field_of q) (y_at t) q) (y_at t)) (power (field_of q) (x_at t) (suc q))
      (h (get_or ps t (0, 0)) (mem_get_or ps (0, 0) t l))

  -- the values of a polynomial of order u times those of one of order v are the values of one of order u + v
  pub product_message : ((p : ℕ × ℕ) → Mem p ps → on_curve q p.0 p.1 ≡ true) → (u v : ℕ) (a b : List ℕ)
      → (e : List ℕ) × Vector (field_of q).size (size q (u + v)) e × ((p : ℕ × ℕ) → Mem p ps
      → value_at q (u + v) e p.0 p.1 ≡ (field_of q).times (value_at q u a p.0 p.1) (value_at q v b p.0 p.1))
  product_message h u v a b =
      let (e, l, at) = product (field_of q) q two_le_q (length ps) x_at y_at (on_curve_lem h) u v (coefficient_of q a) (coefficient_of q b) in (
        message_of q (u + v) e,
        vector_message q (u + v) (field_of q).size e l,
        λ p m. let (t, tl, is) = get_or_mem ps (0, 0) m in
            value_of_message q (u + v) e p.0 p.1
            ∙ rw (value_by_weight_lem q u a p.0 p.1, value_by_weight_lem q v b p.0 p.1, ← is) (at t tl),
      )

  symbols : ((p : ℕ × ℕ) → Mem p ps → IsPoint q p) → (t : ℕ) → (x_at t < (field_of q).size) × (y_at t < (field_of q).size)
  symbols points t = go (dec_lt t (length ps))
    where
      go : Dec (t < length ps) → (x_at t < (field_of q).size) × (y_at t < (field_of q).size)
      go (yes tl) = let p = points (get_or ps t (0, 0)) (mem_get_or ps (0, 0) t tl) in (p.x_symbol, p.y_symbol)
      go (no tl) =
          subst (λ (p : ℕ × ℕ). (p.0 < (field_of q).size) × (p.1 < (field_of q).size)) (sym (get_or-eq_default ps (0, 0) {n = t} (omega arith)))
          (zero_lt (field_of q), zero_lt (field_of q))

  -- a message that is 0 at more than m different points is all zeros
  pub zeros : (m : ℕ) (v : List ℕ) → Vector (field_of q).size (size q m) v → Nodup ps → m < length ps
      → ((p : ℕ × ℕ) → Mem p ps → IsPoint q p) → ((p : ℕ × ℕ) → Mem p ps → value_at q m v p.0 p.1 ≡ 0) → (i : ℕ) → get_or v i 0 ≡ 0
  zeros m v hv d l points z =
      zero_message q m v hv.len
      (zeros_by_weight (field_of q) q two_le_q (length ps) x_at y_at (on_curve_lem λ p k. (points p k).on)
      (λ t. (symbols points t).0) (λ t. (symbols points t).1)
      (λ s t sl tl ex ey. nodup_get_or ps (0, 0) d s t sl tl (ap₂ (λ (a b : ℕ). (a, b)) ex ey))
      m (coefficient_of q v) (λ w. vector_below (field_of q).size (size q m) v (zero_lt (field_of q)) hv (place (is_term q) w)) (λ t. true)
      (omega (arith, count_every (λ (t : ℕ). true) (below (length ps)) (λ t k. tt), length_below (length ps)))
      (λ t a. sym (value_by_weight_lem q m v (x_at t) (y_at t)) ∙ z (get_or ps t (0, 0)) (mem_get_or ps (0, 0) t a.0)))

-- m + 1 symbols are enough: two messages whose words agree at more than m places are the same
pub agree : (q : ℕ) → IsCurve q → (columns : List ℕ) → Nodup columns → ((x : ℕ) → Mem x columns → x < q * q)
    → (m : ℕ) (v w : List ℕ) → Vector (field_of q).size (size q m) v → Vector (field_of q).size (size q m) w
    → (places : List ℕ) → Nodup places → m < length places
    → ((p : ℕ) → Mem p places → (p < length (points_on q columns)) × (get_or (word_of q columns m v) p 0 ≡ get_or (word_of q columns m w) p 0)) → v ≡ w
agree q curve columns dc symbols m v w hv hw places dp l same =
    vector_ext (field_of q).size (size q m) v w hv hw λ i il.
    eq_of_plus_zero (get_or v i 0) (get_or w i 0) (sym (total_at i il) ∙ total_zero i)
  where
    total : List ℕ
    total = tabulate (size q m) (λ i. plus (get_or v i 0) (get_or w i 0))

    total_at : (i : ℕ) → i < size q m → get_or total i 0 ≡ plus (get_or v i 0) (get_or w i 0)
    total_at = get_or_tabulate (size q m) (λ i. plus (get_or v i 0) (get_or w i 0))

    at : ℕ → ℕ × ℕ
    at = point_at q columns

    point : (t : ℕ) → Mem t places → IsPoint q (at t)
    point t k = is_point q curve columns symbols (at t) (mem_get_or (points_on q columns) (0, 0) t (same t k).0)

    vanishes : (t : ℕ) → Mem t places → value_at q m total (at t).0 (at t).1 ≡ 0
    vanishes t k =
        let (tl, e) = same t k in
        value_plus q m total v w total_at (at t).0 (at t).1
        ∙ ap₂ plus (sym (word_at_point q columns m v t tl) ∙ e) (sym (word_at_point q columns m w t tl))
        ∙ plus_self (get_or (word_of q columns m w) t 0)

    each : (P : ℕ × ℕ → Type 0) → ((t : ℕ) → Mem t places → P (at t)) → (p : ℕ × ℕ) → Mem p (map at places) → P p
    each P h p k = let (t, kt, e) = Memᴰ.of_map at places k in subst P e (h t kt)

    total_zero : (i : ℕ) → get_or total i 0 ≡ 0
    total_zero =
        zeros q (sizes q curve).low (map at places) m total
        (vector_tabulate (field_of q).size (size q m) (λ i. plus (get_or v i 0) (get_or w i 0)) λ i il. (field_of q).plus_lt _ _ (hv.small i il)
        (hw.small i il))
        (nodup_map at places (λ a b ha hb. nodup_get_or (points_on q columns) (0, 0) (nodup_points q columns dc) a b (same a ha).0 (same b hb).0) dp)
        (omega (arith, length-map places at)) (each (IsPoint q) point) (each (λ p. value_at q m total p.0 p.1 ≡ 0) vanishes)
