-- The symbols of words over the full list of columns: products, sums, zeros.
-- Assumes nothing.
use mathlib.Core.Bool.{Bool, true}
use mathlib.Core.List.{List, Memᴰ as Mem}
use mathlib.Core.Path.{◌≡◌, sym, ap, ap₂, ◌∙◌, subst}
use Prim.Native.Nat.{ℕ, ◌+◌, ◌*◌, ◌≤◌, ◌<◌}
use native.Mathlib.Decide.{dec_le}
use native.Mathlib.Omega.{arith}
use lib.Dec.{eqb, eqb→eq}
use lib.ListN.{length, get_or, replicate, length-replicate}
use Rattle.field.specs.Curve.{IsCurve}
use Rattle.field.proofs.FieldLaws.{times_zero, zero_lt}
use Rattle.field.proofs.Sums.{sum_zeros}
use Rattle.field.proofs.Fields.{field_of}
use Rattle.field.proofs.Curves.{sizes}
use Rattle.poly.specs.Lists.{count, below}
use Rattle.poly.specs.Messages.{Vector}
use Rattle.poly.proofs.Lists.{mem_get_or}
use Rattle.poly.proofs.Entries.{get_or_zeros}
use Rattle.points.specs.Points.{on_curve, points_on}
use Rattle.points.specs.Series.{columns_of}
use Rattle.points.proofs.Points.{is_point}
use Rattle.points.proofs.Series.{column_small}
use Rattle.code.specs.Terms.{weights, size}
use Rattle.code.specs.Word.{monomial, value_at}
use Rattle.code.proofs.Word.{value_lt, point_at, word_at_point}
use Rattle.code.proofs.FullColumns.{full_points}
use Rattle.code.proofs.Facts.{facts}
use Rattle.code.proofs.Zeros.{product_message}
use Rattle.mend.specs.Inner.Locating.{symbol_at}
use Rattle.mend.proofs.Counts.{places, length_places, nodup_places, of_mem_places}

module _ (q : ℕ) (curve : IsCurve q) where
  pub to_size : (k : ℕ) (v : List ℕ) → Vector (q * q) k v → Vector (field_of q).size k v
  to_size k v = subst (λ (Q : ℕ). Vector Q k v) (sym (sizes q curve).size)

  pub of_size : (k : ℕ) (v : List ℕ) → Vector (field_of q).size k v → Vector (q * q) k v
  of_size k v = subst (λ (Q : ℕ). Vector Q k v) (sizes q curve).size

module _ (q series : ℕ) (curve : IsCurve q) where
  point_lt : (p : ℕ) → p < q * q * q → p < length (points_on q (columns_of q series))
  point_lt p l = omega (arith, full_points q series curve)

  at_point : (m : ℕ) (v : List ℕ) (p : ℕ) → p < q * q * q
      → symbol_at q series m v p ≡ value_at q m v (point_at q (columns_of q series) p).0 (point_at q (columns_of q series) p).1
  at_point m v p l = word_at_point q (columns_of q series) m v p (point_lt p l)

  pub symbol_lt : (m : ℕ) (v : List ℕ) (p : ℕ) → p < q * q * q → symbol_at q series m v p < (field_of q).size
  symbol_lt m v p l = rw (at_point m v p l) (value_lt q m v (point_at q (columns_of q series) p).0 (point_at q (columns_of q series) p).1)

  on_curve_lem : (a : ℕ × ℕ) → Mem a (points_on q (columns_of q series)) → on_curve q a.0 a.1 ≡ true
  on_curve_lem a k = (is_point q curve (columns_of q series) (column_small q series curve) a k).on

  -- THE PRODUCT of a word of order u and one of order w, place by place, is a word of order u + w
  pub product_of : (u w : ℕ) (a b : List ℕ) → (e : List ℕ) × Vector (q * q) (size q (u + w)) e
      × ((p : ℕ) → p < q * q * q → symbol_at q series (u + w) e p ≡ (field_of q).times (symbol_at q series u a p) (symbol_at q series w b p))
  product_of u w a b =
      let (e, h, at) = product_message q (sizes q curve).low (points_on q (columns_of q series)) on_curve_lem u w a b in (
        e,
        of_size q curve (size q (u + w)) e h,
        λ p l. at_point (u + w) e p l
            ∙ at (point_at q (columns_of q series) p) (mem_get_or (points_on q (columns_of q series)) (0, 0) p (point_lt p l))
            ∙ sym (ap₂ (field_of q).times (at_point u a p l) (at_point w b p l)),
      )

  -- ---- the message 0

  nought : ℕ → List ℕ
  nought s = replicate (size q s) 0

  vector_nought : (s : ℕ) → Vector (q * q) (size q s) (nought s)
  unfolding nought
  vector_nought s =
      record {
        len = length-replicate (size q s) 0;
        small = λ i l. omega (arith, get_or_zeros (size q s) i, (sizes q curve).size, zero_lt (field_of q));
      }

  value_nought : (s x y : ℕ) → value_at q s (nought s) x y ≡ 0
  unfolding value_at nought
  value_nought s x y =
      sum_zeros (size q s) (λ n. (field_of q).times (monomial q (get_or (weights q s) n 0) x y) (get_or (replicate (size q s) 0) n 0))
      (λ n l. ap ((field_of q).times (monomial q (get_or (weights q s) n 0) x y)) (get_or_zeros (size q s) n) ∙ times_zero (field_of q) _)

  -- a message of order s other than 0 has at most s zeros
  abbrev pub zero_at : ℕ → List ℕ → ℕ → Bool
  zero_at s f p = eqb (symbol_at q series s f p) 0

  pub few_zeros : (s : ℕ) (f : List ℕ) → Vector (q * q) (size q s) f → (i : ℕ) → (get_or f i 0 ≡ 0 → ⊥)
      → count (zero_at s f) (below (q * q * q)) ≤ s
  unfolding nought
  few_zeros s f h i d = elim (dec_le (count (zero_at s f) (below (q * q * q))) s) [
    | yes l ↦ l
    | no n ↦
        absurd (d (ap (λ (v : List ℕ). get_or v i 0)
        ((facts q series s curve).agreement f (nought s) h (vector_nought s) (places (zero_at s f) (q * q * q)) (nodup_places (zero_at s f) (q * q * q))
        (omega (arith, length_places (zero_at s f) (q * q * q)))
        (λ p k. let w = of_mem_places (zero_at s f) (q * q * q) p k in (
          w.0,
          eqb→eq (symbol_at q series s f p) 0 w.1
              ∙ sym (at_point s (nought s) p w.0 ∙ value_nought s (point_at q (columns_of q series) p).0 (point_at q (columns_of q series) p).1),
        )))
        ∙ get_or_zeros (size q s) i))
  ]
