-- THE DUAL CODE. Over all columns a word of n symbols is a codeword of order m exactly when, against every codeword of order n + 2g − 2 − m, the
-- place_by_place products add up to 0; and exactly then it is read.
-- One way is orthogonality. Conversely, of the entries of the word's grid that are not 0 let x^i·y^j be the heaviest. If its weight w were above
-- m, the term x^(q·q−1−i)·y^(q−1−j), of weight n + 2g − 1 − w, would be of the partner order, and the products by it would add up to that entry.
-- Assumes nothing.
use mathlib.Core.Bool.{true}
use mathlib.Core.List.{List}
use mathlib.Core.Logic.{◌↔◌}
use mathlib.Core.Path.{◌≡◌, sym, ap, ap₂, ◌∙◌, subst}
use Prim.Native.Nat.{ℕ, zero, suc, ◌+◌, ◌*◌, ◌/◌, ◌%◌, ◌<◌}
use native.Mathlib.Nat.{div-add-mod}
use native.Mathlib.Decide.{dec_lt}
use native.Mathlib.Omega.{arith}
use lib.ListN.{length, get_or}
use Rattle.field.specs.Sum.{sum}
use Rattle.field.specs.Curve.{IsCurve, curve_of}
use Rattle.field.specs.Outcomes.{Done}
use Rattle.field.proofs.FieldLaws.{zero_times, times_zero}
use Rattle.field.proofs.Sums.{sum_cong, sum_single}
use Rattle.field.proofs.Fields.{field_of}
use Rattle.field.proofs.Curves.{sizes}
use Rattle.poly.specs.Messages.{Vector}
use Rattle.poly.specs.Inner.Linear.{entry, dot}
use Rattle.poly.proofs.Linear.{dot_cong}
use Rattle.poly.proofs.Pairings.{dot_comm, dot_terms}
use Rattle.points.specs.Series.{is_series, columns_of}
use Rattle.code.specs.Terms.{size}
use Rattle.code.specs.Answers.{Answer, answered}
use Rattle.code.specs.Unencoded.{unencoded}
use Rattle.code.specs.Inner.Grid.{weight_of, entry_of, gather, order_at_most}
use Rattle.code.specs.Inner.Readable.{WordOver, GridOf, read_over}
use Rattle.code.proofs.Weights.{entry_of_weight}
use Rattle.code.proofs.Order.{within_of}
use Rattle.code.proofs.Inverse.{word_over, read_own, read_found, unencoded_read, word_accepted}
use Rattle.code.proofs.WordGrids.{vector_gather, grid_word}
use Rattle.dual.specs.Partner.{partner}
use Rattle.dual.specs.Orthogonal.{product_sum, Codeword, Orthogonal}
use Rattle.dual.specs.Inner.PointSums.{AllColumns, x_at, y_at, powers_at, point_sum, heaviest}
use Rattle.dual.proofs.PartnerWeights.{mate_x, mate_y, weight_le, mate_exact, mate_order, mate_light, partner_light}
use Rattle.dual.proofs.PointSums.{all_columns, places, place_of_lem, sum_below, sum_top}
use Rattle.dual.proofs.WholeGrids.{entry_sum, word_grid, word_grid_lem}
use Rattle.dual.proofs.Orthogonality.{pair, words_orthogonal, terms_zero}

module _ (q : ℕ) (columns : List ℕ) (f : AllColumns q columns) where
  curve : IsCurve q
  curve = f.over.curve

  two : 1 < q
  two = (sizes q curve).low

  pos : 0 < q
  pos = omega (arith, two)

  -- ---- the converse

  -- the term of a grid's entry e, at place p
  entry_at : ℕ → ℕ → ℕ
  entry_at e = powers_at q columns (e / q) (e % q)

  module _ (word grid : List ℕ) (g : GridOf q columns word grid) where
    -- the word, entry by entry
    word_entries : (p : ℕ) → p < q * q * q → get_or word p 0 ≡ dot (field_of q) (q * q * q) (λ e. entry_at e p) (entry grid)
    unfolding entry_at powers_at
    word_entries p l =
        let h = place_of_lem q columns f p l in
        ap (λ (k : ℕ). get_or word k 0) (sym (div-add-mod p q)) ∙ sym (g.is (p / q) (p % q) h.0 h.1)
        ∙ entry_sum (field_of q) q pos (length columns) grid (x_at q columns p) (y_at q columns p)
        ∙ ap (λ (n : ℕ). dot (field_of q) n (λ e. entry_at e p) (entry grid)) (places q columns f)

    module _ (m : ℕ) (orthogonal : Orthogonal q columns (partner q m) word) where
      -- against the mate of a heavy entry e
      against_mate : (e : ℕ) → e < q * q * q → m < weight_of q e
          → sum (q * q * q) (λ d. (field_of q).times (point_sum q columns (mate_x q e + d / q) (mate_y q e + d % q)) (get_or grid d 0)) ≡ 0
      unfolding entry_at dot
      against_mate e l h =
          let F = field_of q in
          let n = q * q * q in
          let mate = powers_at q columns (mate_x q e) (mate_y q e) in
          sum_cong n (λ d. F.times (point_sum q columns (mate_x q e + d / q) (mate_y q e + d % q)) (get_or grid d 0))
          (λ d. F.times (dot F n mate (entry_at d)) (get_or grid d 0))
          (λ d _. ap (λ (x : ℕ). F.times x (get_or grid d 0)) (sym (pair q columns f (mate_x q e) (mate_y q e) (d / q) (d % q))))
          ∙ sym (dot_terms F n n mate entry_at (entry grid))
          ∙ dot_comm F n mate (λ p. dot F n (λ d. entry_at d p) (entry grid))
          ∙ sym (dot_cong F n (entry word) (λ p. dot F n (λ d. entry_at d p) (entry grid)) mate word_entries)
          ∙ terms_zero q columns f (partner q m) word orthogonal (mate_x q e) (mate_y q e) (omega (arith, pos)) (mate_order q two m e l h)

      -- an entry is 0 where all heavier ones are
      entry_zero : (e : ℕ) → e < q * q * q → m < weight_of q e → ((d : ℕ) → d < q * q * q → weight_of q e < weight_of q d → get_or grid d 0 ≡ 0)
          → get_or grid e 0 ≡ 0
      entry_zero e l h heavier =
          sym ((field_of q).times_one (get_or grid e 0) (g.symbols e))
          ∙ ap (λ (x : ℕ). (field_of q).times x (get_or grid e 0))
          (sym (ap₂ (point_sum q columns) (mate_exact q two e l).0 (mate_exact q two e l).1 ∙ sum_top q columns f))
          ∙ sym (sum_single (q * q * q) e term l (λ d k ne. other d k ne (dec_lt (weight_of q d) (weight_of q e)) (dec_lt (weight_of q e) (weight_of q d))))
          ∙ against_mate e l h
        where
          term : ℕ → ℕ
          term d = (field_of q).times (point_sum q columns (mate_x q e + d / q) (mate_y q e + d % q)) (get_or grid d 0)

          other : (d : ℕ) → d < q * q * q → (d ≡ e → ⊥) → Dec (weight_of q d < weight_of q e) → Dec (weight_of q e < weight_of q d) → term d ≡ 0
          other d k ne (yes a) b =
              ap (λ (x : ℕ). (field_of q).times x (get_or grid d 0))
              (sum_below q columns f (mate_x q e + d / q) (mate_y q e + d % q) (mate_light q two e d l a))
              ∙ zero_times (field_of q) (get_or grid d 0)
          other d k ne (no a) (yes b) =
              ap ((field_of q).times (point_sum q columns (mate_x q e + d / q) (mate_y q e + d % q))) (heavier d k b) ∙ times_zero (field_of q) _
          other d k ne (no a) (no b) =
              let same : weight_of q d ≡ weight_of q e = omega arith in
              absurd (ne (sym (entry_of_weight q pos d) ∙ ap (entry_of q) same ∙ entry_of_weight q pos e))

      heavy_zero : (k e : ℕ) → e < q * q * q → m < weight_of q e → heaviest q < weight_of q e + k → get_or grid e 0 ≡ 0
      heavy_zero zero e l h b = absurd (omega (arith, weight_le q two e l))
      heavy_zero (suc k) e l h b = entry_zero e l h (λ d a c. heavy_zero k d a (omega arith) (omega arith))

      -- no entry above m
      light_grid : order_at_most q m (length grid) grid ≡ true
      light_grid =
          ap (λ (k : ℕ). order_at_most q m k grid) (g.long ∙ places q columns f)
          ∙ within_of q m grid (q * q * q) (λ e l h. heavy_zero (suc (heaviest q)) e l h (omega arith))

  -- ---- the theorem

  module _ (m : ℕ) (order : m < (curve_of q).points) (word : List ℕ) (v : Vector (curve_of q).symbols (curve_of q).points word) where
    order_all : m < q * length columns
    order_all = omega (arith, places q columns f)

    vector_all : Vector (q * q) (q * length columns) word
    vector_all = subst (λ (n : ℕ). Vector (q * q) n word) (sym (places q columns f)) v

    over_all : WordOver q columns word
    over_all = word_over q columns f.over m order_all word vector_all

    pub codeword_orthogonal : Codeword q columns m word → Orthogonal q columns (partner q m) word
    codeword_orthogonal (a, va, ea) other (b, vb, eb) =
        ap₂ (product_sum q) (sym ea) (sym eb) ∙ words_orthogonal q columns f m (partner q m) a b (partner_light q two m order)

    pub orthogonal_codeword : Orthogonal q columns (partner q m) word → Codeword q columns m word
    orthogonal_codeword h =
        let grid = word_grid q columns word over_all in
        let g = word_grid_lem q columns word over_all in (
          gather q m grid,
          rw (← (sizes q curve).size) (vector_gather q m (field_of q).size grid g.symbols),
          grid_word q columns word over_all m order_all grid g (light_grid word grid g m h),
        )

    -- THE THEOREM, over all columns in any order
    pub codeword_dual : Codeword q columns m word ↔ Orthogonal q columns (partner q m) word
    codeword_dual = (codeword_orthogonal, orthogonal_codeword)

    -- ---- and reading

    read_codeword : (slice : List ℕ) → Codeword q columns m word → (read_over q columns m word slice).outcome ≡ Done
    read_codeword slice (u, vu, e) =
        ap (λ (x : List ℕ). (read_over q columns m x slice).outcome) (sym e)
        ∙ ap (λ (a : Answer). a.outcome) (read_own q columns f.over m order_all u slice vu)

    codeword_read : (slice : List ℕ) → (read_over q columns m word slice).outcome ≡ Done → Codeword q columns m word
    codeword_read slice e =
        let r = read_over q columns m word slice in
        let (vu, has) = read_found q columns f.over m order_all word vector_all slice r.slice (made r e) in
        (r.slice, vu, has)
      where
        made : (x : Answer) → x.outcome ≡ Done → x ≡ answered Done x.slice
        made x e = ap (λ o. answered o x.slice) e

    -- the products by each codeword of the partner order add up to 0 exactly when the word is read
    pub orthogonal_read : (slice : List ℕ) → Orthogonal q columns (partner q m) word ↔ ((read_over q columns m word slice).outcome ≡ Done)
    orthogonal_read slice = (λ o. read_codeword slice (orthogonal_codeword o), λ e. codeword_orthogonal (codeword_read slice e))

-- ---- over all columns in the order of a series

module _ (q series m : ℕ) (curve : IsCurve q) (order : m < (curve_of q).points) (word : List ℕ)
    (v : Vector (curve_of q).symbols (curve_of q).points word) where
  -- THE THEOREM
  pub codeword_exactly : Codeword q (columns_of q series) m word ↔ Orthogonal q (columns_of q series) (partner q m) word
  codeword_exactly = codeword_dual q (columns_of q series) (all_columns q series curve) m order word v

  -- exactly when unencoding, lent a slice of length k, succeeds
  pub orthogonal_unencoded : is_series series ≡ true → (slice : List ℕ) → length slice ≡ size q m
      → Orthogonal q (columns_of q series) (partner q m) word ↔ ((unencoded q series m word slice).outcome ≡ Done)
  orthogonal_unencoded named slice long =
      let (to, from) = orthogonal_read q (columns_of q series) (all_columns q series curve) m order word v slice in
      let e = ap (λ (a : Answer). a.outcome)
      (unencoded_read q series m curve named order word slice (word_accepted q series m curve named order word slice v long)) in
      (λ o. e ∙ to o, λ d. from (sym e ∙ d))
