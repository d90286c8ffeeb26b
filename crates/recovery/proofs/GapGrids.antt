-- The messages that fit a broken word correspond one to one to the symbols for its gaps with which the grid has no heavy term; and the message
-- is gathered from that grid.
-- Assumes nothing.
use mathlib.Core.Bool.{true}
use mathlib.Core.List.{List}
use mathlib.Core.Logic.{⊎_elim}
use mathlib.Core.Path.{◌≡◌, refl, sym, ap, ap₂, ◌∙◌}
use Prim.Native.Nat.{ℕ, ◌+◌, ◌*◌, ◌<◌}
use native.Mathlib.Decide.{ℕ_discrete}
use native.Mathlib.Omega.{arith}
use borrow.Author.Tests.{eq-eqb, ne_eqb}
use lib.Dec.{eqb, ltb→lt, lt→ltb}
use lib.ListN.{length, get_or}
use lib.Seq.{ext_get_or}
use Rattle.field.specs.Plus.{plus}
use Rattle.field.proofs.Plus.{plus_zero, zero_plus}
use Rattle.field.proofs.FieldLaws.{zero_lt, times_zero, times_one_right}
use Rattle.field.proofs.Sums.{sum_zeros, sum_single}
use Rattle.field.proofs.Fields.{field_of}
use Rattle.poly.specs.Lists.{one_if, count}
use Rattle.poly.specs.Messages.{Vector, all}
use Rattle.poly.specs.Sets.{ListOf}
use Rattle.poly.specs.Inner.Linear.{entry, dot}
use Rattle.poly.specs.Inner.Polynomials.{value}
use Rattle.poly.proofs.Lists.{mem_get_or, get_or_mem, nodup_get_or, one_if_le}
use Rattle.poly.proofs.Messages.{tabulate, length_tabulate, get_or_tabulate, vector_tabulate, vector_below, vector_ext, mem_all, of_mem_all, nodup_all}
use Rattle.poly.proofs.Values.{value_cong}
use Rattle.poly.proofs.Linear.{dot_lt, dot_local}
use Rattle.poly.proofs.Interleaving.{place_lt}
use Rattle.poly.proofs.Counting.{count_bijection}
use Rattle.linear.specs.Inner.Combinations.{Family, combined, ZeroOn, zero_on, solutions, Symbols}
use Rattle.linear.proofs.Combinations.{of_zero_on, to_zero_on, combined_lt, value_combined}
use Rattle.points.specs.Inner.Columns.{column_y}
use Rattle.code.specs.Terms.{size}
use Rattle.code.specs.Word.{word_of}
use Rattle.code.specs.Inner.Grid.{weight_of, gather, order_at_most}
use Rattle.code.specs.Fitting.{fits}
use Rattle.code.specs.Inner.Readable.{WordOver, GridOf}
use Rattle.code.specs.Inner.Recovering.{BrokenOver}
use Rattle.code.proofs.WordColumns.{word_length}
use Rattle.code.proofs.Rows.{word_dot}
use Rattle.code.proofs.Order.{within_of, of_within}
use Rattle.code.proofs.Fitting.{of_fits, to_fits}
use Rattle.code.proofs.Readings.{Fitting}
use Rattle.code.proofs.WordGrids.{grid_word, has_word, only_gathered, only_within}
use Rattle.recovery.specs.Inner.Gaps.{grid_at, Gap, known, GapGrids, heavy}

-- the grid of a combination takes the combination of the values
grid_combined : (q : ℕ) (columns : List ℕ) (e : ℕ) (S : Family) (u : ℕ → ℕ) (t s : ℕ)
    → grid_at q columns (combined (field_of q) e S u) t s
    ≡ plus (grid_at q columns S.added t s) (dot (field_of q) e u (λ p. grid_at q columns (S.vector p) t s))
unfolding combined
grid_combined q columns e S u t s =
    let F = field_of q in
    let c = length columns in
    let x = get_or columns t 0 in
    value_cong F q _ (λ j. plus (value F c (λ i. S.added (q * i + j)) x) (dot F e u (λ p. value F c (λ i. S.vector p (q * i + j)) x)))
    (column_y q columns t s)
    (λ j l. value_combined F c e (record { vector = λ p i. S.vector p (q * i + j); added = λ i. S.added (q * i + j) }) u x)
    ∙ value_combined F q e
    (record { vector = λ p j. value F c (λ i. S.vector p (q * i + j)) x; added = λ j. value F c (λ i. S.added (q * i + j)) x })
    u (column_y q columns t s)

-- the word with 0 at the gaps, and those with 1 at one gap
abbrev pub gap_words : List ℕ → List ℕ → Family
gap_words broken gaps = record { vector = λ j p. one_if (eqb p (entry gaps j)); added = known broken }

module _ (q : ℕ) (columns : List ℕ) (m : ℕ) (broken : List ℕ) (h : BrokenOver q columns m broken) (gaps : List ℕ)
    (listed : ListOf (Gap broken) gaps) where
  -- the word that has the symbols of u at the gaps
  abbrev filled : (ℕ → ℕ) → ℕ → ℕ
  filled = combined (field_of q) (length gaps) (gap_words broken gaps)

  abbrev filled_word : (ℕ → ℕ) → List ℕ
  filled_word u = tabulate (q * length columns) (filled u)

  filled_known : (u : ℕ → ℕ) (p : ℕ) → p < length broken → (entry broken p ≡ 255 → ⊥) → filled u p ≡ entry broken p
  unfolding combined dot
  filled_known u p l d =
      let k : known broken p ≡ entry broken p = rw (ne_eqb (entry broken p) 255 d) in
      ap₂ plus k
      (sum_zeros (length gaps) (λ j. (field_of q).times (u j) (one_if (eqb p (entry gaps j))))
      (λ j b.
      rw (ne_eqb p (entry gaps j) (λ e. d (ap (entry broken) e ∙ (listed.sound (entry gaps j) (mem_get_or gaps 0 j b)).missing)))
      (times_zero (field_of q) (u j))))
      ∙ plus_zero (entry broken p)

  filled_gap : (u : ℕ → ℕ) (j : ℕ) → j < length gaps → u j < (field_of q).size → filled u (entry gaps j) ≡ u j
  unfolding combined dot
  filled_gap u j b small =
      let p = entry gaps j in
      let k : known broken p ≡ 0 = rw (eq-eqb (entry broken p) 255 (listed.sound p (mem_get_or gaps 0 j b)).missing) in
      ap₂ plus k
      (sum_single (length gaps) j (λ i. (field_of q).times (u i) (one_if (eqb p (entry gaps i)))) b
      (λ i l d. rw (ne_eqb p (entry gaps i) (λ e. d (sym (nodup_get_or gaps 0 listed.distinct j i b l e)))) (times_zero (field_of q) (u i)))
      ∙ rw (eq-eqb p p refl) (times_one_right (field_of q) (u j) small))
      ∙ zero_plus (u j)

  known_lt : (p : ℕ) → p < q * length columns → known broken p < (field_of q).size
  known_lt p l = elim (ℕ_discrete (entry broken p) 255) [
    | yes e ↦ rw (eq-eqb (entry broken p) 255 e) (zero_lt (field_of q))
    | no d ↦ rw (ne_eqb (entry broken p) 255 d) (⊎_elim (λ e. absurd (d e)) (λ s. s) (h.value p (omega (arith, h.long))))
  ]

  filled_over : (u : ℕ → ℕ) → WordOver q columns (filled_word u)
  filled_over u =
      record {
        over = h.over;
        few = h.few;
        long = length_tabulate (q * length columns) (filled u);
        symbols = vector_below (field_of q).size (q * length columns) (filled_word u) (zero_lt (field_of q))
            (vector_tabulate (field_of q).size (q * length columns) (filled u)
            (λ p l. combined_lt (field_of q) (q * length columns) (length gaps) (gap_words broken gaps) u p words l));
      }
    where
      words : Symbols (field_of q) (q * length columns) (length gaps) (gap_words broken gaps)
      words = record { vectors = λ j p a b. omega (arith, one_if_le (eqb p (entry gaps j)), (field_of q).two_le); added = known_lt }

  -- ---- the grids

  module _ (S : Family) (grids : GapGrids q columns broken gaps S) where
    abbrev together : (ℕ → ℕ) → ℕ → ℕ
    together = combined (field_of q) (length gaps) S

    abbrev pub grid_with : (ℕ → ℕ) → List ℕ
    grid_with u = tabulate (q * length columns) (together u)

    filled_grid : (u : ℕ → ℕ) → GridOf q columns (filled_word u) (grid_with u)
    unfolding combined
    filled_grid u =
        record {
          long = length_tabulate (q * length columns) (together u);
          symbols = vector_below (field_of q).size (q * length columns) (grid_with u) (zero_lt (field_of q))
              (vector_tabulate (field_of q).size (q * length columns) (together u)
              (λ p l. combined_lt (field_of q) (q * length columns) (length gaps) S u p grids.symbols l));
          is = λ t s a b.
              let x = get_or columns t 0 in
              value_cong (field_of q) q (λ j. value (field_of q) (length columns) (λ i. get_or (grid_with u) (q * i + j) 0) x)
              (λ j. value (field_of q) (length columns) (λ i. together u (q * i + j)) x) (column_y q columns t s)
              (λ j l. value_cong (field_of q) (length columns) (λ i. get_or (grid_with u) (q * i + j) 0) (λ i. together u (q * i + j)) x
              (λ i k. get_or_tabulate (q * length columns) (together u) (q * i + j) (place_lt q i j (length columns) l k)))
              ∙ grid_combined q columns (length gaps) S u t s
              ∙ ap₂ plus (grids.added t s a b)
              (dot_local (field_of q) (length gaps) u (λ p. grid_at q columns (S.vector p) t s) (λ p. one_if (eqb (q * t + s) (entry gaps p)))
              (λ p l. grids.vectors p t s l a b))
              ∙ sym (get_or_tabulate (q * length columns) (filled u) (q * t + s) (place_lt q t s (length columns) b a));
        }

    -- no heavy term, as a test of the grid
    to_within : (u : ℕ → ℕ) → ZeroOn (heavy q m) (q * length columns) (together u) → order_at_most q m (length (grid_with u)) (grid_with u) ≡ true
    to_within u z =
        within_of q m (grid_with u) (length (grid_with u))
        (λ e l w.
        let k : e < q * length columns = omega (arith, length_tabulate (q * length columns) (together u)) in
        get_or_tabulate (q * length columns) (together u) e k ∙ z.at e k (lt→ltb m (weight_of q e) w))

    from_within : (u : ℕ → ℕ) → order_at_most q m (length (grid_with u)) (grid_with u) ≡ true → ZeroOn (heavy q m) (q * length columns) (together u)
    from_within u e =
        record {
          at = λ i l w.
              sym (get_or_tabulate (q * length columns) (together u) i l)
              ∙ of_within q m (grid_with u) (length (grid_with u)) e i (omega (arith, length_tabulate (q * length columns) (together u)))
              (ltb→lt m (weight_of q i) w);
        }

    -- ---- from symbols for the gaps to a message

    abbrev Fit : List ℕ → Type 0
    Fit = Fitting (q * q) (size q m) (word_of q columns m) broken

    module _ (u : ℕ → ℕ) (z : ZeroOn (heavy q m) (q * length columns) (together u)) where
      has_filled : word_of q columns m (gather q m (grid_with u)) ≡ filled_word u
      has_filled = grid_word q columns (filled_word u) (filled_over u) m h.order (grid_with u) (filled_grid u) (to_within u z)

      pub gathered_fits : Fit (gather q m (grid_with u))
      gathered_fits =
          record {
            vector = (has_word q columns (filled_word u) (filled_over u) m h.order (grid_with u) (filled_grid u) (to_within u z)).vector;
            fits = record {
              at = λ p l d.
                  ap (λ (w : List ℕ). get_or w p 0) has_filled ∙ get_or_tabulate (q * length columns) (filled u) p (omega (arith, h.long))
                  ∙ filled_known u p l d;
            };
          }

    -- ---- from a message to the symbols that its word has at the gaps

    abbrev pub at_gaps : List ℕ → List ℕ
    at_gaps v = tabulate (length gaps) (λ j. get_or (word_of q columns m v) (entry gaps j) 0)

    symbol : (v : List ℕ) (p : ℕ) → p < length broken → get_or (word_of q columns m v) p 0 < (field_of q).size
    symbol v p l = rw (word_dot q columns h.over m v p (omega (arith, h.long))) (dot_lt (field_of q) (size q m) _ (entry v))

    gap_within : (j : ℕ) → j < length gaps → entry gaps j < length broken
    gap_within j b = (listed.sound (entry gaps j) (mem_get_or gaps 0 j b)).within

    pub gaps_vector : (v : List ℕ) → Vector (field_of q).size (length gaps) (at_gaps v)
    gaps_vector v =
        vector_tabulate (field_of q).size (length gaps) (λ j. get_or (word_of q columns m v) (entry gaps j) 0)
        (λ j b. symbol v (entry gaps j) (gap_within j b))

    module _ (v : List ℕ) (fit : Fit v) where
      same_at : (p : ℕ) → p < length broken → filled (entry (at_gaps v)) p ≡ get_or (word_of q columns m v) p 0
      same_at p l = elim (ℕ_discrete (entry broken p) 255) [
        | no d ↦ filled_known (entry (at_gaps v)) p l d ∙ sym (fit.fits.at p l d)
        | yes e ↦
            let w = get_or_mem gaps 0 (listed.whole p (record { within = l; missing = e })) in
            let j = w.0 in
            rw (← w.2)
            (filled_gap (entry (at_gaps v)) j w.1 ((gaps_vector v).small j w.1)
            ∙ get_or_tabulate (length gaps) (λ j. get_or (word_of q columns m v) (entry gaps j) 0) j w.1)
      ]

      filled_is : filled_word (entry (at_gaps v)) ≡ word_of q columns m v
      filled_is =
          let long = word_length q m h.over.curve v columns h.over.small in
          ext_get_or 0 (filled_word (entry (at_gaps v))) (word_of q columns m v)
          (length_tabulate (q * length columns) (filled (entry (at_gaps v))) ∙ sym long)
          (λ p l.
          let k : p < q * length columns = omega (arith, length_tabulate (q * length columns) (filled (entry (at_gaps v)))) in
          get_or_tabulate (q * length columns) (filled (entry (at_gaps v))) p k ∙ same_at p (omega (arith, h.long)))

      fits_filled : Fitting (q * q) (size q m) (word_of q columns m) (filled_word (entry (at_gaps v))) v
      fits_filled = record { vector = fit.vector; fits = record { at = λ p l d. ap (λ (w : List ℕ). get_or w p 0) (sym filled_is) } }

      pub gaps_zero : ZeroOn (heavy q m) (q * length columns) (together (entry (at_gaps v)))
      gaps_zero =
          let u = entry (at_gaps v) in
          from_within u (only_within q columns (filled_word u) (filled_over u) m h.order (grid_with u) (filled_grid u) v fits_filled)

      pub gathered_again : v ≡ gather q m (grid_with (entry (at_gaps v)))
      gathered_again =
          let u = entry (at_gaps v) in
          only_gathered q columns (filled_word u) (filled_over u) m h.order (grid_with u) (filled_grid u) v fits_filled

    -- ---- one to one

    gaps_again : (u : List ℕ) → Vector (field_of q).size (length gaps) u → ZeroOn (heavy q m) (q * length columns) (together (entry u))
        → at_gaps (gather q m (grid_with (entry u))) ≡ u
    gaps_again u vector z =
        let v = gather q m (grid_with (entry u)) in
        vector_ext (field_of q).size (length gaps) (at_gaps v) u (gaps_vector v) vector
        (λ j b.
        let k : entry gaps j < q * length columns = omega (arith, h.long, gap_within j b) in
        get_or_tabulate (length gaps) (λ j. get_or (word_of q columns m v) (entry gaps j) 0) j b
        ∙ ap (λ (w : List ℕ). get_or w (entry gaps j) 0) (has_filled (entry u) z)
        ∙ get_or_tabulate (q * length columns) (filled (entry u)) (entry gaps j) k ∙ filled_gap (entry u) j b (vector.small j b))

    -- THE NUMBER OF MESSAGES THAT FIT
    pub fitting_solutions : count (fits (word_of q columns m) broken) (all (q * q) (size q m))
        ≡ solutions (field_of q) (heavy q m) (q * length columns) (length gaps) S
    unfolding solutions
    fitting_solutions =
        count_bijection (fits (word_of q columns m) broken) (λ u. zero_on (heavy q m) (q * length columns) (together (entry u)))
        (all (q * q) (size q m)) (all (field_of q).size (length gaps)) at_gaps (λ u. gather q m (grid_with (entry u)))
        (nodup_all (q * q) (size q m)) (nodup_all (field_of q).size (length gaps))
        (λ v k t.
        let fit : Fit v = record { vector = of_mem_all (q * q) (size q m) v k; fits = of_fits (word_of q columns m) broken v t } in (
          mem_all (field_of q).size (length gaps) (at_gaps v) (gaps_vector v),
          to_zero_on (heavy q m) (q * length columns) (together (entry (at_gaps v))) (gaps_zero v fit),
          sym (gathered_again v fit),
        ))
        (λ u k t.
        let z = of_zero_on (heavy q m) (q * length columns) (together (entry u)) t in
        let fit = gathered_fits (entry u) z in (
          mem_all (q * q) (size q m) (gather q m (grid_with (entry u))) fit.vector,
          to_fits (word_of q columns m) broken (gather q m (grid_with (entry u))) fit.fits,
          gaps_again u (of_mem_all (field_of q).size (length gaps) u k) z,
        ))
