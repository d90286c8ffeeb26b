-- From the end of the elimination to the reading of a broken word. Of e gaps r were pivots, and the vector that is left is 0 at the heavy entries
-- or not: no message fits; or Q^(e - r) do, and where r is e the one is gathered from that vector.
-- Assumes nothing.
use mathlib.Core.Bool.{Bool, true, false}
use mathlib.Core.List.{List, [], ◌∷◌}
use mathlib.Core.Path.{◌≡◌, refl, sym, ap, ◌∙◌, subst}
use Prim.Native.Nat.{ℕ, suc, ◌-◌, ◌*◌, ◌^◌, ◌≤◌, ◌<◌}
use native.Mathlib.Omega.{arith}
use lib.Dec.{ltb→lt, lt→ltb}
use lib.ListN.{length, get_or}
use lib.Seq.{ext_get_or}
use Rattle.field.proofs.Fields.{field_of}
use Rattle.field.proofs.Curves.{sizes, two_symbols}
use Rattle.poly.specs.Lists.{count}
use Rattle.poly.specs.Messages.{all}
use Rattle.poly.specs.Sets.{ListOf}
use Rattle.poly.specs.Inner.Linear.{entry}
use Rattle.poly.proofs.Messages.{get_or_tabulate}
use Rattle.linear.specs.Inner.Combinations.{Family, combined, ZeroOn, solutions, Padded, Eliminated}
use Rattle.linear.proofs.Combinations.{zero_wider, zero_narrower, solutions_wider}
use Rattle.linear.proofs.Pivots.{solutions_all, solutions_no, combined_left, solution}
use Rattle.points.proofs.Passing.{at_place}
use Rattle.code.specs.Terms.{is_term, weights, size}
use Rattle.code.specs.Word.{word_of}
use Rattle.code.specs.Inner.Grid.{weight_of, entry_of, gather, order_at_most}
use Rattle.code.specs.Fitting.{fits, fitting}
use Rattle.code.specs.Recovered.{nothing, message, several, read, reading}
use Rattle.code.specs.Inner.Recovering.{BrokenOver}
use Rattle.code.proofs.GridEntries.{length_gather, gather_number}
use Rattle.code.proofs.Order.{within_of, of_within}
use Rattle.code.proofs.Readings.{Fitting, length_fitting, reading_message, reading_several}
use Rattle.recovery.specs.Inner.Gaps.{Gap, GapGrids, heavy}
use Rattle.recovery.proofs.GapGrids.{grid_with, at_gaps, gathered_fits, gaps_zero, gathered_again, fitting_solutions}

reading_none : (Q k : ℕ) (word : List ℕ → List ℕ) (broken : List ℕ) → count (fits word broken) (all Q k) ≡ 0 → reading Q k word broken ≡ nothing
unfolding reading read
reading_none Q k word broken e = go (fitting Q k word broken) (length_fitting Q k word broken ∙ e)
  where
    go : (l : List (List ℕ)) → length l ≡ 0 → read Q l ≡ nothing
    go [] z = refl
    go (v ∷ l) z = absurd (omega arith)

-- the test of the weights, of a list whose entries are known
module _ (q m room : ℕ) (f : ℕ → ℕ) (grid : List ℕ) (is : (i : ℕ) → i < room → get_or grid i 0 ≡ f i) where
  pub light : order_at_most q m room grid ≡ true → ZeroOn (heavy q m) room f
  light e = record { at = λ i l w. sym (is i l) ∙ of_within q m grid room e i l (ltb→lt m (weight_of q i) w) }

  pub not_light : order_at_most q m room grid ≡ false → ZeroOn (heavy q m) room f → ⊥
  not_light e z =
      let t : order_at_most q m room grid ≡ true = within_of q m grid room (λ i l w. is i l ∙ z.at i l (lt→ltb m (weight_of q i) w)) in
      let o : ◌≡◌ {A = Bool} true false = sym t ∙ e in
      let n : ◌≡◌ {A = ℕ} 0 1 = cc in
      omega arith

-- a message is gathered from the entries up to its order
gather_same : (q m n : ℕ) (a b : List ℕ) → m < n → ((i : ℕ) → i < n → get_or a i 0 ≡ get_or b i 0) → gather q m a ≡ gather q m b
gather_same q m n a b order e =
    ext_get_or 0 (gather q m a) (gather q m b) (length_gather q m a ∙ sym (length_gather q m b))
    (λ i l.
    let k : i < size q m = omega (arith, length_gather q m a) in
    gather_number q m a i k ∙ e (entry_of q (get_or (weights q m) i 0)) (omega (arith, (at_place (is_term q) (suc m) i k).0))
    ∙ sym (gather_number q m b i k))

module _ (q : ℕ) (columns : List ℕ) (m : ℕ) (broken : List ℕ) (h : BrokenOver q columns m broken) (gaps : List ℕ) (listed : ListOf (Gap broken) gaps)
    (S : Family) (grids : GapGrids q columns broken gaps S) (room : ℕ) (pad : Padded (q * length columns) room (length gaps) S)
    (t r : ℕ) (left : Family) (ended : Eliminated (field_of q) (heavy q m) room (length gaps) S t r left) (done : length gaps ≤ t) where
  abbrev Light : Type 0
  Light = ZeroOn (heavy q m) room left.added

  counted : count (fits (word_of q columns m) broken) (all (q * q) (size q m)) ≡ solutions (field_of q) (heavy q m) room (length gaps) S
  counted =
      fitting_solutions q columns m broken h gaps listed S grids
      ∙ sym (solutions_wider (field_of q) (heavy q m) (q * length columns) room (length gaps) S pad)

  pub gaps_nothing : (Light → ⊥) → reading (field_of q).size (size q m) (word_of q columns m) broken ≡ nothing
  gaps_nothing d =
      subst (λ (Q : ℕ). reading Q (size q m) (word_of q columns m) broken ≡ nothing) (sym (sizes q h.over.curve).size)
      (reading_none (q * q) (size q m) (word_of q columns m) broken
      (counted ∙ solutions_no (field_of q) (heavy q m) room (length gaps) S t r left ended done d))

  pub gaps_several : Light → r < length gaps → reading (field_of q).size (size q m) (word_of q columns m) broken ≡ several (length gaps - r)
  gaps_several z l =
      subst (λ (Q : ℕ). reading Q (size q m) (word_of q columns m) broken ≡ several (length gaps - r)) (sym (sizes q h.over.curve).size)
      (reading_several (q * q) (size q m) (word_of q columns m) broken (two_symbols q h.over.curve) (length gaps - r) (omega arith)
      (counted ∙ solutions_all (field_of q) (heavy q m) room (length gaps) S t r left ended done z
      ∙ ap (λ (Q : ℕ). Q ^ (length gaps - r)) (sizes q h.over.curve).size))

  -- the vector that is left, in a list
  module _ (full : r ≡ length gaps) (grid : List ℕ) (is : (i : ℕ) → i < q * length columns → get_or grid i 0 ≡ left.added i) where
    same_message : (u : ℕ → ℕ) → ZeroOn (heavy q m) room (combined (field_of q) (length gaps) S u)
        → gather q m (grid_with q columns m broken h gaps listed S grids u) ≡ gather q m grid
    same_message u z =
        let f = combined (field_of q) (length gaps) S u in
        gather_same q m (q * length columns) (grid_with q columns m broken h gaps listed S grids u) grid h.order
        (λ i l. get_or_tabulate (q * length columns) f i l
        ∙ combined_left (field_of q) (heavy q m) room (length gaps) S t r left ended done full u z i (omega (arith, pad.within)) ∙ sym (is i l))

    pub gaps_message : Light → reading (field_of q).size (size q m) (word_of q columns m) broken ≡ message (gather q m grid)
    gaps_message z =
        let w = solution (field_of q) (heavy q m) room (length gaps) S t r left ended done z in
        let fit : Fitting (q * q) (size q m) (word_of q columns m) broken (gather q m grid)
        = subst (Fitting (q * q) (size q m) (word_of q columns m) broken) (same_message (entry w.0) w.2)
        (gathered_fits q columns m broken h gaps listed S grids (entry w.0)
        (zero_narrower (field_of q) (heavy q m) (q * length columns) room (length gaps) S pad _ w.2)) in
        subst (λ (Q : ℕ). reading Q (size q m) (word_of q columns m) broken ≡ message (gather q m grid)) (sym (sizes q h.over.curve).size)
        (reading_message (q * q) (size q m) (word_of q columns m) broken (two_symbols q h.over.curve) (gather q m grid) fit.vector fit.fits
        (λ v vector f.
        let other : Fitting (q * q) (size q m) (word_of q columns m) broken v = record { vector = vector; fits = f } in
        let u = entry (at_gaps q columns m broken h gaps listed S grids v) in
        gathered_again q columns m broken h gaps listed S grids v other
        ∙ same_message u
        (zero_wider (field_of q) (heavy q m) (q * length columns) room (length gaps) S pad u
        (gaps_zero q columns m broken h gaps listed S grids v other))))
