-- The messages that fit a model are those that fit the word that recovery reads, and the reading of that says how many they are.
-- Assumes nothing.
use mathlib.Core.List.{List, map}
use mathlib.Core.Logic.{◌↔◌, ◌⊎◌, inl, inr}
use mathlib.Core.Path.{◌≡◌, refl, sym, ap, ◌∙◌}
use Prim.Native.Nat.{ℕ, ◌+◌, ◌*◌, ◌^◌, ◌≤◌, ◌<◌}
use native.Mathlib.Omega.{arith}
use lib.ListN.{length, get_or, length-map}
use Rattle.field.specs.Curve.{IsCurve}
use Rattle.field.proofs.Curves.{sizes, two_symbols}
use Rattle.poly.specs.Sets.{ListOf, Alone, TwoOrMore, Exactly}
use Rattle.poly.proofs.Lists.{get_or_map}
use Rattle.poly.proofs.Sets.{list_iff}
use Rattle.linear.proofs.Elimination.{PowerOrNone}
use Rattle.points.specs.Series.{columns_of}
use Rattle.code.specs.Terms.{size}
use Rattle.code.specs.Word.{word_of}
use Rattle.code.specs.Fitting.{fitting}
use Rattle.code.specs.Recovered.{nothing, message, several, reading}
use Rattle.code.proofs.Readings.{Fitting, fitting_list, length_fitting, reads_nothing, reads_message, reads_several}
use Rattle.code.proofs.Recoveries.{reading_of}
use Rattle.code.proofs.Facts.{Broken, facts}
use Rattle.session.specs.ReferenceModel.{Place, missing, symbol, conflict, Model, symbol_count}
use Rattle.session.specs.Claim.{FitsModel}
use Rattle.session.proofs.Steps.{received_value, Small}
use Rattle.session.proofs.SymbolPlaces.{symbol_place_lt, symbol_places, length_symbol_places, of_mem_symbol_places, nodup_symbol_places}

module _ (q series m : ℕ) (curve : IsCurve q) (model : Model) (len : length model ≡ q * q * q) (small : Small (q * q) model) where
  abbrev word : List ℕ → List ℕ
  word = word_of q (columns_of q series) m

  abbrev broken : List ℕ
  broken = map received_value model

  at_place : (p : ℕ) → p < length model → (o : Place) → get_or model p missing ≡ o → get_or broken p 0 ≡ received_value o
  at_place p l o e = get_or_map received_value model missing 0 p l ∙ ap received_value e

  fits_iff : (v : List ℕ) → Fitting (q * q) (size q m) word broken v ↔ FitsModel q series m model v
  fits_iff v = (
    λ h. record {
      symbols = h.vector;
      agree = λ p s r e.
          let l = symbol_place_lt model p s r e in
          let here : get_or broken p 0 ≡ s = at_place p l (symbol s r) e in
          h.fits.at p (omega (arith, length-map model received_value)) (λ z. omega (arith, small p s r e, (sizes q curve).symbols)) ∙ here;
    },
    λ h. record {
      vector = h.symbols;
      fits = record { at = λ p l n. go h p (omega (arith, length-map model received_value)) n (get_or model p missing) refl };
    },
  )
    where
      go : FitsModel q series m model v → (p : ℕ) → p < length model → (get_or broken p 0 ≡ 255 → ⊥) → (o : Place) → get_or model p missing ≡ o
          → get_or (word v) p 0 ≡ get_or broken p 0
      go h p l n missing e = absurd (n (at_place p l missing e))
      go h p l n (conflict r) e = absurd (n (at_place p l (conflict r) e))
      go h p l n (symbol s r) e = h.agree p s r e ∙ sym (at_place p l (symbol s r) e)

  fit_list : ListOf (FitsModel q series m model) (fitting (q * q) (size q m) word broken)
  fit_list =
      list_iff (Fitting (q * q) (size q m) word broken) (FitsModel q series m model) (fitting (q * q) (size q m) word broken) fits_iff
      (fitting_list (q * q) (size q m) word broken)

  is_broken : Broken q broken
  is_broken = record { len = length-map model received_value ∙ len; value = λ p l. go p (omega arith) (get_or model p missing) refl }
    where
      go : (p : ℕ) → p < length model → (o : Place) → get_or model p missing ≡ o → (get_or broken p 0 ≡ 255) ⊎ (get_or broken p 0 < q * q)
      go p l missing e = inl (at_place p l missing e)
      go p l (conflict r) e = inl (at_place p l (conflict r) e)
      go p l (symbol s r) e = inr (rw (at_place p l (symbol s r) e) (small p s r e))

  powers : PowerOrNone (q * q) (length (fitting (q * q) (size q m) word broken))
  powers = rw (length_fitting (q * q) (size q m) word broken) ((facts q series m curve).power broken is_broken)

  -- so the reading says of the model what it should
  pub none_fits : (reading_of q series m broken ≡ nothing) ↔ ((v : List ℕ) → FitsModel q series m model v → ⊥)
  unfolding reading
  none_fits = reads_nothing (q * q) (two_symbols q curve) (FitsModel q series m model) (fitting (q * q) (size q m) word broken) fit_list

  pub one_fits : (v : List ℕ) → (reading_of q series m broken ≡ message v) ↔ Alone (FitsModel q series m model) v
  unfolding reading
  one_fits = reads_message (q * q) (two_symbols q curve) (FitsModel q series m model) (fitting (q * q) (size q m) word broken) fit_list

  pub several_fit : (r : ℕ)
      → (reading_of q series m broken ≡ several r) ↔ (TwoOrMore (FitsModel q series m model) × Exactly ((q * q) ^ r) (FitsModel q series m model))
  unfolding reading
  several_fit =
      reads_several (q * q) (two_symbols q curve) (FitsModel q series m model) (fitting (q * q) (size q m) word broken) fit_list powers

  -- m + 1 places hold a symbol: no two messages fit
  pub never_two : m + 1 ≤ symbol_count model → TwoOrMore (FitsModel q series m model) → ⊥
  never_two enough two =
      two.different
      ((facts q series m curve).agreement two.one two.other two.one_has.symbols two.other_has.symbols
      (symbol_places 0 model) (nodup_symbol_places 0 model)
      (omega (arith, length_symbol_places 0 model))
      (λ p h.
      let w = of_mem_symbol_places 0 model p h in
      let e : p ≡ w.0 = omega (arith, w.3) in (
        omega (arith, symbol_place_lt model w.0 w.1 w.2 w.4),
        rw e (two.one_has.agree w.0 w.1 w.2 w.4 ∙ sym (two.other_has.agree w.0 w.1 w.2 w.4)),
      )))
