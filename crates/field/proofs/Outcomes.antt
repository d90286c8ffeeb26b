-- Checks in a row, and refusals as an arm of the code is told of them.
-- Assumes nothing.
use mathlib.Core.Bool.{Bool, true, false, cond, false≢true}
use mathlib.Core.Logic.{◌↔◌, ◌⊎◌, inl, inr, ⊎_elim}
use mathlib.Core.Path.{◌≡◌, refl, sym, ap, ◌∙◌}
use Prim.Native.Nat.{ℕ}
use native.Mathlib.Omega.{arith}
use lib.Dec.{eqb}
use Rattle.std.specs.Prelude.{Result, Ok, Err}
use Rattle.std.specs.Result.{IsErrAnd, is_ok}
use Rattle.std.proofs.lemmas.Result.{err_from_is_err_and}
use Rattle.field.specs.Outcomes.{Outcome, Done, refusal_number, refusal_second, number, second, Says, refuse}
use Rattle.field.specs.declared.outcome.Refusal.{Refusal}
use Rattle.field.specs.declared.outcome.Refusal.TheVariants.{BadCurve, BadOrder, BadLength, BadValue, BadRoom, BadPlace}
use Rattle.field.specs.declared.outcome.Refusal.TheVariants.{BadSymbol, NoMessage, Several, NoneNear, NoRadius, InverseOfZero, BadWork}
use Rattle.field.specs.declared.outcome.Refusal.TheVariants.{BadPlaces, NoInformationSet, BadSeries, BadColumns, LowOrder}

-- no refusal has the number 0
pub counted : (r : Refusal) → eqb (refusal_number r) 0 ≡ false
counted BadCurve = refl
counted BadOrder = refl
counted BadLength = refl
counted (BadValue i) = refl
counted BadRoom = refl
counted BadPlace = refl
counted BadSymbol = refl
counted NoMessage = refl
counted (Several n) = refl
counted NoneNear = refl
counted NoRadius = refl
counted InverseOfZero = refl
counted BadWork = refl
counted BadPlaces = refl
counted NoInformationSet = refl
counted BadSeries = refl
counted BadColumns = refl
counted LowOrder = refl

pub done_or_refused : (o : Outcome) → (o ≡ Done) ⊎ (eqb (number o) 0 ≡ false)
done_or_refused (Ok done) = inl refl
done_or_refused (Err r) = inr (counted r)

-- an outcome other than Done, as an arm of the code is told of it
pub not_done : (o : Outcome) → (o ≡ Done → ⊥) → eqb (number o) 0 ≡ false
not_done o k = ⊎_elim (λ d. absurd (k d)) (λ n. n) (done_or_refused o)

pub done_or_not : (o : Outcome) → o ≡ Done → eqb (number o) 0 ≡ false → ⊥
done_or_not o e n = let f : ◌≡◌ {A = Bool} true false = sym (ap (λ (x : Outcome). eqb (number x) 0) e) ∙ n in let z : ◌≡◌ {A = ℕ} 0 1 = cc in
    omega arith

-- what the exit of a `?` hands on is the refusal that the call answered, which isn't Done
pub handed_on : {r : Refusal} (result o : Outcome) → IsErrAnd result (λ y. y ≡ r) → o ≡ Err r → result ≡ o
handed_on result o h was = let p = err_from_is_err_and result h in p.1 ∙ ap (λ (x : Refusal). Err x) p.2 ∙ sym was

pub err_not_done : {r : Refusal} {o : Outcome} → o ≡ Err r → o ≡ Done → ⊥
err_not_done {r} {o} was d = done_or_not o d (ap (λ (x : Outcome). eqb (number x) 0) was ∙ counted r)

-- what `is_ok` tells
pub ok_done : (o : Outcome) → is_ok o ≡ true → o ≡ Done
ok_done (Ok done) e = refl
ok_done (Err r) e = absurd (false≢true e)

pub not_ok : (o : Outcome) → is_ok o ≡ false → eqb (number o) 0 ≡ false
not_ok (Ok done) e = absurd (false≢true (sym e))
not_ok (Err r) e = counted r

-- a check that comes out Done did not apply
pub passed : (t : Bool) (o : Outcome) (r : Refusal) → refuse t r o ≡ Done → (t ≡ false) × (o ≡ Done)
passed true o r e = absurd (done_or_not (Err r) e (counted r))
passed false o r e = (refl, e)

-- the two numbers tell the outcome
refusal_of : ℕ → ℕ → Refusal
refusal_of n s =
    cond (eqb n 1) BadCurve (cond (eqb n 2) BadOrder (cond (eqb n 3) BadLength (cond (eqb n 4) (BadValue s)
    (cond (eqb n 5) BadRoom (cond (eqb n 6) BadPlace (cond (eqb n 7) BadSymbol
    (cond (eqb n 9) NoMessage (cond (eqb n 10) (Several s)
    (cond (eqb n 11) NoneNear (cond (eqb n 12) NoRadius (cond (eqb n 13) InverseOfZero
    (cond (eqb n 14) BadWork (cond (eqb n 15) BadPlaces (cond (eqb n 16) NoInformationSet (cond (eqb n 17) BadSeries (cond (eqb n 18) BadColumns LowOrder))))))))))))))))

refusal_of_lem : (r : Refusal) → refusal_of (refusal_number r) (refusal_second r) ≡ r
unfolding refusal_of
refusal_of_lem BadCurve = refl
refusal_of_lem BadOrder = refl
refusal_of_lem BadLength = refl
refusal_of_lem (BadValue i) = refl
refusal_of_lem BadRoom = refl
refusal_of_lem BadPlace = refl
refusal_of_lem BadSymbol = refl
refusal_of_lem NoMessage = refl
refusal_of_lem (Several n) = refl
refusal_of_lem NoneNear = refl
refusal_of_lem NoRadius = refl
refusal_of_lem InverseOfZero = refl
refusal_of_lem BadWork = refl
refusal_of_lem BadPlaces = refl
refusal_of_lem NoInformationSet = refl
refusal_of_lem BadSeries = refl
refusal_of_lem BadColumns = refl
refusal_of_lem LowOrder = refl

outcome_of : ℕ → ℕ → Outcome
outcome_of n s = cond (eqb n 0) Done (Err (refusal_of n s))

outcome_of_lem : (o : Outcome) → outcome_of (number o) (second o) ≡ o
unfolding outcome_of
outcome_of_lem (Ok done) = refl
outcome_of_lem (Err r) = rw (counted r) (ap (λ (x : Refusal). Err x) (refusal_of_lem r))

pub says : (o p : Outcome) → Says o (number p) (second p) ↔ (o ≡ p)
says o p = (λ h. sym (outcome_of_lem o) ∙ rw (h.0, h.1) (outcome_of_lem p), λ e. rw e (refl, refl))

-- ---- rows of checks: what follows a row that comes out Done is what the call answers; a refusal of the row is the call's

abbrev pub Follows : (Outcome → Outcome) → Type 0
Follows row = (o rest : Outcome) → row Done ≡ o → ((o ≡ Done) × (row rest ≡ rest)) ⊎ ((eqb (number o) 0 ≡ false) × (row rest ≡ o))

pub none_follow : Follows (λ rest. rest)
none_follow o rest e = inl (sym e, refl)

pub refuse_follows : (t : Bool) (r : Refusal) (row : Outcome → Outcome) → Follows row → Follows (λ rest. refuse t r (row rest))
refuse_follows true r row f o rest e = inr (ap (λ (x : Outcome). eqb (number x) 0) (sym e) ∙ counted r, e)
refuse_follows false r row f o rest e = f o rest e

-- one row after another
pub follows_after : (first second : Outcome → Outcome) → Follows first → Follows second → Follows (λ rest. first (second rest))
follows_after first second f g o rest e = ⊎_elim past stopped (g (second Done) rest refl)
  where
    past : (second Done ≡ Done) × (second rest ≡ rest) → ((o ≡ Done) × (first (second rest) ≡ rest)) ⊎ ((eqb (number o) 0 ≡ false) × (first (second rest) ≡ o))
    past h =
        ⊎_elim (λ d. inl (d.0, ap first h.1 ∙ d.1)) (λ d. inr (d.0, ap first h.1 ∙ d.1))
        (f o rest (ap first (sym h.0) ∙ e))

    stopped : (eqb (number (second Done)) 0 ≡ false) × (second rest ≡ second Done)
        → ((o ≡ Done) × (first (second rest) ≡ rest)) ⊎ ((eqb (number o) 0 ≡ false) × (first (second rest) ≡ o))
    stopped h =
        inr (
          ⊎_elim (λ d. ap (λ (x : Outcome). eqb (number x) 0) (sym e ∙ d.1) ∙ h.0) (λ d. ap (λ (x : Outcome). eqb (number x) 0) (sym e ∙ d.1) ∙ d.0)
              (f (first Done) (second Done) refl),
          ap first h.1 ∙ e,
        )

module _ (row : Outcome → Outcome) (f : Follows row) (o : Outcome) (e : o ≡ row Done) (rest : Outcome) where
  pub row_not_done : eqb (number o) 0 ≡ false → o ≡ row rest
  row_not_done n = ⊎_elim (λ d. absurd (done_or_not o d.0 n)) (λ d. sym d.1) (f o rest (sym e))

  pub row_refused : (o ≡ Done → ⊥) → o ≡ row rest
  row_refused r = row_not_done (not_done o r)

  pub row_passed : o ≡ Done → row rest ≡ rest
  row_passed d = ⊎_elim (λ h. h.1) (λ h. absurd (done_or_not o d h.0)) (f o rest (sym e))
