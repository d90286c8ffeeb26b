-- Arrivals that are read off three lists, of places, of symbols and of rounds.
-- Assumes nothing.
use mathlib.Core.Bool.{false}
use mathlib.Core.List.{List, [], ◌∷◌, map}
use mathlib.Core.Logic.{◌⊎◌, inl, inr}
use mathlib.Core.Path.{◌≡◌, refl, ap, ◌∙◌}
use Prim.Native.Nat.{ℕ, ◌+◌, ◌≤◌, ◌<◌, min}
use native.Mathlib.Numerals.{add-one}
use native.Mathlib.Omega.{arith}
use lib.Dec.{eqb}
use native.Mathlib.Decide.{dec_lt}
use lib.ListN.{length, get_or, drop, length-drop}
use lib.Seq.{drop-cons}
use Rattle.field.specs.Outcomes.{Done, number}
use Rattle.code.specs.Answers.{answered}
use Rattle.code.proofs.Answers.{refused, not_refused}
use Rattle.session.specs.declared.Session.{Session}
use Rattle.session.specs.declared.Reply.{Reply}
use Rattle.session.specs.Opened.{opened}
use Rattle.session.specs.Arrived.{arrived}
use Rattle.session.specs.Asked.{asked}
use Rattle.session.specs.Claim.{Event, Arrival, session_from, session_after}
use Rattle.session.specs.Replayed.{arrivals, replayed}

-- every list of arrivals is that of its places, symbols and rounds
pub arrivals_of : (list : List (ℕ × ℕ × ℕ))
    → arrivals (map (λ a. a.0) list) (map (λ a. a.1) list) (map (λ a. a.2) list) ≡ map (λ a. Arrival a.0 a.1 a.2) list
unfolding arrivals
arrivals_of [] = refl
arrivals_of (a ∷ list) = ap (λ (events : List Event). Arrival a.0 a.1 a.2 ∷ events) (arrivals_of list)

-- the loop ends with the shortest of the three lists
pub least_end : (a b c i : ℕ) → min (min a b) c ≤ i → (a ≤ i) ⊎ ((b ≤ i) ⊎ (c ≤ i))
least_end a b c i l = go (dec_lt i a) (dec_lt i b)
  where
    go : Dec (i < a) → Dec (i < b) → (a ≤ i) ⊎ ((b ≤ i) ⊎ (c ≤ i))
    go (no d) t = inl (omega arith)
    go (yes e) (no d) = inr (inl (omega arith))
    go (yes e) (yes f) = inr (inr (omega (arith, l)))

-- what is left of the lists from i on: one more arrival, or none
module _ (s : Session) (places symbols rounds : List ℕ) (i : ℕ) where
  pub receive_next : i < length places → i < length symbols → i < length rounds
      → (t : Reply) → t ≡ arrived s (get_or places i 0) (get_or symbols i 0) (get_or rounds i 0)
      → session_from s (arrivals (drop i places) (drop i symbols) (drop i rounds))
      ≡ session_from t.session (arrivals (drop (i + 1) places) (drop (i + 1) symbols) (drop (i + 1) rounds))
  unfolding session_from arrivals
  receive_next l k j t e =
      rw (e, add-one i, drop-cons places i 0 l, drop-cons symbols i 0 k, drop-cons rounds i 0 j)

-- none are left where one of the lists ends
pub receive_end : (s : Session) (places symbols rounds : List ℕ) → (i : ℕ)
    → (length places ≤ i) ⊎ ((length symbols ≤ i) ⊎ (length rounds ≤ i))
    → session_from s (arrivals (drop i places) (drop i symbols) (drop i rounds)) ≡ s
unfolding session_from arrivals
receive_end s places symbols rounds i h = rw (none (drop i places) (drop i symbols) (drop i rounds) (ends h))
  where
    none : (ps ss rs : List ℕ) → (length ps ≡ 0) ⊎ ((length ss ≡ 0) ⊎ (length rs ≡ 0)) → arrivals ps ss rs ≡ []
    none [] ss rs h = refl
    none (p ∷ ps) [] rs h = refl
    none (p ∷ ps) (x ∷ ss) [] h = refl
    none (p ∷ ps) (x ∷ ss) (r ∷ rs) (inl e) = absurd (omega arith)
    none (p ∷ ps) (x ∷ ss) (r ∷ rs) (inr (inl e)) = absurd (omega arith)
    none (p ∷ ps) (x ∷ ss) (r ∷ rs) (inr (inr e)) = absurd (omega arith)

    ends : (length places ≤ i) ⊎ ((length symbols ≤ i) ⊎ (length rounds ≤ i))
        → (length (drop i places) ≡ 0) ⊎ ((length (drop i symbols) ≡ 0) ⊎ (length (drop i rounds) ≡ 0))
    ends (inl l) = inl (omega (arith, length-drop i places))
    ends (inr (inl l)) = inr (inl (omega (arith, length-drop i symbols)))
    ends (inr (inr l)) = inr (inr (omega (arith, length-drop i rounds)))

-- the reply to opening, and the session after the arrivals
module _ (q series m : ℕ) (places symbols rounds slice : List ℕ) (t : Reply) (is : t ≡ opened q series m) where
  pub replayed_asked : t.outcome ≡ Done → (s : Session) → s ≡ session_from t.session (arrivals places symbols rounds)
      → replayed q series m places symbols rounds slice ≡ asked s slice
  unfolding replayed
  replayed_asked e s f =
      not_refused (opened q series m).outcome slice (asked (session_after q series m (arrivals places symbols rounds)) slice) (rw (← is) e) ∙ rw (f, is)

  pub replayed_refused : eqb (number t.outcome) 0 ≡ false → replayed q series m places symbols rounds slice ≡ answered t.outcome slice
  unfolding replayed
  replayed_refused =
      refused (opened q series m).outcome t.outcome slice (asked (session_after q series m (arrivals places symbols rounds)) slice) (rw is)
