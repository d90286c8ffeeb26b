-- T-01: "The end state no longer depends on the order in which accepted symbols came." With the rounds of T-04 too, what a place of the model
-- is depends on which symbols of which rounds came to it, and on nothing else of the list; and the session stores what the model is.
-- Assumes nothing.
use mathlib.Core.Bool.{true, false}
use mathlib.Core.List.Memᴰ.{head}
use mathlib.Core.List.Memᴰ.{tail}
use mathlib.Core.List.{List, [], ◌∷◌, ◌++◌, map}
use mathlib.Core.List.Memᴰ.{cases_cons}
use mathlib.Core.List.Memᴰ.{not-nil}
use mathlib.Core.Logic.{◌↔◌, ◌⊎◌, inl, inr}
use mathlib.Core.Path.{◌≡◌, refl, sym, ap, ap₂, ◌∙◌}
use Prim.Native.Nat.{ℕ, ◌*◌, ◌≤◌, ◌<◌}
use native.Mathlib.Decide.{ℕ_discrete, dec_lt}
use native.Mathlib.Omega.{arith}
use borrow.Author.Tests.{eq-eqb, ne_eqb, lt-ltb, le-ltb}
use lib.ListN.{length, get_or, drop, replicate, length-set, length-replicate, get_or-replicate, take-append-drop}
use lib.Seq.{ext_get_or, get_or-set_same, get_or-set_other}
use Rattle.field.specs.Outcomes.{Says}
use Rattle.poly.proofs.Bools.{true_or_false}
use Rattle.session.specs.Opened.{opened}
use Rattle.session.specs.ReferenceModel.{Place, missing, symbol, conflict, Model, empty_model, updated, in_range, after_arrival}
use Rattle.session.specs.Claim.{Event, Arrival, Asking, model_from, model_after, session_after}
use Rattle.session.specs.Reordered.{Received, DecidedBy, SameAccepted}
use Rattle.session.proofs.Steps.{stored_value, stored_round, Copies, after_in_range, after_out_of_range}
use Rattle.session.proofs.Demand.{match_after}

-- ---- one place

module _ (C D : ℕ → ℕ → Type 0) (same : (s r : ℕ) → C s r ↔ D s r) where
  decided_iff : (o : Place) → DecidedBy C o → DecidedBy D o
  decided_iff missing h = λ s r d. h s r ((same s r).1 d)
  decided_iff (symbol s r) h = ((same s r).0 h.0, λ t u d. h.1 t u ((same t u).1 d))
  decided_iff (conflict r) h =
      (h.0, h.1, (same h.0 r).0 h.2, (same h.1 r).0 h.3, h.4, λ t u d. h.5 t u ((same t u).1 d))

or_iff : (C D E : ℕ → ℕ → Type 0) → ((s r : ℕ) → D s r ↔ E s r) → (s r : ℕ) → (C s r ⊎ D s r) ↔ (C s r ⊎ E s r)
or_iff C D E same s r = (
  λ c. elim c [ inl k ↦ inl k | inr d ↦ inr ((same s r).0 d) ],
  λ c. elim c [ inl k ↦ inl k | inr d ↦ inr ((same s r).1 d) ],
)

-- one symbol alone in the highest round, or two that differ
not_both : (C : ℕ → ℕ → Type 0) (s r u : ℕ) → DecidedBy C (symbol s r) → DecidedBy C (conflict u) → ⊥
not_both C s r u a b =
    let is_s : (t : ℕ) → C t u → t ≡ s = λ t c. elim (a.1 t u c) [ inl l ↦ absurd (omega (arith, b.5 s r a.0)) | inr e ↦ e.1 ] in
    b.4 (is_s b.0 b.2 ∙ sym (is_s b.1 b.3))

-- what came decides the place
decided_unique : (C : ℕ → ℕ → Type 0) (o other : Place) → DecidedBy C o → DecidedBy C other → o ≡ other
decided_unique C missing missing a b = refl
decided_unique C missing (symbol s r) a b = absurd (a s r b.0)
decided_unique C missing (conflict r) a b = absurd (a b.0 r b.2)
decided_unique C (symbol s r) missing a b = absurd (b s r a.0)
decided_unique C (symbol s r) (symbol t u) a b =
    elim (a.1 t u b.0) [
      | inl l ↦ elim (b.1 s r a.0) [ inl k ↦ absurd (omega arith) | inr e ↦ absurd (omega (arith, e.0)) ]
      | inr e ↦ ap₂ symbol (sym e.1) (sym e.0)
    ]
decided_unique C (symbol s r) (conflict u) a b = absurd (not_both C s r u a b)
decided_unique C (conflict r) missing a b = absurd (b a.0 r a.2)
decided_unique C (conflict r) (symbol t u) a b = absurd (not_both C t u r b a)
decided_unique C (conflict r) (conflict u) a b =
    let same : r ≡ u = omega (arith, a.5 b.0 u b.2, b.5 a.0 r a.2) in
    ap conflict same

-- s of round r comes too
module _ (C : ℕ → ℕ → Type 0) (s r : ℕ) where
  abbrev Extended : ℕ → ℕ → Type 0
  Extended t u = C t u ⊎ ((t ≡ s) × (u ≡ r))

  decided_updated : (o : Place) → DecidedBy C o → DecidedBy Extended (updated o s r)
  decided_updated missing h = (inr (refl, refl), λ t u c. elim c [ inl k ↦ absurd (h t u k) | inr e ↦ inr (e.1, e.0) ])
  decided_updated (symbol t u) h = go (dec_lt u r) (dec_lt r u) (ℕ_discrete t s)
    where
      none_higher : (x v : ℕ) → C x v → v ≤ u
      none_higher x v c = elim (h.1 x v c) [ inl l ↦ omega arith | inr e ↦ omega (arith, e.0) ]

      go : Dec (u < r) → Dec (r < u) → Dec (t ≡ s) → DecidedBy Extended (updated (symbol t u) s r)
      go (yes a) b d =
          rw (lt-ltb u r a)
          (inr (refl, refl), λ x v c. elim c [ inl k ↦ inl (omega (arith, none_higher x v k)) | inr e ↦ inr (e.1, e.0) ])
      go (no a) (yes b) d =
          rw (le-ltb u r (omega arith), lt-ltb r u b)
          (inl h.0, λ x v c. elim c [ inl k ↦ h.1 x v k | inr e ↦ inl (omega (arith, e.1)) ])
      go (no a) (no b) (yes d) =
          rw (le-ltb u r (omega arith), le-ltb r u (omega arith), eq-eqb t s d)
          (inl h.0, λ x v c. elim c [ inl k ↦ h.1 x v k | inr e ↦ inr (omega (arith, e.1), e.0 ∙ sym d) ])
      go (no a) (no b) (no d) =
          rw (le-ltb u r (omega arith), le-ltb r u (omega arith), ne_eqb t s d)
          (t, s, inl h.0, inr (refl, omega arith), d, λ x v c. elim c [ inl k ↦ none_higher x v k | inr e ↦ omega (arith, e.1) ])
  decided_updated (conflict u) h = go (dec_lt u r)
    where
      go : Dec (u < r) → DecidedBy Extended (updated (conflict u) s r)
      go (yes a) =
          rw (lt-ltb u r a)
          (inr (refl, refl), λ x v c. elim c [ inl k ↦ inl (omega (arith, h.5 x v k)) | inr e ↦ inr (e.1, e.0) ])
      go (no a) =
          rw (le-ltb u r (omega arith))
          (h.0, h.1, inl h.2, inl h.3, h.4, λ x v c. elim c [ inl k ↦ h.5 x v k | inr e ↦ omega (arith, e.1) ])

-- ---- a list of events

module _ (q : ℕ) where
  length_after : (model : Model) (p s r : ℕ) → length (after_arrival q model p s r) ≡ length model
  length_after model p s r =
      elim (true_or_false (in_range q p s)) [
        | inl w ↦ rw (after_in_range q model p s r w) (length-set model p (updated (get_or model p missing) s r))
        | inr w ↦ rw (after_out_of_range q model p s r w)
      ]

  length_from : (model : Model) (events : List Event) → length (model_from q model events) ≡ length model
  unfolding model_from
  length_from model [] = refl
  length_from model (Arrival p s r ∷ rest) = length_from (after_arrival q model p s r) rest ∙ length_after model p s r
  length_from model (Asking slice ∷ rest) = length_from model rest

module _ (q p : ℕ) where
  -- the first event brings nothing to p: it is an arrival elsewhere, or one that isn't accepted, or none
  not_first : (e : Event) (rest : List Event) → ((s r : ℕ) → in_range q p s ≡ true → Arrival p s r ≡ e → ⊥)
      → (s r : ℕ) → Received q p rest s r ↔ Received q p (e ∷ rest) s r
  not_first e rest other s r = (
    λ c. (c.0, tail c.1),
    λ c. (c.0, elim (cases_cons c.1) [ inl f ↦ absurd (other s r c.0 f) | inr k ↦ k ]),
  )

  -- the first event is an arrival at p
  first : (C : ℕ → ℕ → Type 0) (t u : ℕ) (rest : List Event) → in_range q p t ≡ true
      → (s r : ℕ) → (Extended C t u s r ⊎ Received q p rest s r) ↔ (C s r ⊎ Received q p (Arrival p t u ∷ rest) s r)
  first C t u rest w s r = (
    λ c. elim c [
      | inl k ↦ elim k [
        | inl here ↦ inl here
        | inr e ↦ inr (rw e.0 w, head (ap₂ (λ (a b : ℕ). Arrival p a b) e.0 e.1))
      ]
      | inr k ↦ inr (k.0, tail k.1)
    ],
    λ c. elim c [
      | inl here ↦ inl (inl here)
      | inr k ↦ elim (cases_cons k.1) [
        | inl e ↦
            let a : s ≡ t = cc in
            let b : r ≡ u = cc in
            inl (inr (a, b))
        | inr l ↦ inr (k.0, l)
      ]
    ],
  )

  abbrev OrReceived : (ℕ → ℕ → Type 0) → List Event → ℕ → ℕ → Type 0
  OrReceived C events s r = C s r ⊎ Received q p events s r

  skipped : (C : ℕ → ℕ → Type 0) (e : Event) (rest : List Event) → ((s r : ℕ) → in_range q p s ≡ true → Arrival p s r ≡ e → ⊥)
      → (o : Place) → DecidedBy (OrReceived C rest) o → DecidedBy (OrReceived C (e ∷ rest)) o
  skipped C e rest other =
      decided_iff (OrReceived C rest) (OrReceived C (e ∷ rest)) (or_iff C (Received q p rest) (Received q p (e ∷ rest)) (not_first e rest other))

  decided_from : (C : ℕ → ℕ → Type 0) (model : Model) → p < length model → DecidedBy C (get_or model p missing) → (events : List Event)
      → DecidedBy (OrReceived C events) (get_or (model_from q model events) p missing)
  unfolding model_from
  decided_from C model k h [] =
      decided_iff C (OrReceived C []) (λ s r. (λ c. inl c, λ c. elim c [ inl d ↦ d | inr d ↦ absurd (not-nil d.1) ])) (get_or model p missing) h
  decided_from C model k h (Asking slice ∷ rest) =
      skipped C (Asking slice) rest (λ s r w e. let z : ◌≡◌ {A = ℕ} 0 1 = cc in omega arith)
      (get_or (model_from q model rest) p missing) (decided_from C model k h rest)
  decided_from C model k h (Arrival i t u ∷ rest) =
      go (true_or_false (in_range q i t)) (ℕ_discrete i p) (get_or (model_from q (after_arrival q model i t u) rest) p missing)
      (λ D g. decided_from D (after_arrival q model i t u) (omega (arith, length_after q model i t u)) g rest)
    where
      go : (in_range q i t ≡ true) ⊎ (in_range q i t ≡ false) → Dec (i ≡ p) → (then : Place)
          → ((D : ℕ → ℕ → Type 0) → DecidedBy D (get_or (after_arrival q model i t u) p missing) → DecidedBy (OrReceived D rest) then)
          → DecidedBy (OrReceived C (Arrival i t u ∷ rest)) then
      go (inr w) d then ih =
          skipped C (Arrival i t u) rest
          (λ s r v e.
          let a : p ≡ i = cc in
          let b : s ≡ t = cc in
          let f : true ≡ false = sym v ∙ rw (a, b) w in
          let z : ◌≡◌ {A = ℕ} 0 1 = cc in
          omega arith)
          then (ih C (rw (after_out_of_range q model i t u w) h))
      go (inl w) (no n) then ih =
          skipped C (Arrival i t u) rest (λ s r v e. let a : p ≡ i = cc in n (sym a)) then
          (ih C (rw (after_in_range q model i t u w, get_or-set_other model i p (updated (get_or model i missing) t u) missing (λ e. n (sym e))) h))
      go (inl w) (yes e) then ih =
          decided_iff (OrReceived (Extended C t u) rest) (OrReceived C (Arrival i t u ∷ rest)) (rw e (first C t u rest (rw (← e) w))) then
          (ih (Extended C t u)
          (rw (after_in_range q model i t u w, e, get_or-set_same model p (updated (get_or model p missing) t u) missing k)
          (decided_updated C t u (get_or model p missing) h)))

-- ---- the end state

-- T-04: "the highest round heard there", and "striking out happens only between symbols of the same round"
pub place_decided : (q p : ℕ) → p < q * q * q → (events : List Event) → DecidedBy (Received q p events) (get_or (model_after q events) p missing)
place_decided q p l events =
    let long : length (empty_model q) ≡ q * q * q = length-replicate (q * q * q) missing in
    let was : get_or (empty_model q) p missing ≡ missing = get_or-replicate (q * q * q) p missing missing l in
    decided_iff (OrReceived q p (Received q p []) events) (Received q p events)
    (λ s r. (λ c. elim c [ inl d ↦ absurd (not-nil d.1) | inr d ↦ d ], λ c. inr c))
    (get_or (model_after q events) p missing)
    (decided_from q p (Received q p []) (empty_model q) (omega arith) (rw was (λ s r c. not-nil c.1)) events)

pub same_model : (q : ℕ) (one other : List Event) → SameAccepted q one other → model_after q one ≡ model_after q other
same_model q one other h =
    let long : length (model_after q one) ≡ q * q * q = length_from q (empty_model q) one ∙ length-replicate (q * q * q) missing in
    ext_get_or missing (model_after q one) (model_after q other) (length_from q (empty_model q) one ∙ sym (length_from q (empty_model q) other))
    (λ p l.
    let k : p < q * q * q = omega arith in
    decided_unique (Received q p other) (get_or (model_after q one) p missing) (get_or (model_after q other) p missing)
    (decided_iff (Received q p one) (Received q p other)
    (λ s r. (λ c. (c.0, (h.at p s r c.0).0 c.1), λ c. (c.0, (h.at p s r c.0).1 c.1)))
    (get_or (model_after q one) p missing) (place_decided q p k one))
    (place_decided q p k other))

-- what the session stores, from what the model is
copied : (n : ℕ) (f : Place → ℕ) (bytes : List ℕ) (model : Model) → Copies n f bytes model
    → bytes ≡ map f model ++ drop n (replicate 64 (f missing))
copied n f bytes model h =
    sym (take-append-drop n bytes) ∙ ap₂ (λ (a b : List ℕ). a ++ b) h.same h.rest

same_copies : (n : ℕ) (f : Place → ℕ) (one other : List ℕ) (model then : Model) → Copies n f one model → Copies n f other then → model ≡ then
    → one ≡ other
same_copies n f one other model then a b e =
    copied n f one model a ∙ ap (λ (v : Model). map f v ++ drop n (replicate 64 (f missing))) e ∙ sym (copied n f other then b)

pub same_session : (q series m : ℕ) → Says (opened q series m).outcome 0 0 → (one other : List Event) → SameAccepted q one other
    → session_after q series m one ≡ session_after q series m other
same_session q series m accepted one other h =
    let a = match_after q series m accepted one in
    let b = match_after q series m accepted other in
    let e = same_model q one other h in
    let places : a.places ≡ b.places
    = same_copies (q * q * q) stored_value a.places b.places (model_after q one) (model_after q other)
    a.represents.places_are b.represents.places_are e in
    let rounds : a.rounds ≡ b.rounds
    = same_copies (q * q * q) stored_round a.rounds b.rounds (model_after q one) (model_after q other)
    a.represents.rounds_are b.represents.rounds_are e in
    a.is ∙ ap₂ (λ (l k : List ℕ). record { q = q; series = series; m = m; places = l; rounds = k }) places rounds ∙ sym b.is
