-- A session matches its model: the first n stored places are those of the model, with 255 for a missing one and 254 for one in conflict,
-- each with its round, 0 for a missing one. Each arrival keeps it so, and is answered Done exactly when the model accepts it.
-- Assumes nothing.
use mathlib.Core.Bool.{Bool, true, false, cond}
use mathlib.Core.List.{List, [], ◌∷◌, map}
use mathlib.Core.Logic.{◌↔◌}
use mathlib.Core.Path.{◌≡◌, refl, sym, ap, ap₂, ◌∙◌}
use Prim.Native.Nat.{ℕ, zero, suc, ◌*◌, ◌≤◌, ◌<◌}
use native.Mathlib.Decide.{ℕ_discrete, dec_lt}
use native.Mathlib.Omega.{arith}
use borrow.Author.Tests.{lt-ltb, le-ltb, ne_eqb}
use lib.Dec.{T, eqb, ltb}
use lib.ListN.{length, get_or, take, drop, set, replicate, length-map, length-set, length-replicate}
use lib.Seq.{get_or-take, take-set-lt, drop-set-lt, get_or-set_same, get_or-set_other}
use Rattle.std.specs.Prelude.{Err}
use Rattle.field.specs.Curve.{is_short, IsShort}
use Rattle.field.specs.Outcomes.{Outcome, Done, number}
use Rattle.field.specs.declared.outcome.Refusal.TheVariants.{BadPlace, BadSymbol}
use Rattle.field.proofs.Curves.{short_sizes, short_of_true}
use Rattle.poly.proofs.Lists.{get_or_map, map_set}
use Rattle.points.specs.Series.{is_series}
use Rattle.code.specs.Checks.{order_checks, bad_value, first_bad, value_check}
use Rattle.code.proofs.Checks.{order_done, good_symbol, good_gap, value_good}
use Rattle.session.specs.declared.Session.{Session}
use Rattle.session.specs.declared.Reply.{Reply}
use Rattle.session.specs.Opened.{opened}
use Rattle.session.specs.Arrived.{conflict_as_missing, stored, merged, arrival_checks, reply, with_stored, arrived}
use Rattle.session.specs.ReferenceModel.{Place, missing, symbol, conflict, Model, empty_model, updated, in_range, accepts, after_arrival}
use Rattle.session.proofs.Arrivals.{opened_outcome, opened_done, ValuesChecked, checks_place, checks_symbol, checks_done, no_conflict, arrived_refused, arrived_merged}

-- ---- one place

-- what the session stores for a place of the model, its round, and what the checks and recovery read there
abbrev pub stored_value : Place → ℕ
stored_value missing = 255
stored_value (symbol s r) = s
stored_value (conflict r) = 254

abbrev pub stored_round : Place → ℕ
stored_round missing = 0
stored_round (symbol s r) = r
stored_round (conflict r) = r

abbrev pub received_value : Place → ℕ
received_value missing = 255
received_value (symbol s r) = s
received_value (conflict r) = 255

module _ (Q : ℕ) (apart : Q ≤ 254) where
  -- what the place holds is a symbol
  abbrev Symbol : Place → Type 0
  Symbol o = (t u : ℕ) → o ≡ symbol t u → t < Q

  received_stored : (o : Place) → Symbol o → conflict_as_missing (stored_value o) ≡ received_value o
  received_stored missing small = refl
  received_stored (symbol t u) small = no_conflict t (λ e. omega (arith, small t u refl))
  received_stored (conflict u) small = refl

  module _ (s r : ℕ) (k : s < Q) where
    -- the session stores there what the model holds
    merged_stored : (o : Place) → Symbol o
        → merged (stored_value o) (stored_round o) s r ≡ stored (stored_value (updated o s r)) (stored_round (updated o s r))
    merged_stored missing small = refl
    merged_stored (symbol t u) small = rw (ne_eqb t 255 (λ e. omega (arith, small t u refl))) (go (ltb u r) (ltb r u) (eqb t s))
      where
        go : (higher lower same : Bool)
            → cond higher (stored s r) (cond lower (stored t u) (cond same (stored t u) (stored 254 u)))
            ≡ (let o : Place = cond higher (symbol s r) (cond lower (symbol t u) (cond same (symbol t u) (conflict u))) in
            stored (stored_value o) (stored_round o))
        go true lower same = refl
        go false true same = refl
        go false false true = refl
        go false false false = refl
    merged_stored (conflict u) small = rw (ne_eqb 254 s (λ e. omega (arith, k))) (go (ltb u r) (ltb r u))
      where
        go : (higher lower : Bool)
            → cond higher (stored s r) (cond lower (stored 254 u) (stored 254 u))
            ≡ (let o : Place = cond higher (symbol s r) (conflict u) in stored (stored_value o) (stored_round o))
        go true lower = refl
        go false true = refl
        go false false = refl

    updated_symbol : (o : Place) → Symbol o → Symbol (updated o s r)
    updated_symbol missing small t u e = let same : s ≡ t = cc in omega arith
    updated_symbol (symbol v w) small t u e = go (ltb w r) (ltb r w) (eqb v s) e
      where
        go : (higher lower same : Bool) → cond higher (symbol s r) (cond lower (symbol v w) (cond same (symbol v w) (conflict w))) ≡ symbol t u
            → t < Q
        go true lower same e = let same : s ≡ t = cc in omega arith
        go false true same e = small t u e
        go false false true e = small t u e
        go false false false e = let z : ◌≡◌ {A = ℕ} 0 1 = cc in absurd (omega arith)
    updated_symbol (conflict w) small t u e = go (ltb w r) e
      where
        go : (higher : Bool) → cond higher (symbol s r) (conflict w) ≡ symbol t u → t < Q
        go true e = let same : s ≡ t = cc in omega arith
        go false e = let z : ◌≡◌ {A = ℕ} 0 1 = cc in absurd (omega arith)

-- ---- all places

-- every symbol of the model is below Q
abbrev pub Small : ℕ → Model → Type 0
Small Q model = (p s r : ℕ) → get_or model p missing ≡ symbol s r → s < Q

small_set : (Q : ℕ) (model : Model) (p : ℕ) (o : Place) → p < length model → ((t u : ℕ) → o ≡ symbol t u → t < Q) → Small Q model
    → Small Q (set model p o)
small_set Q model p o l k h i s r e =
    elim (ℕ_discrete i p) [
      | yes a ↦ k s r (sym (get_or-set_same model p o missing l) ∙ (rw a at e))
      | no d ↦ h i s r (sym (get_or-set_other model p i o missing d) ∙ e)
    ]

none_bad : (Q : ℕ) (model : Model) → Small Q model → first_bad (bad_value true Q) (map received_value model) ≡ length model
unfolding first_bad
none_bad Q [] h = refl
none_bad Q (missing ∷ model) h = rw (good_gap Q 255 refl) (ap suc (none_bad Q model (λ p. h (suc p))))
none_bad Q (symbol s r ∷ model) h = rw (good_symbol true Q s (h 0 s r refl)) (ap suc (none_bad Q model (λ p. h (suc p))))
none_bad Q (conflict r ∷ model) h = rw (good_gap Q 255 refl) (ap suc (none_bad Q model (λ p. h (suc p))))

pub values_pass : (Q : ℕ) (model : Model) → Small Q model → Done ≡ value_check true Q (map received_value model) Done
values_pass Q model h =
    value_good true Q (map received_value model) (length model) (sym (none_bad Q model h)) (omega (arith, length-map model received_value))

received_model : (Q : ℕ) → Q ≤ 254 → (model : Model) → Small Q model → map conflict_as_missing (map stored_value model) ≡ map received_value model
received_model Q apart [] h = refl
received_model Q apart (o ∷ model) h =
    ap₂ (λ (x : ℕ) (l : List ℕ). x ∷ l) (received_stored Q apart o (h 0)) (received_model Q apart model (λ p. h (suc p)))

empty_no_symbol : (n p s r : ℕ) → get_or (replicate n missing) p missing ≡ symbol s r → ⊥
empty_no_symbol zero p s r e = let z : ◌≡◌ {A = ℕ} 0 1 = cc in omega arith
empty_no_symbol (suc n) zero s r e = let z : ◌≡◌ {A = ℕ} 0 1 = cc in omega arith
empty_no_symbol (suc n) (suc p) s r e = empty_no_symbol n p s r e

-- the first n bytes of a list are f of each place of the model, and those after them still f of a missing one
pub record Copies (n : ℕ) (f : Place → ℕ) (bytes : List ℕ) (model : Model) : Type 0 where
  pub room : length bytes ≡ 64
  pub rest : drop n bytes ≡ drop n (replicate 64 (f missing))
  pub same : take n bytes ≡ map f model

module _ (n : ℕ) (f : Place → ℕ) where
  take_empty : (n k : ℕ) → n ≤ k → take n (replicate k (f missing)) ≡ map f (replicate n missing)
  take_empty zero k l = refl
  take_empty (suc n) zero l = absurd (omega arith)
  take_empty (suc n) (suc k) l = ap (λ (l : List ℕ). f missing ∷ l) (take_empty n k (omega arith))

  copies_empty : n ≤ 64 → Copies n f (replicate 64 (f missing)) (replicate n missing)
  copies_empty l = record { room = length-replicate 64 (f missing); rest = refl; same = take_empty n 64 l }

  module _ (bytes : List ℕ) (model : Model) (h : Copies n f bytes model) (p : ℕ) (l : p < n) where
    copies_at : p < length model → get_or bytes p 0 ≡ f (get_or model p missing)
    copies_at k =
        sym (get_or-take n bytes p 0 l) ∙ ap (λ (v : List ℕ). get_or v p 0) h.same ∙ get_or_map f model missing 0 p k

    copies_set : (o : Place) → Copies n f (set bytes p (f o)) (set model p o)
    copies_set o =
        record {
          room = length-set bytes p (f o) ∙ h.room;
          rest = drop-set-lt n bytes p (f o) l ∙ h.rest;
          same = take-set-lt n bytes p (f o) l ∙ rw h.same (sym (map_set f model p o));
        }

-- the stored places and rounds are those of the model
pub record Represents (q : ℕ) (places rounds : List ℕ) (model : Model) : Type 0 where
  pub places_are : Copies (q * q * q) stored_value places model
  pub rounds_are : Copies (q * q * q) stored_round rounds model
  pub len : length model ≡ q * q * q
  pub small : Small (q * q) model

-- the word that the checks and recovery read
pub received_word : (q : ℕ) → IsShort q → (places rounds : List ℕ) (model : Model) → Represents q places rounds model
    → map conflict_as_missing (take (q * q * q) places) ≡ map received_value model
received_word q block places rounds model h =
    ap (map conflict_as_missing) h.places_are.same ∙ received_model (q * q) (omega (arith, (short_sizes q block).symbols)) model h.small

-- the session has the opening's q, series and m, and stores what the model holds
pub record Match (q series m : ℕ) (session : Session) (model : Model) : Type 0 where
  pub places : List ℕ
  pub rounds : List ℕ
  pub is : session ≡ record { q = q; series = series; m = m; places = places; rounds = rounds }
  pub represents : Represents q places rounds model

-- what an accepted opening says of its arguments
pub opened_block : (q series m : ℕ) → (opened q series m).outcome ≡ Done → IsShort q × (is_series series ≡ true) × (m < q * q * q)
opened_block q series m e = let w = order_done (is_short q) q series m (sym (opened_outcome q series m) ∙ e) in (short_of_true q w.0, w.2, w.1)

-- the session of an accepted opening matches the empty model
pub match_opened : (q series m : ℕ) → (opened q series m).outcome ≡ Done → Match q series m (opened q series m).session (empty_model q)
match_opened q series m e =
    record {
      places = replicate 64 255;
      rounds = replicate 64 0;
      is = ap (λ (t : Reply). t.session) (opened_done q series m (order_checks (is_short q) q series m Done) refl (sym (opened_outcome q series m) ∙ e));
      represents = record {
        places_are = copies_empty (q * q * q) stored_value (short_sizes q (opened_block q series m e).0).points;
        rounds_are = copies_empty (q * q * q) stored_round (short_sizes q (opened_block q series m e).0).points;
        len = length-replicate (q * q * q) missing;
        small = λ p s r h. absurd (empty_no_symbol (q * q * q) p s r h);
      };
    }

-- ---- an arrival

-- it is answered Done exactly when the model accepts it, and the session it hands back matches the model after it
pub record Step (q series m : ℕ) (session : Session) (model : Model) (p s r : ℕ) : Type 0 where
  pub answered : ((arrived session p s r).outcome ≡ Done) ↔ T (accepts q model p s r)
  pub next : Match q series m (arrived session p s r).session (after_arrival q model p s r)

module _ (q : ℕ) (model : Model) (p s r : ℕ) where
  accepts_is : accepts q model p s r ≡ in_range q p s
  unfolding accepts
  accepts_is = refl

  pub after_out_of_range : in_range q p s ≡ false → after_arrival q model p s r ≡ model
  unfolding after_arrival
  after_out_of_range e = rw e

  pub after_in_range : in_range q p s ≡ true → after_arrival q model p s r ≡ set model p (updated (get_or model p missing) s r)
  unfolding after_arrival
  after_in_range e = rw e

module _ (q series m : ℕ) (block : IsShort q) (named : is_series series ≡ true) (order : m < q * q * q)
    (places rounds : List ℕ) (model : Model) (h : Represents q places rounds model) (p s r : ℕ) where
  abbrev now : Session
  now = record { q = q; series = series; m = m; places = places; rounds = rounds }

  matches : Match q series m now model
  matches = record { places = places; rounds = rounds; is = refl; represents = h }

  -- the checks 1, 17, 2 and 4 pass
  checked : ValuesChecked now p s (q * q * q) (q * q) Done
  checked =
      record {
        is_block = block;
        series_named = named;
        is_n = refl;
        is_Q = refl;
        order = order;
        is_o = rw (received_word q block places rounds model h) (values_pass (q * q) model h.small);
      }

  -- by the reply and the model after it
  step_is : (t : Reply) (then : Model) → arrived now p s r ≡ t → after_arrival q model p s r ≡ then → ((t.outcome ≡ Done) ↔ T (accepts q model p s r))
      → Match q series m t.session then → Step q series m now model p s r
  step_is t then e f a n = record { answered = rw e a; next = rw (e, f) n }

  refused_step : (o : Outcome) → arrival_checks now p s ≡ o → eqb (number o) 0 ≡ false → (o ≡ Done → ⊥) → in_range q p s ≡ false
      → Step q series m now model p s r
  refused_step o e n d w =
      step_is (reply now o) model (arrived_refused now p s r o e n) (after_out_of_range q model p s r w)
      (rw (accepts_is q model p s r, w) (λ f. d f, λ t. absurd t)) matches

  accepted_step : p < q * q * q → s < q * q → Step q series m now model p s r
  accepted_step l k =
      let o : Place = get_or model p missing in
      let then : Place = updated o s r in
      let here : p < length model = omega (arith, h.len) in
      let w : in_range q p s ≡ true = rw (lt-ltb p (q * q * q) l, lt-ltb s (q * q) k) in
      let apart : q * q ≤ 254 = omega (arith, (short_sizes q block).symbols) in
      let merges : merged (get_or places p 0) (get_or rounds p 0) s r ≡ stored (stored_value then) (stored_round then)
      = ap₂ (λ (x u : ℕ). merged x u s r) (copies_at (q * q * q) stored_value places model h.places_are p l here)
      (copies_at (q * q * q) stored_round rounds model h.rounds_are p l here)
      ∙ merged_stored (q * q) apart s r k o (h.small p) in
      step_is (reply (with_stored now p (stored (stored_value then) (stored_round then))) Done) (set model p then)
      (arrived_merged now p s r Done (sym (checks_done now p s _ _ _ checked refl l k)) refl _ (sym merges))
      (after_in_range q model p s r w)
      (rw (accepts_is q model p s r, w) (λ e. tt, λ t. refl))
      (record {
        places = set places p (stored_value then);
        rounds = set rounds p (stored_round then);
        is = refl;
        represents = record {
          places_are = copies_set (q * q * q) stored_value places model h.places_are p l then;
          rounds_are = copies_set (q * q * q) stored_round rounds model h.rounds_are p l then;
          len = length-set model p then ∙ h.len;
          small = small_set (q * q) model p then here (updated_symbol (q * q) apart s r k o (h.small p)) h.small;
        };
      })

  now_step : Step q series m now model p s r
  now_step = go (dec_lt p (q * q * q)) (dec_lt s (q * q))
    where
      go : Dec (p < q * q * q) → Dec (s < q * q) → Step q series m now model p s r
      go (yes l) (yes k) = accepted_step l k
      go (yes l) (no k) =
          refused_step (Err BadSymbol) (checks_symbol now p s _ _ _ checked refl l (omega arith)) refl (λ e. omega (arith, ap number e))
          (rw (lt-ltb p (q * q * q) l, le-ltb s (q * q) (omega arith)))
      go (no l) k =
          refused_step (Err BadPlace) (checks_place now p s _ _ _ checked refl (omega arith)) refl (λ e. omega (arith, ap number e))
          (rw (le-ltb p (q * q * q) (omega arith)))

pub step : (q series m : ℕ) → IsShort q → is_series series ≡ true → m < q * q * q → (session : Session) (model : Model) → Match q series m session model → (p s r : ℕ)
    → Step q series m session model p s r
step q series m block named order session model h p s r = rw h.is (now_step q series m block named order h.places h.rounds model h.represents p s r)
