-- How opening, an arrival and asking go, check by check.
-- Assumes nothing.
use mathlib.Core.Bool.{true, false}
use mathlib.Core.List.{List, map, ◌++◌}
use mathlib.Core.Logic.{inl, inr}
use mathlib.Core.Path.{◌≡◌, refl, sym, ap, ap₂, ◌∙◌}
use Prim.Native.Nat.{ℕ, ◌*◌, ◌≤◌, ◌<◌}
use native.Mathlib.Omega.{arith}
use borrow.Author.Tests.{eq-eqb, ne_eqb, lt-leb, le-leb, lt-ltb, le-ltb, leb-false}
use lib.Dec.{eqb, leb}
use lib.ListN.{length, get_or, take, drop, length-map, length-append}
use lib.Seq.{length-take-le, take_at}
use Rattle.field.specs.Curve.{is_short, IsShort, curve_of}
use Rattle.std.specs.Prelude.{Err}
use Rattle.field.specs.declared.curve.Curve.{Curve}
use Rattle.field.specs.Outcomes.{Outcome, Done, number, refuse}
use Rattle.field.specs.declared.outcome.Refusal.TheVariants.{BadCurve, BadPlace, BadSymbol}
use Rattle.field.proofs.Curves.{short_true, short_of_true, short_sizes}
use Rattle.field.proofs.Outcomes.{passed, Follows, row_refused, row_passed}
use Rattle.poly.proofs.Bools.{true_or_false}
use Rattle.points.specs.Series.{is_series}
use Rattle.code.specs.Terms.{size}
use Rattle.code.specs.Checks.{order_checks, value_check, slice_checks}
use Rattle.code.specs.Answers.{answered}
use Rattle.code.specs.Recovered.{recovered}
use Rattle.code.proofs.Answers.{Refused, order_refused}
use Rattle.code.proofs.Checks.{order_rest, order_curve, order_passed, value_rest, value_follows}
use Rattle.code.proofs.Recoveries.{recovered_refused}
use Rattle.session.specs.declared.ReceivedWord.{ReceivedWord}
use Rattle.session.specs.declared.Stored.{Stored}
use Rattle.session.specs.declared.Session.{Session}
use Rattle.session.specs.Opened.{empty_session, opened}
use Rattle.session.specs.Arrived.{conflict_as_missing, received_word, stored, merged, arrival_checks, reply, with_stored, arrived}
use Rattle.session.specs.Asked.{asked}
use Rattle.session.specs.Inner.WordRead.{word_read}

-- ---- opening

pub opened_outcome : (q series m : ℕ) → (opened q series m).outcome ≡ order_checks (is_short q) q series m Done
unfolding opened
opened_outcome q series m = refl

module _ (q series m : ℕ) (o : Outcome) (is : o ≡ order_checks (is_short q) q series m Done) where
  pub opened_done : o ≡ Done → opened q series m ≡ reply (empty_session q series m) o
  unfolding opened
  opened_done e = rw (← is, e)

  pub opened_refused : eqb (number o) 0 ≡ false → opened q series m ≡ reply (empty_session 2 1 0) o
  unfolding opened
  opened_refused e = rw (← is, e)

-- ---- one place

pub conflict_missing : (x : ℕ) → x ≡ 254 → conflict_as_missing x ≡ 255
conflict_missing x e = rw (eq-eqb x 254 e)

pub no_conflict : (x : ℕ) → (x ≡ 254 → ⊥) → conflict_as_missing x ≡ x
no_conflict x n = rw (ne_eqb x 254 n)

module _ (old old_round symbol round : ℕ) where
  abbrev then : Stored
  then = merged old old_round symbol round

  pub merged_missing : old ≡ 255 → then ≡ stored symbol round
  merged_missing e = rw (eq-eqb old 255 e)

  module _ (n : old ≡ 255 → ⊥) where
    pub merged_higher : old_round < round → then ≡ stored symbol round
    merged_higher l = rw (ne_eqb old 255 n, lt-ltb old_round round l)

    pub merged_lower : round < old_round → then ≡ stored old old_round
    merged_lower l = rw (ne_eqb old 255 n, le-ltb old_round round (omega arith), lt-ltb round old_round l)

    module _ (a : round ≤ old_round) (b : old_round ≤ round) where
      pub merged_same : old ≡ symbol → then ≡ stored old old_round
      merged_same e = rw (ne_eqb old 255 n, le-ltb old_round round a, le-ltb round old_round b, eq-eqb old symbol e)

      pub merged_conflict : (old ≡ symbol → ⊥) → then ≡ stored 254 old_round
      merged_conflict d = rw (ne_eqb old 255 n, le-ltb old_round round a, le-ltb round old_round b, ne_eqb old symbol d)

-- ---- the word that is read

module _ (s : Session) where
  abbrev n : ℕ
  n = s.q * s.q * s.q

  pub read_none : is_short s.q ≡ false → word_read s ≡ record { points = 0; symbols = 0; places = s.places }
  read_none e = rw e

  read_block : IsShort s.q
      → word_read s ≡ record { points = n; symbols = s.q * s.q; places = received_word s ++ drop n s.places }
  read_block c = rw (short_true s.q c)

  -- the first n places were lent, and came back without conflicts
  pub read_cleared : (v : Curve) → IsShort s.q → v ≡ curve_of s.q → (back : List ℕ) → back ≡ map conflict_as_missing (take v.points s.places)
      → record { points = v.points; symbols = v.symbols; places = back ++ drop v.points s.places } ≡ word_read s
  read_cleared v c f back is = rw (is, f) (sym (read_block c))

module _ (s : Session) (long : length s.places ≡ 64) where
  room : IsShort s.q → n s ≤ length s.places
  room c = omega (arith, (short_sizes s.q c).points, long)

  length_word : IsShort s.q → length (received_word s) ≡ n s
  length_word c = length-map (take (n s) s.places) conflict_as_missing ∙ length-take-le (n s) s.places (room c)

  module _ (w : ReceivedWord) (is : w ≡ word_read s) where
    -- of a session of short blocks
    pub record Read : Type 0 where
      pub is_n : w.points ≡ n s
      pub is_Q : w.symbols ≡ s.q * s.q
      pub word : take w.points w.places ≡ received_word s

    pub reads : IsShort s.q → Read
    reads c =
        let e = is ∙ read_block s c in
        record {
          is_n = ap (λ (v : ReceivedWord). v.points) e;
          is_Q = ap (λ (v : ReceivedWord). v.symbols) e;
          word = rw e (take_at (received_word s) (drop (n s) s.places) (n s) (length_word c));
        }

    pub read_room : w.points ≤ length w.places
    read_room = elim (true_or_false (is_short s.q)) [
      | inl t ↦ let c = short_of_true s.q t in
          rw (is ∙ read_block s c) (omega (arith, length-append (received_word s) (drop (n s) s.places), length_word c))
      | inr t ↦ rw (is ∙ read_none s t) (omega arith)
    ]

-- ---- the checks of an arrival

module _ (s : Session) (place symbol : ℕ) where
  -- 6 and 7, and before them 4
  abbrev last : (n Q : ℕ) → Outcome
  last n Q = refuse (leb n place) BadPlace (refuse (leb Q symbol) BadSymbol Done)

  abbrev values : Outcome → Outcome
  values rest = value_check true (s.q * s.q) (received_word s) rest

  values_follow : Follows values
  values_follow = value_follows true (s.q * s.q) (received_word s)

  abbrev past_two : Outcome
  past_two = values (last (s.q * s.q * s.q) (s.q * s.q))

  pub checks_order : (o : Outcome) → o ≡ order_checks (is_short s.q) s.q s.series s.m Done → Refused o
      → o ≡ arrival_checks s place symbol
  unfolding arrival_checks
  checks_order o e r = order_refused (is_short s.q) s.q s.series s.m o e r past_two

  -- past 1, 17 and 2: n and Q are the curve's, and o is what 4 came to
  pub record ValuesChecked (n Q : ℕ) (o : Outcome) : Type 0 where
    pub is_block : IsShort s.q
    pub series_named : is_series s.series ≡ true
    pub is_n : n ≡ s.q * s.q * s.q
    pub is_Q : Q ≡ s.q * s.q
    pub order : s.m < n
    pub is_o : o ≡ values Done

  module _ (n Q : ℕ) (o : Outcome) (h : ValuesChecked n Q o) where
    past_order : arrival_checks s place symbol ≡ values (last n Q)
    unfolding arrival_checks
    past_order =
        order_passed (is_short s.q) s.q s.series s.m past_two (short_true s.q h.is_block) h.series_named (omega (arith, h.order, h.is_n))
        ∙ ap₂ (λ (a b : ℕ). values (last a b)) (sym h.is_n) (sym h.is_Q)

    pub checks_value : Refused o → o ≡ arrival_checks s place symbol
    checks_value r = row_refused values values_follow o h.is_o (last n Q) r ∙ sym past_order

    module _ (d : o ≡ Done) where
      past_values : arrival_checks s place symbol ≡ last n Q
      past_values = past_order ∙ row_passed values values_follow o h.is_o (last n Q) d

      pub checks_place : n ≤ place → arrival_checks s place symbol ≡ Err BadPlace
      checks_place b = past_values ∙ rw (le-leb n place b)

      pub checks_symbol : place < n → Q ≤ symbol → arrival_checks s place symbol ≡ Err BadSymbol
      checks_symbol b l = past_values ∙ rw (lt-leb n place b, le-leb Q symbol l)

      pub checks_done : place < n → symbol < Q → arrival_checks s place symbol ≡ Done
      checks_done b l = past_values ∙ rw (lt-leb n place b, lt-leb Q symbol l)

  -- an arrival past its checks has a place of the curve
  pub checked_place : arrival_checks s place symbol ≡ Done → IsShort s.q × (place < s.q * s.q * s.q)
  unfolding arrival_checks
  checked_place e =
      let n = s.q * s.q * s.q in
      let Q = s.q * s.q in
      let a = order_rest (is_short s.q) s.q s.series s.m past_two e in
      let b = value_rest true Q (received_word s) (last n Q) a.2 in
      let d = passed (leb n place) (refuse (leb Q symbol) BadSymbol Done) BadPlace b.1 in
      (short_of_true s.q a.0, leb-false n place d.0)

  -- ---- an arrival

  module _ (round : ℕ) where
    pub arrived_refused : (o : Outcome) → arrival_checks s place symbol ≡ o → eqb (number o) 0 ≡ false
        → arrived s place symbol round ≡ reply s o
    unfolding arrived
    arrived_refused o e n = rw (e, n)

    pub arrived_merged : (o : Outcome) → o ≡ arrival_checks s place symbol → o ≡ Done
        → (k : Stored) → k ≡ merged (get_or s.places place 0) (get_or s.rounds place 0) symbol round
        → arrived s place symbol round ≡ reply (with_stored s place k) o
    unfolding arrived
    arrived_merged o is e k f = rw (← is, e, f)

-- "or as it came": whatever the session, a refused arrival changes nothing
pub arrived_as_it_came : (s : Session) (place symbol round : ℕ) → eqb (number (arrived s place symbol round).outcome) 0 ≡ false
    → (arrived s place symbol round).session ≡ s
unfolding arrived
arrived_as_it_came s place symbol round e =
    elim (true_or_false (eqb (number (arrival_checks s place symbol)) 0)) [
      | inl t ↦ let never = rw t at e in let z : ◌≡◌ {A = ℕ} 0 1 = cc in absurd (omega arith)
      | inr t ↦ rw t
    ]

-- ---- asking

module _ (s : Session) (slice : List ℕ) where
  refused_curve : is_short s.q ≡ false → (v : List ℕ) → recovered s.q s.series s.m v slice ≡ answered (Err BadCurve) slice
  refused_curve e v =
      recovered_refused s.q s.series s.m v slice (Err BadCurve)
      (order_curve (is_short s.q) s.q s.series s.m (slice_checks true (s.q * s.q) (s.q * s.q * s.q) v (size s.q s.m) (length slice) Done) e) refl

  -- recovery from the word that is read; where q names no curve of short blocks, whatever that is
  pub asked_recovered : length s.places ≡ 64 → (w : ReceivedWord) → w ≡ word_read s
      → asked s slice ≡ recovered s.q s.series s.m (take w.points w.places) slice
  unfolding asked
  asked_recovered long w is = elim (true_or_false (is_short s.q)) [
    | inl t ↦
        ap (λ (v : List ℕ). recovered s.q s.series s.m v slice) (sym (reads s long w is (short_of_true s.q t)).word)
    | inr t ↦ refused_curve t (received_word s) ∙ sym (refused_curve t (take w.points w.places))
  ]
