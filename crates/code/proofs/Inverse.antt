-- Encoding and unencoding are inverse to each other, and unencoding refuses exactly what is no message's word: over any list of different columns,
-- past the checks, and of the calls over all columns.
-- Assumes nothing.
use mathlib.Core.Bool.{true, false}
use mathlib.Core.List.Memᴰ.{head}
use mathlib.Core.List.Memᴰ.{not-nil}
use mathlib.Core.List.{List, [], ◌∷◌, Memᴰ as Mem}
use mathlib.Core.Logic.{◌↔◌}
use mathlib.Core.Path.{◌≡◌, refl, sym, ap, ◌∙◌, subst}
use Prim.Native.Nat.{ℕ, ◌*◌, ◌<◌}
use native.Mathlib.Decide.{dec_lt}
use native.Mathlib.Omega.{arith}
use lib.ListN.{length, get_or, get_or-eq_default}
use lib.Seq.{ext_get_or}
use Rattle.field.specs.Curve.{is_curve, IsCurve}
use Rattle.std.specs.Prelude.{Err}
use Rattle.field.specs.Outcomes.{Done, number}
use Rattle.field.specs.declared.outcome.Refusal.TheVariants.{NoMessage}
use Rattle.field.proofs.Curves.{sizes, curve_true, curve_of_true}
use Rattle.field.proofs.Fields.{field_of}
use Rattle.field.proofs.FieldLaws.{zero_lt}
use Rattle.poly.specs.Messages.{Vector}
use Rattle.poly.specs.Sets.{ListOf}
use Rattle.points.specs.Series.{is_series, columns_of}
use Rattle.points.specs.Inner.Columns.{Columns}
use Rattle.points.proofs.ColumnPoints.{columns_few}
use Rattle.points.proofs.Series.{full_columns, full_places}
use Rattle.code.specs.Terms.{size}
use Rattle.code.specs.Word.{word_of}
use Rattle.code.specs.Fitting.{fitting}
use Rattle.code.specs.Checks.{slice_checks}
use Rattle.code.specs.Answers.{Answer, answered}
use Rattle.code.specs.Encoded.{encode_checks, encoded}
use Rattle.code.specs.Unencoded.{unencode_checks, the_message, unencoded}
use Rattle.code.specs.Inner.Readable.{WordOver, read_over}
use Rattle.code.proofs.Checks.{Accepted, good_symbol, symbol_of_good, order_passed, order_rest, slices_accepted, slices_done}
use Rattle.code.proofs.Answers.{not_refused, past_checks}
use Rattle.code.proofs.WordColumns.{word_length}
use Rattle.code.proofs.Word.{length_word, word_symbol}
use Rattle.code.proofs.Readings.{Fitting, fitting_list}
use Rattle.code.proofs.WordGrids.{message_only, the_one}

-- the first of the messages that have the word is one of them
found : (l : List (List ℕ)) (slice v : List ℕ) → the_message l slice ≡ answered Done v → Mem v l
found [] slice v e = let o : Err NoMessage ≡ Done = ap (λ (a : Answer). a.outcome) e in absurd (omega (arith, ap number o))
found (u ∷ rest) slice v e = head (sym (ap (λ (a : Answer). a.slice) e))

-- 9 is answered exactly where the list of the messages that have the word is empty
nine : (P : List ℕ → Type 0) (l : List (List ℕ)) (slice : List ℕ) → ListOf P l
    → (number (the_message l slice).outcome ≡ 9) ↔ ((v : List ℕ) → P v → ⊥)
nine P [] slice h = (λ e v k. absurd (not-nil (h.whole v k)), λ none. refl)
nine P (u ∷ rest) slice h = (λ e. absurd (omega (arith, e)), λ none. absurd (none u (h.sound u (head refl))))

-- over different columns
module _ (q : ℕ) (columns : List ℕ) (over : Columns q columns) (m : ℕ) (order : m < q * length columns) where
  -- a word has n symbols
  pub word_vector : (message : List ℕ) → Vector (q * q) (q * length columns) (word_of q columns m message)
  word_vector message =
      let long = word_length q m over.curve message columns over.small in
      record {
        len = long;
        small = λ p l. omega (
          arith,
          word_symbol q columns m message p (omega (arith, length_word q columns m message)),
          (sizes q over.curve).size,
        );
      }

  -- n symbols are a word, or as many other symbols
  pub word_over : (word : List ℕ) → Vector (q * q) (q * length columns) word → WordOver q columns word
  word_over word h =
      record {
        over = over;
        few = columns_few q columns over;
        long = h.len;
        symbols = λ p. elim (dec_lt p (length word)) [
          | yes l ↦ omega (arith, h.small p (omega (arith, h.len)), (sizes q over.curve).size)
          | no d ↦ rw (get_or-eq_default word 0 {n = p} (omega arith)) (zero_lt (field_of q))
        ];
      }

  -- a message has its word
  has_own : (message : List ℕ) → Vector (q * q) (size q m) message
      → Fitting (q * q) (size q m) (word_of q columns m) (word_of q columns m message) message
  has_own message h = record { vector = h; fits = record { at = λ p l n. refl } }

  -- different messages have different words
  pub words_differ : (u v : List ℕ) → Vector (q * q) (size q m) u → Vector (q * q) (size q m) v → word_of q columns m u ≡ word_of q columns m v → u ≡ v
  words_differ u v hu hv e =
      message_only q columns (word_of q columns m v) (word_over (word_of q columns m v) (word_vector v)) m order u v
      (subst (λ (w : List ℕ). Fitting (q * q) (size q m) (word_of q columns m) w u) e (has_own u hu)) (has_own v hv)

  -- the word of a message is read as the message
  pub read_own : (message slice : List ℕ) → Vector (q * q) (size q m) message → read_over q columns m (word_of q columns m message) slice ≡ answered Done message
  read_own message slice h =
      let W = word_of q columns m message in
      the_one (Fitting (q * q) (size q m) (word_of q columns m) W) slice (fitting (q * q) (size q m) (word_of q columns m) W)
      (fitting_list (q * q) (size q m) (word_of q columns m) W) message (has_own message h)
      (λ u k. message_only q columns W (word_over W (word_vector message)) m order u message k (has_own message h))

  module _ (word : List ℕ) (h : Vector (q * q) (q * length columns) word) where
    has_word : (message : List ℕ) → Fitting (q * q) (size q m) (word_of q columns m) word message → word_of q columns m message ≡ word
    has_word message k =
        ext_get_or 0 (word_of q columns m message) word ((word_vector message).len ∙ sym h.len)
        (λ p l. let b : p < q * length columns = omega (arith, (word_vector message).len) in
        k.fits.at p (omega (arith, h.len)) (λ e. omega (arith, h.small p b, (sizes q over.curve).symbols)))

    -- what is read is a message, and has the word
    pub read_found : (slice message : List ℕ) → read_over q columns m word slice ≡ answered Done message
        → Vector (q * q) (size q m) message × (word_of q columns m message ≡ word)
    read_found slice message e =
        let k = (fitting_list (q * q) (size q m) (word_of q columns m) word).sound message
        (found (fitting (q * q) (size q m) (word_of q columns m) word) slice message e) in
        (k.vector, has_word message k)

    -- 9 is answered exactly where no message has the word
    pub read_refuses : (slice : List ℕ) → (number (read_over q columns m word slice).outcome ≡ 9)
        ↔ ((message : List ℕ) → Vector (q * q) (size q m) message → word_of q columns m message ≡ word → ⊥)
    read_refuses slice =
        let W = word_of q columns m in
        let l = fitting_list (q * q) (size q m) W word in
        let (to, from) = nine (Fitting (q * q) (size q m) W word) (fitting (q * q) (size q m) W word) slice l in (
          (λ n v k f. to n v (subst (λ (w : List ℕ). Fitting (q * q) (size q m) W w v) f (has_own v k))),
          (λ none. from (λ v k. none v k.vector (has_word v k))),
        )

-- over all columns, in the order of a series
module _ (q series m : ℕ) (curve : IsCurve q) (named : is_series series ≡ true) (order : m < q * q * q) where
  pub encoded_word : (message word : List ℕ) → Accepted false (q * q) (size q m) message (q * q * q) (length word)
      → encoded q series m message word ≡ answered Done (word_of q (columns_of q series) m message)
  unfolding encoded
  encoded_word message word h =
      not_refused (encode_checks q series m message word) word (answered Done (word_of q (columns_of q series) m message))
      (order_passed (is_curve q) q series m (slice_checks false (q * q) (size q m) message (q * q * q) (length word) Done) (curve_true q curve) named order
      ∙ slices_accepted false (q * q) (size q m) message (q * q * q) (length word) Done h)

  pub unencoded_read : (word slice : List ℕ) → Accepted false (q * q) (q * q * q) word (size q m) (length slice)
      → unencoded q series m word slice ≡ read_over q (columns_of q series) m word slice
  unfolding unencoded
  unencoded_read word slice h =
      not_refused (unencode_checks q series m word slice) slice (read_over q (columns_of q series) m word slice)
      (order_passed (is_curve q) q series m (slice_checks false (q * q) (q * q * q) word (size q m) (length slice) Done) (curve_true q curve) named order
      ∙ slices_accepted false (q * q) (q * q * q) word (size q m) (length slice) Done h)

  pub message_accepted : (message word : List ℕ) → Vector (q * q) (size q m) message → length word ≡ q * q * q
      → Accepted false (q * q) (size q m) message (q * q * q) (length word)
  message_accepted message word h e =
      record { long = h.len; good = λ i l. good_symbol false (q * q) (get_or message i 0) (h.small i (omega (arith, h.len))); fits = e }

  abbrev all_columns : Columns q (columns_of q series)
  all_columns = full_columns q series curve

  places : q * length (columns_of q series) ≡ q * q * q
  places = full_places q series curve

  order_all : m < q * length (columns_of q series)
  order_all = omega (arith, places)

  vector_all : (word : List ℕ) → Vector (q * q) (q * q * q) word → Vector (q * q) (q * length (columns_of q series)) word
  vector_all word = subst (λ (n : ℕ). Vector (q * q) n word) (sym places)

  pub word_accepted : (word slice : List ℕ) → Vector (q * q) (q * q * q) word → length slice ≡ size q m
      → Accepted false (q * q) (q * q * q) word (size q m) (length slice)
  word_accepted word slice h e =
      record { long = h.len; good = λ p l. good_symbol false (q * q) (get_or word p 0) (h.small p (omega (arith, h.len))); fits = e }

  -- ENCODING, THEN UNENCODING, whatever the two slices held before
  pub unencode_encode : (message word slice : List ℕ) → Vector (q * q) (size q m) message → length word ≡ q * q * q → length slice ≡ size q m
      → (encoded q series m message word ≡ answered Done (word_of q (columns_of q series) m message))
      × (unencoded q series m (encoded q series m message word).slice slice ≡ answered Done message)
  unencode_encode message word slice h a b =
      let W = word_of q (columns_of q series) m message in
      let v : Vector (q * q) (q * q * q) W = subst (λ (n : ℕ). Vector (q * q) n W) places (word_vector q (columns_of q series) all_columns m order_all message) in
      let e = encoded_word message word (message_accepted message word h a) in (
        e,
        ap (λ (x : Answer). unencoded q series m x.slice slice) e ∙ unencoded_read W slice (word_accepted W slice v b)
            ∙ read_own q (columns_of q series) all_columns m order_all message slice h,
      )

  -- THE OTHER HALF: of n symbols and a slice of length k, 9 is answered exactly where no message has the word
  pub unencode_refuses : (word slice : List ℕ) → Vector (q * q) (q * q * q) word → length slice ≡ size q m
      → (number (unencoded q series m word slice).outcome ≡ 9)
      ↔ ((message : List ℕ) → Vector (q * q) (size q m) message → word_of q (columns_of q series) m message ≡ word → ⊥)
  unencode_refuses word slice h e =
      let is = ap (λ (x : Answer). number x.outcome) (unencoded_read word slice (word_accepted word slice h e)) in
      let (to, from) = read_refuses q (columns_of q series) all_columns m order_all word (vector_all word h) slice in
      (λ n. to (sym is ∙ n), λ none. is ∙ from none)

-- UNENCODING, THEN ENCODING: what is unencoded without a refusal is a message, and has the word
pub encode_unencode : (q series m : ℕ) (word slice message room : List ℕ) → unencoded q series m word slice ≡ answered Done message → length room ≡ q * q * q
    → Vector (q * q) (size q m) message × (encoded q series m message room ≡ answered Done word)
unfolding unencoded
encode_unencode q series m word slice message room e long =
    let past = past_checks (is_curve q) q series m false (q * q) (q * q * q) word (size q m) (length slice) slice message (read_over q (columns_of q series) m word slice) e in
    let (t, order, d, named) = order_rest (is_curve q) q series m (slice_checks false (q * q) (q * q * q) word (size q m) (length slice) Done) past.0 in
    let curve = curve_of_true q t in
    let h = slices_done false (q * q) (q * q * q) word (size q m) (length slice) d in
    let w : Vector (q * q) (q * q * q) word = record { len = h.long; small = λ p l. symbol_of_good (q * q) (get_or word p 0) (h.good p (omega (arith, h.long))) } in
    let (v, has) = read_found q (columns_of q series) (full_columns q series curve) m (order_all q series m curve named order) word (vector_all q series m curve named order word w)
    slice message past.1 in (
      v,
      encoded_word q series m curve named order message room (message_accepted q series m curve named order message room v long) ∙ ap (answered Done) has,
    )
