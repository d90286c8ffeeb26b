-- What holds of the calls over every list of columns: encoding writes the values of the message's polynomial, unencoding is exact and inverse to
-- it, recovery says how many messages fit, and m + 1 symbols are enough.
-- Assumes nothing.
use mathlib.Core.Bool.{true, false}
use mathlib.Core.List.{List, Memᴰ as Mem}
use mathlib.Core.Logic.{◌↔◌}
use mathlib.Core.Path.{◌≡◌, refl, sym, ap, ap₂, ◌∙◌, subst}
use Prim.Native.Nat.{ℕ, ◌+◌, ◌*◌, ◌^◌, ◌≤◌, ◌<◌}
use native.Mathlib.Omega.{arith}
use lib.ListN.{length, get_or}
use Rattle.field.specs.Curve.{IsShort}
use Rattle.std.specs.Prelude.{Err}
use Rattle.field.specs.Outcomes.{Done, number}
use Rattle.field.specs.declared.outcome.Refusal.TheVariants.{NoMessage, Several}
use Rattle.field.proofs.Curves.{short_curve, two_symbols}
use Rattle.poly.specs.Lists.{Nodup}
use Rattle.poly.specs.Messages.{Vector}
use Rattle.poly.specs.Sets.{Alone, TwoOrMore, Exactly}
use Rattle.points.specs.Points.{ys_of}
use Rattle.points.specs.Series.{columns_of}
use Rattle.points.specs.Inner.Columns.{Columns}
use Rattle.linear.proofs.Elimination.{PowerOrNone}
use Rattle.code.specs.Terms.{size}
use Rattle.code.specs.Word.{value_at, word_of}
use Rattle.code.specs.Fitting.{fitting}
use Rattle.code.specs.Answers.{Answer, answered}
use Rattle.code.specs.Recovered.{Reading, reading, answer_of}
use Rattle.code.specs.Inner.Readable.{read_over}
use Rattle.code.proofs.Answers.{not_refused, past}
use Rattle.code.proofs.Checks.{Accepted, good_symbol, symbol_of_good, value_of_good}
use Rattle.code.proofs.Facts.{FactsOver, facts_over}
use Rattle.code.proofs.Inverse.{word_vector, words_differ, read_own, read_found, read_refuses}
use Rattle.code.proofs.Readings.{Fitting, fitting_list, length_fitting, reads_nothing, reads_message, reads_several}
use Rattle.code.proofs.Recoveries.{answer_nothing, answer_message, answer_several}
use Rattle.code.proofs.WordColumns.{word_at}
use Rattle.chosen_columns.specs.ColumnLists.{on_checks}
use Rattle.chosen_columns.specs.EncodedOn.{encoded_on}
use Rattle.chosen_columns.specs.UnencodedOn.{unencoded_on}
use Rattle.chosen_columns.specs.RecoveredOn.{recovered_on}
use Rattle.chosen_columns.proofs.ColumnLists.{ColumnList, column_list_columns}
use Rattle.chosen_columns.proofs.Checking.{Passed, checks_passed, passed_checks}
use Rattle.chosen_columns.proofs.Widenings.{part_of_whole}

-- an accepted message, and an accepted whole word
accepted : (Q n : ℕ) (input : List ℕ) (writes room : ℕ) → Vector Q n input → room ≡ writes → Accepted false Q n input writes room
accepted Q n input writes room h e =
    record { long = h.len; good = λ i l. good_symbol false Q (get_or input i 0) (h.small i (omega (arith, h.len))); fits = e }

of_accepted : (Q n : ℕ) (input : List ℕ) (writes room : ℕ) → Accepted false Q n input writes room → Vector Q n input
of_accepted Q n input writes room h = record { len = h.long; small = λ i l. symbol_of_good Q (get_or input i 0) (h.good i (omega (arith, h.long))) }

module _ (q : ℕ) (columns : List ℕ) (m : ℕ) (short : IsShort q) (list : ColumnList (q * q) columns) (order : m < q * length columns) where
  abbrev n : ℕ
  n = q * length columns

  abbrev word : List ℕ → List ℕ
  word = word_of q columns m

  over : Columns q columns
  over = column_list_columns q columns (short_curve q short) list

  -- what is 0 or a power of Q, and how few places decide
  pub facts : FactsOver q columns n m
  facts = facts_over q columns over n refl m

  -- "Messages whose k exceeds what a short list carries": none do, for different messages have different words
  pub different_words : (u v : List ℕ) → Vector (q * q) (size q m) u → Vector (q * q) (size q m) v → word u ≡ word v → u ≡ v
  different_words = words_differ q columns over m order

  -- the word is the part of the whole word in series 1 that stands in the list's columns
  pub part_of_whole_word : (v : List ℕ) (t s : ℕ) → t < length columns → s < q
      → get_or (word v) (q * t + s) 0 ≡ get_or (word_of q (columns_of q 1) m v) (q * get_or columns t 0 + s) 0
  part_of_whole_word v t s l b = sym (part_of_whole q columns over m v t s l b)

  -- ---- encoding and unencoding

  -- ENCODING writes at the point number s of each column of the list the value of the message's polynomial there
  pub encodes : (v out : List ℕ) → Vector (q * q) (size q m) v → length out ≡ n
      → (encoded_on q columns m v out ≡ answered Done (word v))
      × ((t s : ℕ) → t < length columns → s < q → get_or (word v) (q * t + s) 0 ≡ value_at q m v (get_or columns t 0) (get_or (ys_of q (get_or columns t 0)) s 0))
  unfolding encoded_on
  encodes v out h e = (
    not_refused (on_checks false false q columns m v (length out)) out (answered Done (word v))
        (passed_checks false false q columns m v (length out)
        (record { short = short; list = list; order = order; accepted = accepted (q * q) (size q m) v n (length out) h e })),
    word_at q m (short_curve q short) v columns over.small,
  )

  reads : (whole slice : List ℕ) → Vector (q * q) n whole → length slice ≡ size q m → unencoded_on q columns m whole slice ≡ read_over q columns m whole slice
  unfolding unencoded_on
  reads whole slice h e =
      not_refused (on_checks false true q columns m whole (length slice)) slice (read_over q columns m whole slice)
      (passed_checks false true q columns m whole (length slice)
      (record { short = short; list = list; order = order; accepted = accepted (q * q) n whole (size q m) (length slice) h e }))

  -- ENCODING, THEN UNENCODING
  pub unencode_encode : (v out slice : List ℕ) → Vector (q * q) (size q m) v → length out ≡ n → length slice ≡ size q m
      → unencoded_on q columns m (encoded_on q columns m v out).slice slice ≡ answered Done v
  unencode_encode v out slice h a b =
      ap (λ (x : Answer). unencoded_on q columns m x.slice slice) (encodes v out h a).0
      ∙ reads (word v) slice (word_vector q columns over m order v) b ∙ read_own q columns over m order v slice h

  -- 9 is answered exactly where no message has the word
  pub unencode_refuses : (whole slice : List ℕ) → Vector (q * q) n whole → length slice ≡ size q m
      → (number (unencoded_on q columns m whole slice).outcome ≡ 9) ↔ ((v : List ℕ) → Vector (q * q) (size q m) v → word v ≡ whole → ⊥)
  unencode_refuses whole slice h e =
      let is = ap (λ (x : Answer). number x.outcome) (reads whole slice h e) in
      let (to, from) = read_refuses q columns over m order whole h slice in
      (λ k. to (sym is ∙ k), λ none. is ∙ from none)

  -- ---- recovery

  module _ (broken slice : List ℕ) (p : Passed true true q columns m broken (length slice)) where
    -- v is a message, and fits
    abbrev Fit : List ℕ → Type 0
    Fit = Fitting (q * q) (size q m) word broken

    abbrev answer : Answer
    answer = recovered_on q columns m broken slice

    abbrev read_as : Reading
    read_as = reading (q * q) (size q m) word broken

    answers : answer ≡ answer_of read_as slice
    unfolding recovered_on
    answers =
        not_refused (on_checks true true q columns m broken (length slice)) slice (answer_of read_as slice)
        (passed_checks true true q columns m broken (length slice) p)

    two_le : 1 < q * q
    two_le = two_symbols q (short_curve q short)

    -- THE NUMBER OF MESSAGES THAT FIT is 0 or a power of Q
    pub how_many : PowerOrNone (q * q) (length (fitting (q * q) (size q m) word broken))
    how_many =
        subst (PowerOrNone (q * q)) (sym (length_fitting (q * q) (size q m) word broken))
        (facts.power broken
        (record { len = p.accepted.long; value = λ i l. value_of_good (q * q) (get_or broken i 0) (p.accepted.good i (omega (arith, p.accepted.long))) }))

    -- 'none', a message, 'several' with r: each exactly where it is so
    pub recovers_nothing : (answer.outcome ≡ Err NoMessage) ↔ ((v : List ℕ) → Fit v → ⊥)
    unfolding reading
    recovers_nothing =
        let (a, b) = answer_nothing read_as slice in
        let (c, d) = reads_nothing (q * q) two_le Fit (fitting (q * q) (size q m) word broken) (fitting_list (q * q) (size q m) word broken) in
        (λ e. c (a (ap (λ (x : Answer). x.outcome) (sym answers) ∙ e)), λ k. ap (λ (x : Answer). x.outcome) answers ∙ b (d k))

    pub recovers_message : (v : List ℕ) → (answer ≡ answered Done v) ↔ Alone Fit v
    unfolding reading
    recovers_message v =
        let (a, b) = answer_message read_as slice v in
        let (c, d) = reads_message (q * q) two_le Fit (fitting (q * q) (size q m) word broken) (fitting_list (q * q) (size q m) word broken) v in (
          λ e. let f = sym answers ∙ e in c (a (ap (λ (x : Answer). x.outcome) f, ap (λ (x : Answer). x.slice) f)),
          λ k. let f = b (d k) in answers ∙ made (answer_of read_as slice) f.0 f.1,
        )
      where
        made : (x : Answer) → x.outcome ≡ Done → x.slice ≡ v → x ≡ answered Done v
        made x e f = ap₂ answered e f

    pub recovers_several : (r : ℕ) → (answer.outcome ≡ Err (Several r)) ↔ (TwoOrMore Fit × Exactly ((q * q) ^ r) Fit)
    unfolding reading
    recovers_several r =
        let (a, b) = answer_several read_as slice r in
        let (c, d) = reads_several (q * q) two_le Fit (fitting (q * q) (size q m) word broken) (fitting_list (q * q) (size q m) word broken) how_many r in
        (λ e. c (a (ap (λ (x : Answer). x.outcome) (sym answers) ∙ e)), λ k. ap (λ (x : Answer). x.outcome) answers ∙ b (d k))

    -- M + 1 SYMBOLS ARE ENOUGH: with m + 1 places that aren't missing it never says 'several'
    pub enough : (places : List ℕ) → Nodup places → m + 1 ≤ length places
        → ((i : ℕ) → Mem i places → (i < n) × (get_or broken i 0 ≡ 255 → ⊥)) → (r : ℕ) → answer.outcome ≡ Err (Several r) → ⊥
    enough places distinct many there r e =
        let two = ((recovers_several r).0 e).0 in
        two.different
        (facts.agreement two.one two.other two.one_has.vector two.other_has.vector places distinct many
        (λ i k. let h = there i k in
        let l : i < length broken = omega (arith, h.0, p.accepted.long) in
        (h.0, two.one_has.fits.at i l h.1 ∙ sym (two.other_has.fits.at i l h.1))))

-- UNENCODING, THEN ENCODING: what is unencoded without a refusal is a message, and has the word
pub encode_unencode : (q : ℕ) (columns : List ℕ) (m : ℕ) (whole slice v room : List ℕ) → unencoded_on q columns m whole slice ≡ answered Done v
    → length room ≡ q * length columns → Vector (q * q) (size q m) v × (encoded_on q columns m v room ≡ answered Done whole)
unfolding unencoded_on
encode_unencode q columns m whole slice v room e long =
    let (done, found) = past (on_checks false true q columns m whole (length slice)) slice v (read_over q columns m whole slice) e in
    let p = checks_passed false true q columns m whole (length slice) done in
    let (h, has) = read_found q columns (over q columns m p.short p.list p.order) m p.order whole
    (of_accepted (q * q) (q * length columns) whole (size q m) (length slice) p.accepted) slice v found in
    (h, (encodes q columns m p.short p.list p.order v room h long).0 ∙ ap (answered Done) has)
