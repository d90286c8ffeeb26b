-- The mender (T-03), for every argument: "given a whole word, it finds the codeword that differs in at most t places".
use Rattle.std.specs.Prelude.{Result, Ok, Err, Bool, false, not, cond, List, [], ◌∷◌, map, ℕ, ◌-◌, ◌/◌, eqb, leb, ltb, length, get_or}
use Rattle.field.specs.Curve.{is_short, curve_of}
use Rattle.field.specs.Outcomes.{Outcome, Done, number, refuse}
use Rattle.field.specs.declared.outcome.Refusal.{Refusal}
use Rattle.field.specs.declared.outcome.Refusal.TheVariants.{BadRoom, NoneNear, NoRadius}
use Rattle.poly.specs.Lists.{one_if, count, below, filter}
use Rattle.poly.specs.Messages.{all}
use Rattle.points.specs.Passing.{up_to}
use Rattle.points.specs.Series.{columns_of}
use Rattle.code.specs.Terms.{size}
use Rattle.code.specs.Word.{word_of}
use Rattle.code.specs.Checks.{order_checks, slice_checks}

-- "t being (n − m − 1 − g) halved and rounded down"
abbrev pub radius : ℕ → ℕ → ℕ
radius q m = ((curve_of q).points - m - 1 - (curve_of q).genus) / 2

-- two words differ at place p
abbrev pub differs_at : List ℕ → List ℕ → ℕ → Bool
differs_at a b p = not (eqb (get_or a p 0) (get_or b p 0))

-- the number of places where they differ
unfoldable pub differing : List ℕ → List ℕ → ℕ
differing a b = count (differs_at a b) (below (length a))

-- "n marks, 1 where a symbol was changed and 0 elsewhere"
unfoldable pub marks_of : List ℕ → List ℕ → List ℕ
marks_of a b = map (λ p. one_if (differs_at a b p)) (up_to (length a))

-- of the list of all messages, those whose word differs from the given one "in at most t places"
unfoldable pub near : (Q k : ℕ) → (List ℕ → List ℕ) → ℕ → List ℕ → List (List ℕ)
near Q k word_from t word = filter (λ v. leb (differing word (word_from v)) t) (all Q k)

-- what a call answers, and what the three slices lent to it then hold
pub record Mending : Type 0 where
  pub outcome : Outcome
  pub count : ℕ
  pub message : List ℕ
  pub codeword : List ℕ
  pub marks : List ℕ

abbrev pub answered : Outcome → ℕ → List ℕ → List ℕ → List ℕ → Mending
answered o count message codeword marks = record { outcome = o; count = count; message = message; codeword = codeword; marks = marks }

-- an answer as the call hands it back: the count of changes, or a refusal, with which the count is 0
abbrev pub told : Result ℕ Refusal → List ℕ → List ℕ → List ℕ → Mending
told (Ok count) message codeword marks = answered Done count message codeword marks
told (Err refusal) message codeword marks = answered (Err refusal) 0 message codeword marks

-- "It writes the message, the mended word, and n marks .. and returns the count of changes"
abbrev pub written : List ℕ → (List ℕ → List ℕ) → List ℕ → Mending
written word word_from v = answered Done (differing word (word_from v)) v (word_from v) (marks_of word (word_from v))

-- "It refuses exactly when no codeword lies within t": of the near messages (never two), the one
unfoldable pub the_near : List ℕ → (List ℕ → List ℕ) → Mending → List (List ℕ) → Mending
the_near word word_from refused [] = refused
the_near word word_from refused (v ∷ rest) = written word word_from v

-- "12: n − m − 1 is less than g, tested after 2; 5 here means k for the message, n for word and marks"; the lengths of these three are given
unfoldable pub mend_checks : ℕ → ℕ → ℕ → List ℕ → ℕ → ℕ → ℕ → Outcome
mend_checks q series m word message codeword marks =
    let n = (curve_of q).points in
    order_checks (is_short q) q series m
    (refuse (ltb (n - m - 1) (curve_of q).genus) NoRadius
    (slice_checks false (curve_of q).symbols n word (size q m) message
    (refuse (not (eqb codeword n)) BadRoom
    (refuse (not (eqb marks n)) BadRoom
    Done))))

-- "11: no codeword within t, tested last"; "the count of changes, 0 on a refusal", which leaves the slices as they were
unfoldable pub mended : ℕ → ℕ → ℕ → List ℕ → List ℕ → List ℕ → List ℕ → Mending
mended q series m word message codeword marks =
    let checked = mend_checks q series m word (length message) (length codeword) (length marks) in
    let refused : Outcome → Mending = λ o. answered o 0 message codeword marks in
    let word_from = word_of q (columns_of q series) m in
    cond (eqb (number checked) 0)
    (the_near word word_from (refused (Err NoneNear)) (near (curve_of q).symbols (size q m) word_from (radius q m) word))
    (refused checked)
