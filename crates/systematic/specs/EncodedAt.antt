-- Encoding at chosen places, for every argument: "an encoder for q = 2 and 4 that takes k places, strictly ascending, and k symbols, and writes
-- the only codeword with those symbols there" (T-10).
use Rattle.std.specs.Prelude.{false, not, cond, List, [], ◌∷◌, ℕ, length}
use Rattle.field.specs.Curve.{is_short, curve_of}
use Rattle.std.specs.Prelude.{Err}
use Rattle.field.specs.Outcomes.{Outcome, Done, refuse}
use Rattle.field.specs.declared.outcome.Refusal.TheVariants.{BadPlaces, NoInformationSet}
use Rattle.points.specs.Series.{columns_of}
use Rattle.code.specs.Terms.{size}
use Rattle.code.specs.Checks.{order_checks, slice_checks}
use Rattle.code.specs.Answers.{Answer, answered, unless_refused}
use Rattle.systematic.specs.Places.{good_places}
use Rattle.systematic.specs.InformationSets.{is_information_set, codewords_with}

-- 1, 17 (T-11), 2, "15: places not ascending, not k, or n or more, tested after 2", 3 ("symbols not k in number meet 3"), 4, and 5 ("5 here means n")
unfoldable pub encode_at_checks : ℕ → ℕ → ℕ → List ℕ → List ℕ → ℕ → Outcome
encode_at_checks q series m places symbols room =
    let k = size q m in
    let n = (curve_of q).points in
    order_checks (is_short q) q series m
    (refuse (not (good_places k n places)) BadPlaces
    (slice_checks false (curve_of q).symbols k symbols n room Done))

-- "16: places that don't fix the codeword, tested last". Where they do, just one codeword has the symbols: `encodes` (`proofs/Encodings`)
abbrev pub the_codeword : List (List ℕ) → List ℕ → Answer
the_codeword [] slice = answered (Err NoInformationSet) slice
the_codeword (word ∷ rest) slice = answered Done word

unfoldable pub encoded_at : ℕ → ℕ → ℕ → List ℕ → List ℕ → List ℕ → Answer
encoded_at q series m places symbols slice =
    unless_refused (encode_at_checks q series m places symbols (length slice)) slice
    (cond (is_information_set q (columns_of q series) m places)
    (the_codeword (codewords_with q (columns_of q series) m places symbols) slice)
    (answered (Err NoInformationSet) slice))
