-- The converter of words between the strap series (T-11), for every argument: "a converter of words, whole or broken, from the series it names to
-- the other, either way, which keeps missing marks, takes no order and serves all three curves".
use Rattle.std.specs.Prelude.{Bool, true, ◌&&◌, cond, List, [], ◌∷◌, map, ℕ, suc, eqb, length, get_or}
use Rattle.field.specs.Curve.{is_curve, curve_of}
use Rattle.field.specs.Outcomes.{Outcome, Done}
use Rattle.points.specs.Points.{points_on}
use Rattle.points.specs.Series.{other_series, columns_of}
use Rattle.code.specs.Checks.{curve_checks, slice_checks}
use Rattle.code.specs.Answers.{Answer, answered, unless_refused}

abbrev pub same_point : ℕ × ℕ → ℕ × ℕ → Bool
same_point a b = eqb a.0 b.0 && eqb a.1 b.1

-- "a point's index in that list, from 0, is its place"
unfoldable pub place_of : ℕ × ℕ → List (ℕ × ℕ) → ℕ
place_of a [] = 0
place_of a (b ∷ rest) = cond (same_point b a) 0 (suc (place_of a rest))

-- what a word over one list of columns has at each point, 255 too, in the order of another list's points
unfoldable pub relisted : ℕ → List ℕ → List ℕ → List ℕ → List ℕ
relisted q from to word = map (λ a. get_or word (place_of a (points_on q from)) 0) (points_on q to)

-- 1, 17, 3, 4 (255 allowed), and "5 means n for the converter"
unfoldable pub convert_checks : ℕ → ℕ → List ℕ → ℕ → Outcome
convert_checks q series word room =
    let n = (curve_of q).points in
    curve_checks (is_curve q) series (slice_checks true (curve_of q).symbols n word n room Done)

unfoldable pub converted : ℕ → ℕ → List ℕ → List ℕ → Answer
converted q series word out =
    unless_refused (convert_checks q series word (length out)) out
    (answered Done (relisted q (columns_of q series) (columns_of q (other_series series)) word))
