-- The page of a record (request T-07): 17 lines of 18 characters and a line feed.
use Rattle.std.specs.Prelude.{true, cond, List, [], ◌∷◌, ◌++◌, ℕ, ◌+◌, ◌-◌, ◌*◌, ◌/◌, eqb, length, get_or, replicate, take, drop}
use Rattle.field.specs.Outcomes.{Outcome, number, second}
use Rattle.points.specs.Points.{ys_of}
use Rattle.code.specs.Checks.{bad_value}
use Rattle.code.specs.Recovered.{recovered}
use Rattle.lines.specs.Text.{hex_digit, decimal, joined}

-- "the symbol digit or `.` if missing", "`?` for each bad value"
unfoldable pub character : ℕ → ℕ
character value = cond (bad_value true 16 value) 63 (cond (eqb value 255) 46 (hex_digit value))

-- "a space, the y digit, `=`, and the symbol": point s of column x stands at place 4·x + s
unfoldable pub point_text : List ℕ → ℕ → ℕ → List ℕ
point_text block x s = 32 ∷ hex_digit (get_or (ys_of 4 x) s 0) ∷ 61 ∷ character (get_or block (4 * x + s) 0) ∷ []

-- "x = i as one lower-case hexadecimal digit, a colon, and for each of its four points .."
unfoldable pub column_line : List ℕ → ℕ → List ℕ
column_line block x = (hex_digit x ∷ 58 ∷ []) ++ (joined (point_text block x) 4 ++ (10 ∷ []))

-- "`several` with a space and r in decimal"
unfoldable pub several_text : ℕ → List ℕ
several_text r = (115 ∷ 101 ∷ 118 ∷ 101 ∷ 114 ∷ 97 ∷ 108 ∷ 32 ∷ []) ++ decimal r

-- "`ok`, `none`, or `several` ..": refusals 9 and 10; "a record with a bad value prints `bad` there": no other refusal is left
-- (`bad_exactly` of `proofs/LastLines.antt`)
unfoldable pub result_text : ℕ → ℕ → List ℕ
result_text refusal r =
    cond (eqb refusal 0) (111 ∷ 107 ∷ [])
    (cond (eqb refusal 9) (110 ∷ 111 ∷ 110 ∷ 101 ∷ [])
    (cond (eqb refusal 10) (several_text r)
    (98 ∷ 97 ∷ 100 ∷ [])))

-- "filled up with spaces", to 18 characters
unfoldable pub last_line : ℕ → ℕ → List ℕ
last_line refusal r = result_text refusal r ++ (replicate (18 - length (result_text refusal r)) 32 ++ (10 ∷ []))

-- what recovery says of a record
abbrev pub outcome_of : List ℕ → Outcome
outcome_of block = (recovered 4 1 37 block (replicate 32 0)).outcome

-- "each record .. as 17 lines"
unfoldable pub page_of : List ℕ → List ℕ
page_of block = joined (column_line block) 16 ++ last_line (number (outcome_of block)) (second (outcome_of block))

-- the page of record k of a file
abbrev pub record_page : List ℕ → ℕ → List ℕ
record_page bytes k = page_of (take 64 (drop (64 * k) bytes))

-- "prints each record in turn"; "a last part shorter than 64 bytes prints nothing"
unfoldable pub pages_of : List ℕ → List ℕ
pages_of bytes = joined (record_page bytes) (length bytes / 64)
