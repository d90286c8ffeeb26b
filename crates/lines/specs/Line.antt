-- The line of a record: "Block records and their program".
use Rattle.std.specs.Prelude.{cond, List, [], ◌∷◌, ◌++◌, map, ℕ, ◌+◌, ◌*◌, ◌/◌, eqb, ltb, length, replicate, take, drop}
use Rattle.field.specs.Outcomes.{number, second}
use Rattle.code.specs.Answers.{Answer}
use Rattle.code.specs.Recovered.{recovered}
use Rattle.lines.specs.Text.{hex_digit, decimal, joined}

-- "the record's number in decimal .., a space, then `ok`, a space and 32 lower-case hexadecimal digits"
unfoldable pub ok_line : ℕ → List ℕ → List ℕ
ok_line n message = decimal n ++ ((32 ∷ 111 ∷ 107 ∷ 32 ∷ []) ++ (map hex_digit message ++ (10 ∷ [])))

-- "or `no`, a space, the refusal number, a space, the second number, both decimal"
unfoldable pub no_line : ℕ → ℕ → ℕ → List ℕ
no_line n refusal s = decimal n ++ ((32 ∷ 110 ∷ 111 ∷ 32 ∷ []) ++ (decimal refusal ++ ((32 ∷ []) ++ (decimal s ++ (10 ∷ [])))))

-- "the number, ` short ` and its length"
unfoldable pub short_line : ℕ → ℕ → List ℕ
short_line n size = decimal n ++ ((32 ∷ 115 ∷ 104 ∷ 111 ∷ 114 ∷ 116 ∷ 32 ∷ []) ++ (decimal size ++ (10 ∷ [])))

unfoldable pub answer_line : ℕ → Answer → List ℕ
answer_line n answer =
    cond (eqb (number answer.outcome) 0) (ok_line n answer.slice) (no_line n (number answer.outcome) (second answer.outcome))

-- "each record as a broken word at q = 4, m = 37"; "a last part of 1 to 63 bytes"
unfoldable pub line_of : ℕ → List ℕ → List ℕ
line_of n bytes = cond (ltb (length bytes) 64) (short_line n (length bytes)) (answer_line n (recovered 4 1 37 bytes (replicate 32 0)))

-- the line of record k of a file
abbrev pub numbered_line : ℕ → List ℕ → ℕ → List ℕ
numbered_line first bytes k = line_of (first + k) (take 64 (drop (64 * k) bytes))

-- "a file is records end to end": the lines of all records, the first with the number `first`
unfoldable pub lines_of : ℕ → List ℕ → List ℕ
lines_of first bytes = joined (numbered_line first bytes) ((length bytes + 63) / 64)
