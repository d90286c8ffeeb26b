-- The three kinds of lines, and lines one after another.
-- Assumes nothing.
use mathlib.Core.Path.{◌≡◌, ap}
use mathlib.Core.List.{List}
use Prim.Native.Nat.{ℕ, ◌+◌, ◌*◌, ◌/◌, ◌≤◌, ◌<◌}
use native.Mathlib.Omega.{arith}
use borrow.Author.Tests.{lt-ltb, le-ltb}
use lib.ListN.{length, replicate}
use Rattle.std.specs.Prelude.{Err}
use Rattle.field.specs.declared.outcome.Refusal.{Refusal}
use Rattle.field.specs.Outcomes.{Outcome, Done, refusal_number, refusal_second}
use Rattle.field.proofs.Outcomes.{counted}
use Rattle.code.specs.Answers.{answered}
use Rattle.code.specs.Recovered.{recovered}
use Rattle.lines.specs.Line.{ok_line, no_line, short_line, answer_line, line_of, numbered_line, lines_of}
use Rattle.lines.specs.Text.{joined}

pub line_short : (n : ℕ) (bytes : List ℕ) → length bytes < 64 → line_of n bytes ≡ short_line n (length bytes)
unfolding line_of
line_short n bytes h = rw (lt-ltb (length bytes) 64 h)

module _ (n : ℕ) (bytes : List ℕ) (whole : 64 ≤ length bytes)
    (o : Outcome) (slice : List ℕ) (says : recovered 4 1 37 bytes (replicate 32 0) ≡ answered o slice) where
  pub line_ok : o ≡ Done → line_of n bytes ≡ ok_line n slice
  unfolding line_of answer_line
  line_ok e = rw (le-ltb (length bytes) 64 whole, says, e)

  pub line_no : (r : Refusal) → o ≡ Err r → line_of n bytes ≡ no_line n (refusal_number r) (refusal_second r)
  unfolding line_of answer_line
  line_no r e = rw (le-ltb (length bytes) 64 whole, says, e, counted r)

-- no record is left
pub lines_end :
    (first : ℕ) (bytes : List ℕ) (k : ℕ) →
    64 * k < length bytes + 64 →
    length bytes ≤ 64 * k →
    joined (numbered_line first bytes) k ≡ lines_of first bytes
unfolding lines_of
lines_end first bytes k a b =
    let e : k ≡ (length bytes + 63) / 64 = omega arith in
    ap (joined (numbered_line first bytes)) e
