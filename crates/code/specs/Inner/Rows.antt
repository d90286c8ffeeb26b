-- "Its word is the n values at the places in order": each symbol of a word is a linear form in the message.
use Rattle.std.specs.Prelude.{List, ℕ, ◌/◌, ◌%◌, get_or}
use Rattle.field.specs.Power.{power}
use Rattle.field.proofs.Fields.{field_of}
use Rattle.points.specs.Points.{ys_of}
use Rattle.code.specs.Terms.{weights}
use Rattle.code.specs.Word.{monomial}

-- coefficient n of the form at place p: the term number n at that point, the number p % q of column p / q
unfoldable pub row_of : ℕ → List ℕ → ℕ → ℕ → ℕ → ℕ
row_of q columns m p n =
    monomial q (get_or (weights q m) n 0) (get_or columns (p / q) 0) (get_or (ys_of q (get_or columns (p / q) 0)) (p % q) 0)

-- the term x^i·y^j at the point (x, y)
abbrev pub term_at : ℕ → ℕ → ℕ → ℕ → ℕ → ℕ
term_at q x y i j = (field_of q).times (power (field_of q) x i) (power (field_of q) y j)
