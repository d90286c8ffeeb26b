-- The measure of `text::decimal`: the number.
use Rattle.lines.proofs.text.+decimal.Given as goal

abbrev pub decreases-decimal : goal.decreases-decimal
decreases-decimal l = l.n
