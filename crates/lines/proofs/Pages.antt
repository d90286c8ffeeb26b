-- What a page is put together from: a value's character, a point, the last line and its spaces, and one page after another.
-- Assumes nothing.
use mathlib.Core.Bool.{true}
use mathlib.Core.Path.{◌≡◌, refl, sym, ap, ◌∙◌}
use mathlib.Core.List.{List, [], ◌∷◌, ◌++◌}
use Prim.Native.Nat.{ℕ, ◌+◌, ◌-◌, ◌*◌, ◌≤◌, ◌<◌}
use native.Mathlib.Omega.{arith}
use borrow.Author.Tests.{eq-eqb, ne_eqb}
use lib.ListN.{length, get_or, replicate, take}
use lib.Seq.{length-take-le}
use Rattle.std.specs.Prelude.{Err}
use Rattle.field.specs.declared.outcome.Refusal.{Refusal}
use Rattle.field.specs.declared.outcome.Refusal.TheVariants.{BadCurve, BadOrder, BadLength, BadValue, BadRoom, BadPlace}
use Rattle.field.specs.declared.outcome.Refusal.TheVariants.{BadSymbol, NoMessage, Several, NoneNear, NoRadius, InverseOfZero, BadWork}
use Rattle.field.specs.declared.outcome.Refusal.TheVariants.{BadPlaces, NoInformationSet, BadSeries, BadColumns, LowOrder}
use Rattle.field.specs.Outcomes.{Outcome, Done, number, second}
use Rattle.poly.proofs.Fronts.{take_replicate}
use Rattle.points.specs.Inner.Columns.{Ys}
use Rattle.points.proofs.YsTables.{table_at}
use Rattle.code.specs.Answers.{Answer, answered}
use Rattle.code.specs.Recovered.{recovered}
use Rattle.code.proofs.Checks.{good_symbol, good_gap, bad_gap}
use Rattle.lines.specs.Text.{hex_digit, joined, Written}
use Rattle.lines.specs.Page.{character, point_text, column_line, several_text, result_text, last_line, page_of}
use Rattle.lines.proofs.Texts.{next}

-- the character of a value
module _ (v : ℕ) where
  pub character_symbol : v < 16 → character v ≡ hex_digit v
  unfolding character
  character_symbol h = rw (good_symbol true 16 v h, ne_eqb v 255 (λ e. omega arith))

  pub character_missing : v ≡ 255 → character v ≡ 46
  unfolding character
  character_missing e = rw (good_gap 16 v e, eq-eqb v 255 e)

  pub character_bad : 16 ≤ v → (v ≡ 255 → ⊥) → character v ≡ 63
  unfolding character
  character_bad h d = rw (bad_gap 16 v h d true)

-- the table's y is that of the point
pub point_at :
    (block ys : List ℕ) (x s y symbol : ℕ) →
    Ys 4 ys → x < 16 → s < 4 →
    y ≡ hex_digit (get_or ys (4 * x + s) 0) →
    symbol ≡ character (get_or block (4 * x + s) 0) →
    32 ∷ y ∷ 61 ∷ symbol ∷ [] ≡ point_text block x s
unfolding point_text
point_at block ys x s y symbol t l b e g = rw (e, g, table_at 4 ys t x s l b)

-- what the last line says of an outcome
abbrev pub said : Outcome → List ℕ
said o = result_text (number o) (second o)

bad_said : (r : Refusal) → (r ≡ NoMessage → ⊥) → ((n : ℕ) → r ≡ Several n → ⊥) → said (Err r) ≡ 98 ∷ 97 ∷ 100 ∷ []
unfolding result_text
bad_said BadCurve a b = refl
bad_said BadOrder a b = refl
bad_said BadLength a b = refl
bad_said (BadValue i) a b = refl
bad_said BadRoom a b = refl
bad_said BadPlace a b = refl
bad_said BadSymbol a b = refl
bad_said NoMessage a b = absurd (a refl)
bad_said (Several n) a b = absurd (b n refl)
bad_said NoneNear a b = refl
bad_said NoRadius a b = refl
bad_said InverseOfZero a b = refl
bad_said BadWork a b = refl
bad_said BadPlaces a b = refl
bad_said NoInformationSet a b = refl
bad_said BadSeries a b = refl
bad_said BadColumns a b = refl
bad_said LowOrder a b = refl

pub done_says : (o : Outcome) → o ≡ Done → said o ≡ 111 ∷ 107 ∷ []
unfolding result_text
done_says o e = rw e

module _ (o : Outcome) (r : Refusal) (refused : o ≡ Err r) where
  pub none_says : r ≡ NoMessage → said o ≡ 110 ∷ 111 ∷ 110 ∷ 101 ∷ []
  unfolding result_text
  none_says e = rw (refused, e)

  pub several_says : (n : ℕ) → r ≡ Several n → said o ≡ several_text n
  unfolding result_text
  several_says n e = rw (refused, e)

  pub bad_says : (r ≡ NoMessage → ⊥) → ((n : ℕ) → r ≡ Several n → ⊥) → said o ≡ 98 ∷ 97 ∷ 100 ∷ []
  bad_says a b = rw refused (bad_said r a b)

-- the spaces after a text that ends at `end`
abbrev spaces : ℕ → ℕ → List ℕ
spaces at end = take (at + 18 - end) (replicate 18 32)

pub length_spaces : (at end : ℕ) → at ≤ end → length (spaces at end) ≡ at + 18 - end
length_spaces at end h = length-take-le (at + 18 - end) (spaces 0 0) (omega arith)

-- they are those that the line lacks
pub last_line_whole :
    {l d e f : List ℕ} {at end b c : ℕ} (refusal r : ℕ) →
    Written l at (result_text refusal r) end d → end ≤ at + 13 →
    Written d end (spaces at end) b e →
    Written e b (10 ∷ []) c f →
    Written l at (last_line refusal r) c f × (c ≡ at + 19)
unfolding last_line
last_line_whole {at = at} {end = end} refusal r v h s n =
    let lacks : at + 18 - end ≡ 18 - length (result_text refusal r) = omega (arith, v.ends) in
    let same : spaces at end ≡ replicate (18 - length (result_text refusal r)) 32
    = take_replicate (at + 18 - end) 18 32 (omega (arith, v.ends)) ∙ ap (λ (n : ℕ). replicate n 32) lacks in
    (rw (sym same) (next v (next s n)), omega (arith, v.ends, s.ends, n.ends, length_spaces at end (omega (arith, v.ends))))

-- the lines of the columns and the last one
pub page_whole :
    (block : List ℕ) (o : Outcome) (slice : List ℕ) →
    recovered 4 1 37 block (replicate 32 0) ≡ answered o slice →
    joined (column_line block) 16 ++ last_line (number o) (second o) ≡ page_of block
unfolding page_of
page_whole block o slice says =
    ap (λ (u : Outcome). joined (column_line block) 16 ++ last_line (number u) (second u)) (sym (ap (λ (a : Answer). a.outcome) says))
