-- `field::entry::inverse` meets its contract: an operand whose check is Done is a symbol, 0 is refused, and a refusal has the symbol 0.
-- Assumes nothing.
use mathlib.Core.List.{[], ◌∷◌}
use mathlib.Core.Path.{◌≡◌, sym, ap, ◌∙◌}
use Rattle.std.proofs.lemmas.Result.{err_from_is_err_and}
use borrow.Author.Tests.{eq-eqb, ne_eqb}
use lib.Dec.{eqb}
use Rattle.field.specs.Curve.{bits_of}
use Rattle.field.specs.Product.{inverse}
use Rattle.field.specs.Outcomes.{Outcome, Done, refuse}
use Rattle.field.specs.Entries.{field_checks, answer}
use Rattle.field.specs.declared.outcome.Refusal.TheVariants.{InverseOfZero}
use Rattle.field.proofs.Outcomes.{row_refused, row_passed, err_not_done}
use Rattle.field.proofs.Entries.{and_zero, pair_lt, operand_follows, refused}
use Rattle.field.proofs.entry.inverse.Goals as goal
use Rattle.field.proofs.entry.inverse.Goals.{In_ok-check}

-- past the checks of the operand, the test of 0 decides
past : (c : goal.In_ok-check) → let x = c.args in
    field_checks x.q (x.a ∷ []) (refuse (eqb x.a 0) InverseOfZero Done) ≡ refuse (eqb x.a 0) InverseOfZero Done
past c =
    let x = c.args in
    row_passed (field_checks x.q (x.a ∷ [])) (operand_follows x.q x.a) _ (c.check.ensures ∙ and_zero x.q x.a)
    (refuse (eqb x.a 0) InverseOfZero Done) c.in_ok-check.was

pub returns-then-a-eq0 : goal.returns-then-a-eq0
returns-then-a-eq0 c =
    let x = c.args in
    rw (past (goal.at.returns-then-a-eq0 c).In_ok-check, eq-eqb x.a 0 c.if-a-eq0.true)

pub inverse-requires : goal.inverse-requires
inverse-requires c =
    let x = c.args in
    ((pair_lt x.q x.a 0 (sym c.check.ensures ∙ c.in_ok-check.was)).0, c.if-a-eq0.false)

pub returns : goal.returns
returns c =
    let x = c.args in
    rw (past (goal.at.returns c).In_ok-check, ne_eqb x.a 0 c.if-a-eq0.false, c.inverse.ensures)

pub returns-in_err-check : goal.returns-in_err-check
returns-in_err-check c =
    let x = c.args in
    let p = err_from_is_err_and c.from_residual.result c.from_residual.ensures.1 in
    let n = err_not_done c.in_err-check.was in
    rw (p.1, p.2) (refused _ _ _ (sym (row_refused (field_checks x.q (x.a ∷ [])) (operand_follows x.q x.a) _ (c.check.ensures ∙ and_zero x.q x.a)
    (refuse (eqb x.a 0) InverseOfZero Done) n) ∙ c.in_err-check.was))
