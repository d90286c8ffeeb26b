-- `session::Session::arrive` meets its contract: past the checks the place is one of the curve, and `merge` says what is stored there.
-- Assumes nothing.
use mathlib.Core.Bool.{true, false, false≢true}
use mathlib.Core.Path.{◌≡◌, refl, sym, ap, ◌∙◌}
use Prim.Native.Nat.{◌<◌}
use native.Mathlib.Omega.{arith}
use Rattle.std.specs.Prelude.{Ok, Err, is_ok}
use Rattle.field.specs.Outcomes.{Outcome, Done}
use Rattle.field.specs.declared.outcome.Refusal.{Refusal}
use Rattle.field.proofs.Curves.{short_sizes}
use Rattle.field.proofs.Outcomes.{not_done}
use Rattle.session.proofs.Arrivals.{checked_place, arrived_refused, arrived_merged}
use Rattle.session.proofs.Session.arrive.Goals as goal
use Rattle.session.proofs.Session.arrive.Goals.{Then-is_ok}

-- what an outcome is, by whether it is Ok
done_by : (o : Outcome) → is_ok o ≡ true → o ≡ Done
done_by (Ok tt) e = refl
done_by (Err r) e = absurd (false≢true e)

refused_by : (o : Outcome) → is_ok o ≡ false → o ≡ Done → ⊥
refused_by o e d = false≢true (sym e ∙ ap (is_ok {T = Unit {0}} {E = Refusal}) d)

done : (c : goal.Then-is_ok) → c.check-checked.result ≡ Done
done c = done_by _ (sym c.is_ok.ensures.value ∙ c.if-is_ok.true)

-- the place is one of the 64
inside : (c : goal.Then-is_ok) → c.args.place < 64
inside c =
    let x = c.args in
    let h = checked_place x.self x.place x.symbol (sym c.check-checked.ensures ∙ done (goal.at.Then-is_ok c).Then-is_ok) in
    omega (arith, h.1, (short_sizes x.self.q h.0).points)

pub bounds-self-at : goal.bounds-self-at
bounds-self-at c = inside (goal.at.bounds-self-at c).Then-is_ok

pub bounds-self-at-then-is_ok : goal.bounds-self-at-then-is_ok
bounds-self-at-then-is_ok c = inside (goal.at.bounds-self-at-then-is_ok c).Then-is_ok

pub bounds-self-at-then-is_ok-2 : goal.bounds-self-at-then-is_ok-2
bounds-self-at-then-is_ok-2 c = inside (goal.at.bounds-self-at-then-is_ok-2 c).Then-is_ok

pub bounds-self-at-then-is_ok-3 : goal.bounds-self-at-then-is_ok-3
bounds-self-at-then-is_ok-3 c = inside (goal.at.bounds-self-at-then-is_ok-3 c).Then-is_ok

pub returns-then-is_ok : goal.returns-then-is_ok
returns-then-is_ok c =
    let x = c.args in
    sym (arrived_merged x.self x.place x.symbol x.round _ c.check-checked.ensures (done (goal.at.returns-then-is_ok c).Then-is_ok) _
    c.merge-stored.ensures)

pub returns-else-is_ok : goal.returns-else-is_ok
returns-else-is_ok c =
    let x = c.args in
    sym (arrived_refused x.self x.place x.symbol x.round _ (sym c.check-checked.ensures)
    (not_done c.check-checked.result (refused_by _ (sym c.is_ok.ensures.value ∙ c.if-is_ok.false))))
