-- `session::Session::check` meets its contract: each way out has the tests that led there.
-- Assumes nothing.
use mathlib.Core.Bool.{Bool, true}
use mathlib.Core.List.{List}
use mathlib.Core.Path.{◌≡◌, sym, ap, ap₂, ◌∙◌}
use Prim.Native.Nat.{ℕ, ◌*◌, ◌<◌}
use native.Mathlib.Omega.{arith}
use borrow.Author.Rules.{rules}
use lib.ListN.{length}
use Rattle.field.specs.Curve.{is_short, IsShort}
use Rattle.field.proofs.Curves.{short_of_true}
use Rattle.field.specs.Outcomes.{Done}
use Rattle.points.specs.Series.{is_series}
use Rattle.code.specs.Checks.{order_checks, value_check}
use Rattle.code.proofs.Checks.{order_done}
use Rattle.field.proofs.Outcomes.{handed_on, err_not_done}
use Rattle.session.proofs.Arrivals.{reads, ValuesChecked, checks_order, checks_value, checks_place, checks_symbol, checks_done}
use Rattle.session.proofs.Session.check.Goals as goal
use Rattle.session.proofs.Session.check.Goals.{After-order, After-received_word-word, After-values, Start}

-- the length of a session's array
long : (c : goal.Start) → length c.args.self.places ≡ 64
long c = search rules

-- what the checks 1, 17 and 2 say
said : (c : goal.After-order) → let s = c.args.self in
    c.order.result ≡ order_checks (is_short s.q) s.q s.series s.m Done
said c =
    let s = c.args.self in
    c.order.ensures ∙ ap (λ (t : Bool). order_checks t s.q s.series s.m Done) c.is_short.ensures

-- past the checks 1, 17 and 2
ordered : (c : goal.After-received_word-word) → let s = c.args.self in IsShort s.q × (s.m < s.q * s.q * s.q) × (is_series s.series ≡ true)
ordered c =
    let s = c.args.self in
    let w = order_done (is_short s.q) s.q s.series s.m (sym (said (goal.at.After-received_word-word c).After-order) ∙ c.in_ok-order.was) in
    (short_of_true s.q w.0, w.1, w.2)

-- past the check of the values
checked : (c : goal.After-values) → let x = c.args in let w = c.received_word-word.result in
    ValuesChecked x.self x.place x.symbol w.points w.symbols c.values.result
checked c =
    let s = c.args.self in
    let o = ordered (goal.at.After-values c).After-received_word-word in
    let read = reads s (long (goal.at.After-values c).Start) _ c.received_word-word.ensures o.0 in
    record {
      is_block = o.0;
      series_named = o.2;
      is_n = read.is_n;
      is_Q = read.is_Q;
      order = omega (arith, read.is_n, o.1);
      is_o = c.values.ensures ∙ ap₂ (λ (Q : ℕ) (v : List ℕ). value_check true Q v Done) read.is_Q read.word;
    }

pub returns-in_err-order : goal.returns-in_err-order
returns-in_err-order c =
    let x = c.args in rw (handed_on _ _ c.from_residual.ensures.1 c.in_err-order.was) (checks_order x.self x.place x.symbol _ (said (goal.at.returns-in_err-order c).After-order) (err_not_done c.in_err-order.was))

pub returns-in_err-values : goal.returns-in_err-values
returns-in_err-values c =
    let x = c.args in rw (handed_on _ _ c.from_residual-in_err-values.ensures.1 c.in_err-values.was)
    (checks_value x.self x.place x.symbol _ _ _ (checked (goal.at.returns-in_err-values c).After-values) (err_not_done c.in_err-values.was))

pub returns-then-n-place : goal.returns-then-n-place
returns-then-n-place c =
    let x = c.args in
    sym (checks_place x.self x.place x.symbol _ _ _ (checked (goal.at.returns-then-n-place c).After-values) c.in_ok-values.was c.if-n-place.true)

pub returns-then-word-symbol : goal.returns-then-word-symbol
returns-then-word-symbol c =
    let x = c.args in
    sym (checks_symbol x.self x.place x.symbol _ _ _ (checked (goal.at.returns-then-word-symbol c).After-values) c.in_ok-values.was
    c.if-n-place.false c.if-word-symbol.true)

pub returns : goal.returns
returns c =
    let x = c.args in
    sym (checks_done x.self x.place x.symbol _ _ _ (checked (goal.at.returns c).After-values) c.in_ok-values.was
    c.if-n-place.false c.if-word-symbol.false)
