-- An order of n or more meets 2 in the opening of a job that names a curve and a series, whatever the word (T-08).
-- Assumes nothing.
use mathlib.Core.Bool.{true}
use mathlib.Core.List.{List}
use mathlib.Core.Path.{◌≡◌}
use Prim.Native.Nat.{ℕ, ◌*◌, ◌≤◌}
use lib.ListN.{replicate}
use Rattle.field.specs.Curve.{is_short, IsShort}
use Rattle.std.specs.Prelude.{Err}
use Rattle.field.specs.declared.outcome.Refusal.TheVariants.{BadOrder}
use Rattle.field.proofs.Curves.{short_true}
use Rattle.points.specs.Series.{is_series}
use Rattle.code.proofs.HighOrders.{order_high}
use Rattle.job.specs.Opened.{fresh, open_checks, opened}

module _ (q series m : ℕ) (c : IsShort q) (named : is_series series ≡ true) (h : q * q * q ≤ m) (word : List ℕ) where
  checks_high : open_checks q series m word ≡ Err BadOrder
  checks_high = order_high q series m named h (is_short q) (short_true q c) _

  pub opened_high : opened q series m word ≡ record { task = fresh 2 1 0 (replicate 8 255); outcome = Err BadOrder }
  unfolding opened
  opened_high = rw checks_high
