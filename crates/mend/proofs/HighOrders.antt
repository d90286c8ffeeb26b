-- An order of n or more meets 2 in a call of the mender that names a curve and a series, whatever else is passed in (T-08).
-- Assumes nothing.
use mathlib.Core.Bool.{true}
use mathlib.Core.List.{List}
use mathlib.Core.Path.{◌≡◌}
use Prim.Native.Nat.{ℕ, ◌*◌, ◌≤◌}
use lib.ListN.{length}
use Rattle.field.specs.Curve.{is_short, IsShort}
use Rattle.std.specs.Prelude.{Err}
use Rattle.field.specs.declared.outcome.Refusal.TheVariants.{BadOrder}
use Rattle.field.proofs.Curves.{short_true}
use Rattle.points.specs.Series.{is_series}
use Rattle.code.proofs.HighOrders.{order_high}
use Rattle.mend.specs.Mended.{answered, mend_checks, mended}

module _ (q series m : ℕ) (c : IsShort q) (named : is_series series ≡ true) (h : q * q * q ≤ m) (word message codeword marks : List ℕ) where
  checks_high : mend_checks q series m word (length message) (length codeword) (length marks) ≡ Err BadOrder
  unfolding mend_checks
  checks_high = order_high q series m named h (is_short q) (short_true q c) _

  pub mended_high : mended q series m word message codeword marks ≡ answered (Err BadOrder) 0 message codeword marks
  unfolding mended
  mended_high = rw checks_high
