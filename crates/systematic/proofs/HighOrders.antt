-- Orders of n or more, up to 65535: a call of encoding at chosen places that names a curve and a series meets 2, whatever else is passed in,
-- and leaves the slice.
-- Assumes nothing.
use mathlib.Core.Bool.{true}
use mathlib.Core.List.{List}
use mathlib.Core.Path.{◌≡◌}
use Prim.Native.Nat.{ℕ, ◌*◌, ◌≤◌}
use lib.ListN.{length}
use Rattle.field.specs.Curve.{is_short, IsShort}
use Rattle.std.specs.Prelude.{Err}
use Rattle.field.specs.declared.outcome.Refusal.TheVariants.{BadOrder}
use Rattle.field.proofs.Curves.{short_true}
use Rattle.points.specs.Series.{is_series}
use Rattle.code.specs.Answers.{answered}
use Rattle.code.proofs.HighOrders.{order_high}
use Rattle.systematic.specs.EncodedAt.{encode_at_checks, encoded_at}

module _ (q series m : ℕ) (c : IsShort q) (named : is_series series ≡ true) (h : q * q * q ≤ m) (places symbols slice : List ℕ) where
  checks_high : encode_at_checks q series m places symbols (length slice) ≡ Err BadOrder
  unfolding encode_at_checks
  checks_high = order_high q series m named h (is_short q) (short_true q c) _

  pub encoded_at_high : encoded_at q series m places symbols slice ≡ answered (Err BadOrder) slice
  unfolding encoded_at
  encoded_at_high = rw checks_high
