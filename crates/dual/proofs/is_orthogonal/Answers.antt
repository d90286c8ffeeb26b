-- `dual::is_orthogonal` meets its contract: the sums against the terms tell it, of long blocks and of short ones.
-- Assumes nothing.
use mathlib.Core.Path.{◌≡◌, sym, subst}
use Prim.Native.Nat.{ℕ}
use Rattle.field.proofs.Curves.{long_curve}
use Rattle.points.specs.Series.{columns_of}
use Rattle.dual.specs.Checked.{is_orthogonal}
use Rattle.dual.proofs.PointSums.{all_columns}
use Rattle.dual.proofs.Verdicts.{told_orthogonal}
use Rattle.dual.proofs.is_orthogonal.Goals as goal

pub returns-then-q-eq8 : goal.returns-then-q-eq8
returns-then-q-eq8 c =
    let x = c.args in
    subst (λ (q : ℕ). c.vanish_long.result ≡ is_orthogonal q (columns_of q x.series) x.m x.word.now) (sym c.if-q-eq8.true)
    (told_orthogonal 8 (columns_of 8 x.series) (all_columns 8 x.series long_curve) x.m x.word.now c.vanish_long.result c.vanish_long.ensures)

pub returns : goal.returns
returns c =
    let x = c.args in
    told_orthogonal x.q (columns_of x.q x.series) (all_columns x.q x.series c.requires.0.over.curve) x.m x.word.now c.vanish_short.result
    c.vanish_short.ensures
