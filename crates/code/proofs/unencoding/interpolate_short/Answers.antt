-- `code::unencoding::interpolate_short` meets its contract: the tree and the columns that are lent are those of the curve and the series.
-- Assumes nothing.
use mathlib.Core.List.{List}
use mathlib.Core.Path.{◌≡◌, refl, sym, ap, ◌∙◌, subst}
use Prim.Native.Nat.{ℕ, ◌*◌}
use native.Mathlib.Omega.{arith}
use lib.ListN.{length, take}
use Rattle.field.proofs.Curves.{sizes, short_curve}
use Rattle.field.proofs.Fields.{field_of}
use Rattle.poly.specs.Inner.Interpolation.{VanishingTree}
use Rattle.points.specs.Series.{columns_of}
use Rattle.points.proofs.AllColumns.{columns_are}
use Rattle.points.proofs.Series.{length_columns}
use Rattle.code.specs.Inner.Readable.{WordOver}
use Rattle.code.proofs.unencoding.interpolate_short.Goals as goal
use Rattle.code.proofs.unencoding.interpolate_short.Goals.{After-columns-columns}

-- the columns that are lent
lent : (c : goal.After-columns-columns) → let x = c.args in take (x.q * x.q) c.columns-columns.result ≡ columns_of x.q x.series
lent c = columns_are c.args.q c.args.series c.requires.1 (c.args.q * c.args.q) _ refl c.columns-columns.ensures

many : (c : goal.After-columns-columns) → let q = c.args.q in length (take (q * q) c.columns-columns.result) ≡ q * q
many c =
    ap length (lent (goal.at.After-columns-columns c).After-columns-columns) ∙ length_columns c.args.q c.args.series (short_curve _ c.requires.1)

pub interpolate_over-requires : goal.interpolate_over-requires
interpolate_over-requires c =
    let q = c.args.q in record {
      word_over = (
        subst (λ (l : List ℕ). WordOver q l c.args.word.now) (sym (lent (goal.at.interpolate_over-requires c).After-columns-columns)) c.requires.0,
        c.requires.1,
        omega (arith, many (goal.at.interpolate_over-requires c).After-columns-columns, (sizes q (short_curve _ c.requires.1)).size, (field_of q).two_le),
      );
      vanishing_tree = subst (λ (l : List ℕ). VanishingTree (field_of q) l c.tree-tree.result) (sym (lent (goal.at.interpolate_over-requires c).After-columns-columns)) c.tree-tree.ensures.0;
    }
