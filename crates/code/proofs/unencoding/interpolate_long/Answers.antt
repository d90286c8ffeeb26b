-- `code::unencoding::interpolate_long` meets its contract: both stages leave the grid of the word.
-- Assumes nothing.
use mathlib.Core.List.{List}
use mathlib.Core.Path.{◌≡◌, sym, ap, ◌∙◌, subst}
use Prim.Native.Nat.{ℕ}
use native.Mathlib.Omega.{arith}
use lib.ListN.{length, length-replicate}
use Rattle.field.proofs.Curves.{long_curve}
use Rattle.poly.proofs.Entries.{get_or_zeros}
use Rattle.points.proofs.Series.{length_columns}
use Rattle.code.specs.Inner.Readable.{WordOver, GridInFront}
use Rattle.code.proofs.WordGrids.{grid_of, grid_copied}
use Rattle.code.proofs.unencoding.interpolate_long.Goals as goal
use Rattle.code.proofs.unencoding.interpolate_long.Goals.{After-long_columns-columns}

-- the word is over the columns that are lent
over : (c : goal.After-long_columns-columns) → WordOver 8 c.long_columns-columns.result c.args.word.now
over c = subst (λ (l : List ℕ). WordOver 8 l c.args.word.now) (sym c.long_columns-columns.ensures) c.requires

many : (c : goal.After-long_columns-columns) → length c.long_columns-columns.result ≡ 64
many c = ap length c.long_columns-columns.ensures ∙ length_columns 8 c.args.series long_curve

pub interpolate_in_y-requires : goal.interpolate_in_y-requires
interpolate_in_y-requires c =
    (over (goal.at.interpolate_in_y-requires c).After-long_columns-columns, omega (arith, many (goal.at.interpolate_in_y-requires c).After-long_columns-columns), λ i. get_or_zeros 1024 i)

pub returns : goal.returns
returns c =
    let z = c.interpolate in
    let y = c.interpolate_in_y in
    let word = c.args.word.now in
    let h = over (goal.at.returns c).After-long_columns-columns in
    let g =
    grid_of 8 _ word h y.new.work z.new.work y.ensures (omega (arith, z.auto.work, y.auto.work, many (goal.at.returns c).After-long_columns-columns)) z.ensures in
    let k = c.copy in (
      subst (λ (l : List ℕ). GridInFront 8 l word k.new.dst) c.long_columns-columns.ensures
          (grid_copied 8 _ word h z.new.work _ _ g (omega (arith, h.long, many (goal.at.returns c).After-long_columns-columns)) (λ i. get_or_zeros 512 i) k.ensures),
      k.auto.dst ∙ length-replicate {A = ℕ} 512 0,
    )
