-- `code::unencoding::interpolate_over` meets its contract: both stages leave the grid of the word.
-- Assumes nothing.
use mathlib.Core.List.{List}
use mathlib.Core.Path.{◌≡◌, sym, ◌∙◌, subst}
use Prim.Native.Nat.{ℕ, ◌*◌, ◌≤◌}
use native.Mathlib.Omega.{arith}
use lib.ListN.{length, length-replicate}
use Rattle.field.proofs.Curves.{short_sizes}
use Rattle.field.proofs.Fields.{field_of}
use Rattle.poly.specs.Inner.Interpolation.{Joinable, Interpolated}
use Rattle.poly.proofs.Entries.{zeros, get_or_zeros, take_zeros}
use Rattle.poly.proofs.Fronts.{lent_long, front_again, again_long, part_is}
use Rattle.code.specs.Inner.Readable.{GridOf}
use Rattle.code.proofs.Stages.{columns_short, short_narrow}
use Rattle.code.proofs.WordGrids.{word_fits, joinable, grid_of, grid_copied}
use Rattle.code.proofs.unencoding.interpolate_over.Goals as goal
use Rattle.code.proofs.unencoding.interpolate_over.Goals.{After-interpolate, After-interpolate_in_y, Start}

-- the part of work that is lent, twice
few : (c : goal.Start) → 16 * length c.args.columns.now ≤ 256
few c = omega (arith, c.requires.word_over.0.few, (short_sizes c.args.q c.requires.word_over.1).symbols)

-- the rows that the first stage leaves, which are lent again
rows_long : (c : goal.After-interpolate_in_y) → let x = c.args in
    length c.interpolate_in_y.new.work ≡ 16 * length x.columns.now
rows_long c = c.interpolate_in_y.auto.work ∙ lent_long 256 _ (few (goal.at.After-interpolate_in_y c).Start)

work_long : (c : goal.After-interpolate) → let x = c.args in
    length c.interpolate.new.work ≡ 16 * length x.columns.now
work_long c =
    c.interpolate.auto.work ∙ again_long _ c.interpolate_in_y.new.work _ (rows_long (goal.at.After-interpolate c).After-interpolate_in_y)

pub interpolate_in_y-requires : goal.interpolate_in_y-requires
interpolate_in_y-requires c =
    (c.requires.word_over.0, omega (arith, lent_long 256 _ (few (goal.at.interpolate_in_y-requires c).Start)), λ i. take_zeros 256 (16 * length c.args.columns.now) i)

pub interpolate-requires : goal.interpolate-requires
interpolate-requires c =
    let q = c.args.q in
    let l = c.args.columns.now in
    let h = c.requires.word_over.0 in
    let rows = c.interpolate_in_y.new.work in record {
      joinable = (
        subst (Joinable (field_of q) q l) (sym (front_again _ rows _ (rows_long (goal.at.interpolate-requires c).After-interpolate_in_y)))
            (joinable q l c.args.word.now h rows (rows_long (goal.at.interpolate-requires c).After-interpolate_in_y) c.interpolate_in_y.ensures),
        c.requires.word_over.2,
        h.over.distinct,
      );
      w_bound = short_narrow q _ h.over.curve h.few;
      vanishing_tree = c.requires.vanishing_tree;
    }

pub returns : goal.returns
returns c =
    let q = c.args.q in
    let word = c.args.word.now in
    let l = c.args.columns.now in
    let h = c.requires.word_over.0 in
    let rows = c.interpolate_in_y.new.work in
    let work = c.interpolate.new.work in
    let k = c.copy in
    let second = subst (λ (rows : List ℕ). Interpolated (field_of q) 16 q l rows work) (front_again _ rows _ (rows_long (goal.at.returns c).After-interpolate_in_y)) c.interpolate.ensures in
    let g = grid_of q l word h rows work c.interpolate_in_y.ensures (work_long (goal.at.returns c).After-interpolate) second in
    let front = subst (GridOf q l word) (sym (part_is _ work _ (work_long (goal.at.returns c).After-interpolate) (length word) (word_fits q l word h))) g in (
      grid_copied q l word h _ (zeros 64) _ front (omega (arith, columns_short q l h.over c.requires.word_over.1 h.few, h.long)) (λ i. get_or_zeros 64 i) k.ensures,
      k.auto.dst ∙ length-replicate {A = ℕ} 64 0,
    )
