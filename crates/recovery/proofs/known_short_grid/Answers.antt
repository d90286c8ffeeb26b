-- `recovery::known_short_grid` meets its contract: the word with 0 at each gap is interpolated.
-- Assumes nothing.
use mathlib.Core.List.{List}
use mathlib.Core.Path.{◌≡◌, sym, ◌∙◌, subst}
use Prim.Native.Nat.{ℕ, ◌≤◌}
use lib.ListN.{length}
use Rattle.poly.proofs.Fronts.{lent_long, front_again}
use Rattle.points.specs.Series.{columns_of}
use Rattle.code.specs.Inner.Readable.{WordOver, GridInFront}
use Rattle.recovery.proofs.KnownGrids.{filled_over, known_grid}
use Rattle.recovery.proofs.GapAnswers.{short_places}
use Rattle.recovery.proofs.known_short_grid.Goals as goal
use Rattle.recovery.proofs.known_short_grid.Goals.{After-fill, Start}

-- the word fits the array
few : (c : goal.Start) → length c.args.word.now ≤ 64
few c = (short_places _ _ _ _ c.requires.0 c.requires.1).1

-- what is lent, filled and lent again
filled_is : (c : goal.After-fill) → length c.fill.new.out ≡ length c.args.word.now
filled_is c = c.fill.auto.out ∙ lent_long 64 _ (few (goal.at.After-fill c).Start)

pub interpolate_short-requires : goal.interpolate_short-requires
interpolate_short-requires c =
    let q = c.args.q in
    let series = c.args.series in (
      subst (WordOver q (columns_of q series)) (sym (front_again _ c.fill.new.out _ (filled_is (goal.at.interpolate_short-requires c).After-fill)))
          (filled_over q _ _ c.requires.0 _ _ (lent_long 64 _ (few (goal.at.interpolate_short-requires c).Start)) c.fill.ensures),
      c.requires.1,
    )

pub returns : goal.returns
returns c =
    let q = c.args.q in
    let series = c.args.series in
    let r = c.interpolate_short in (
      known_grid q _ _ c.requires.0 _ _ (lent_long 64 _ (few (goal.at.returns c).Start)) c.fill.ensures _
          (subst (λ (l : List ℕ). GridInFront q (columns_of q series) l r.result) (front_again _ c.fill.new.out _ (filled_is (goal.at.returns c).After-fill)) r.ensures.0),
      r.ensures.1,
    )
