-- `mend::locator::bring_entry` meets its contract: the equation, whose right-hand side is 0, never contradicts. Assumes nothing.
use mathlib.Core.Path.{◌≡◌, ◌∙◌}
use native.Mathlib.Omega.{arith}
use lib.ListN.{length}
use Rattle.poly.specs.Inner.Ranges.{writes}
use Rattle.poly.proofs.Entries.{zeros}
use Rattle.mend.specs.Inner.Products.{entry_from}
use Rattle.mend.proofs.HeavyEntries.{row_gathered, row_equation, brought_more}
use Rattle.mend.proofs.locator.bring_entry.Goals as goal
use Rattle.mend.proofs.locator.bring_entry.Goals.{After-gather_listed}

-- the row has the entries of the terms' grids
gathered : (c : goal.After-gather_listed) → let x = c.args in
    c.gather_listed.new.out ≡ writes (zeros 32) (length x.starts.now) (entry_from x.starts.now x.grids.now x.e)
gathered c =
    let x = c.args in
    c.gather_listed.ensures ∙ row_gathered x.starts.now x.grids.now x.e c.requires.e_in_bounds (λ n l. (c.requires.by_index n l).0)

pub bring_in-requires : goal.bring_in-requires
bring_in-requires c =
    let x = c.args in
    let room = c.requires.well_formed.0.room in record {
      well_formed = (
        c.requires.well_formed.0,
        row_equation x.q (length x.starts.now) (entry_from x.starts.now x.grids.now x.e) _ room (gathered (goal.at.bring_in-requires c).After-gather_listed)
            (λ n l. (c.requires.by_index n l).1),
        c.requires.well_formed.2,
      );
      k_bound = (omega arith, omega (arith, room), omega (arith, room, c.gather_listed.auto.out));
    }

pub returns : goal.returns
returns c =
    let x = c.args in
    let b = c.bring_in in record {
      well_formed_2 = b.ensures.well_formed_2;
      holds_more = brought_more x.q (length x.starts.now) (entry_from x.starts.now x.grids.now x.e) _ c.requires.well_formed.0.room (gathered (goal.at.returns c).After-gather_listed)
          x.work.now _ b.result c.requires.well_formed.1 b.ensures.brought;
    }
