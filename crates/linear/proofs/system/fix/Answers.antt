-- `linear::system::fix` meets its contract: what it brings in is the equation "unknown p is 1", which no system without row p excludes.
-- Assumes nothing.
use native.Mathlib.Omega.{arith}
use Rattle.linear.proofs.FreeUnknowns.{unit_length, unit_list_unit, unit_list_equation, unit_fixed}
use Rattle.linear.proofs.system.fix.Goals as goal

pub bring_in-requires : goal.bring_in-requires
bring_in-requires c =
    let n = unit_length 64 c.args.k c.args.p c.requires.well_formed.1 (omega arith) in record {
      well_formed = (c.requires.well_formed.0, unit_list_equation 64 c.args.k c.args.p c.requires.well_formed.1 (omega arith) _, c.requires.well_formed.3);
      k_bound = (c.requires.k_bound.0, c.requires.k_bound.1, rw n c.requires.k_bound.2);
    }

pub returns : goal.returns
returns c =
    let b = c.bring_in in record {
      well_formed_2 = b.ensures.well_formed_2;
      fixed = unit_fixed _ c.args.stride c.args.k c.args.p _ (unit_list_unit 64 c.args.k c.args.p c.requires.well_formed.1 (omega arith))
          c.requires.well_formed.1 c.args.work.now _ c.requires.well_formed.0 c.requires.well_formed.2 b.result b.ensures.brought;
    }
