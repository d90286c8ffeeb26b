-- `linear::system::bring_in` meets its contract: by cases of what `reduce` answers, each a lemma of `Bringing`.
-- Assumes nothing.
use mathlib.Core.Path.{refl}
use Prim.Native.Nat.{◌<◌}
use native.Mathlib.Omega.{arith}
use Rattle.linear.proofs.Bringing.{redundant, contradiction, pivot_formed, pivot_rank, pivot_joined}
use Rattle.linear.proofs.system.bring_in.Goals as goal

pub returns-then-row-k-eq0 : goal.returns-then-row-k-eq0
returns-then-row-k-eq0 c =
    let r = c.reduce-p in record {
      well_formed_2 = c.requires.well_formed.0;
      brought = (redundant _ c.args.k _ c.args.row.now _ (rw c.if-p-eq0.true at r.ensures.reducing) c.if-row-k-eq0.true, refl);
    }

pub returns-then-p-eq0 : goal.returns-then-p-eq0
returns-then-p-eq0 c =
    let r = c.reduce-p in record {
      well_formed_2 = c.requires.well_formed.0;
      brought = (contradiction _ c.args.k _ c.args.row.now _ (rw c.if-p-eq0.true at r.ensures.reducing) c.if-row-k-eq0.false, refl);
    }

pub returns : goal.returns
returns c =
    let r = c.reduce-p in
    let R = r.ensures in
    let pos : 0 < r.result = omega (arith, c.if-p-eq0.false) in
    let w = c.args.work.now in
    let e = c.place.ensures in record {
      well_formed_2 = rw e (pivot_formed _ c.args.stride c.args.k w c.args.row.now _ _ R pos c.requires.well_formed.0 c.requires.well_formed.1);
      brought = (
        rw e (pivot_joined _ c.args.stride c.args.k w c.args.row.now _ _ R pos c.requires.well_formed.0 c.requires.well_formed.1),
        rw e (pivot_rank _ c.args.stride c.args.k w c.args.row.now _ _ R pos c.requires.well_formed.0 c.requires.well_formed.1),
      );
    }
