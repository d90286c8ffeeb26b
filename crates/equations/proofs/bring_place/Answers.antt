-- `code::equation::bring_place` meets its contract: the equation of the place is brought in.
-- Assumes nothing.
use mathlib.Core.Path.{◌≡◌, sym, ap, ◌∙◌, subst}
use Prim.Native.Nat.{ℕ, ◌+◌, ◌*◌, ◌/◌, ◌%◌, ◌<◌}
use native.Mathlib.Omega.{arith}
use lib.ListN.{length, get_or}
use Rattle.field.proofs.Fields.{field_of}
use Rattle.field.proofs.Curves.{short_not_long}
use Rattle.poly.specs.Inner.Linear.{entry}
use Rattle.linear.specs.Inner.Systems.{WellFormed, Equation, Brought}
use Rattle.points.specs.Points.{ys_of}
use Rattle.code.specs.Terms.{size}
use Rattle.code.proofs.GridEntries.{length_entries}
use Rattle.code.proofs.PlacePoints.{place_point}
use Rattle.equations.proofs.Equations.{equation_formed, place_brought}
use Rattle.equations.proofs.bring_place.Goals as goal
use Rattle.equations.proofs.bring_place.Goals.{After-ys-ys}

-- the point of the place
point : (c : goal.After-ys-ys) → let x = c.args in let d = c.divide-d.result in
    (d.whole < length x.columns.now) × (x.q * get_or x.columns.now d.whole 0 + d.rest < x.q * x.q * x.q)
    × (get_or c.ys-ys.result (x.q * get_or x.columns.now d.whole 0 + d.rest) 0
    ≡ get_or (ys_of x.q (get_or x.columns.now (x.p / x.q) 0)) (x.p % x.q) 0)
point c =
    place_point c.args.q c.args.columns.now c.requires.columns.0 c.args.p _ _ c.divide-d.ensures c.requires.columns.1
    c.ys-ys.result c.ys-ys.ensures

-- its x is one of the columns
x_is : (c : goal.After-ys-ys) → let x = c.args in
    get_or x.columns.now c.divide-d.result.whole 0 ≡ get_or x.columns.now (x.p / x.q) 0
x_is c = ap (λ (i : ℕ). get_or c.args.columns.now i 0) c.divide-d.ensures.0

pub bring_in-requires : goal.bring_in-requires
bring_in-requires c =
    let x = c.args in
    let e = c.write_equation in
    let is_k = sym (ap length c.requires.columns.3 ∙ length_entries x.q x.m) in
    let room = c.requires.well_formed.room in
    let long : size x.q x.m < length e.new.row = omega (arith, e.auto.row, room) in record {
      well_formed = (
        subst (λ (k : ℕ). WellFormed (field_of x.q) 64 k x.work.now) is_k c.requires.well_formed,
        subst (λ (k : ℕ). Equation (field_of x.q) k e.new.row) is_k
            (equation_formed x.q x.columns.now x.m x.p x.s _ _ _ e.ensures (x_is (goal.at.bring_in-requires c).After-ys-ys) (point (goal.at.bring_in-requires c).After-ys-ys).2 c.requires.columns.4 long),
        short_not_long x.q c.requires.columns.5,
      );
      k_bound = (omega arith, omega (arith, is_k, room), omega (arith, is_k, room, e.auto.row));
    }

pub returns : goal.returns
returns c =
    let x = c.args in
    let b = c.bring_in in
    let e = c.write_equation in
    let is_k = ap length c.requires.columns.3 ∙ length_entries x.q x.m in
    let work = b.new.work in record {
      well_formed_2 = subst (λ (k : ℕ). WellFormed (field_of x.q) 64 k work) is_k b.ensures.well_formed_2;
      brought = place_brought x.q x.columns.now x.m x.p x.s _ _ _ e.ensures (x_is (goal.at.returns c).After-ys-ys) (point (goal.at.returns c).After-ys-ys).2 x.work.now work b.result
          (subst (λ (k : ℕ). Brought (field_of x.q) 64 k x.work.now (entry e.new.row) work b.result) is_k
          b.ensures.brought);
    }
