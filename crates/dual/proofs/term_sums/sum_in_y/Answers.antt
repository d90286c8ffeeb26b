-- `dual::term_sums::sum_in_y` meets its contract: each turn adds one symbol of every column, times its y to each power.
-- Assumes nothing.
use mathlib.Core.Path.{refl, sym, ap, ◌∙◌, subst}
use Prim.Native.Nat.{◌+◌, ◌*◌}
use native.Mathlib.Omega.{arith}
use lib.ListN.{length}
use Rattle.field.proofs.Fields.{field_of}
use Rattle.poly.specs.Inner.Ranges.{Below}
use Rattle.poly.proofs.LaneLaws.{length_lanes, lanes_below}
use Rattle.dual.proofs.StagedSums.{summed_none, summed_turn}
use Rattle.dual.proofs.term_sums.sum_in_y.Goals as goal

pub loop-s-init : goal.loop-s-init
loop-s-init c =
    let x = c.args in
    (omega arith, refl, summed_none x.q x.columns.now x.word.now c.requires.staged.2 x.rows.now c.requires.q_in_bounds.1)

pub add_powers-requires : goal.add_powers-requires
add_powers-requires c =
    let x = c.args in
    let l = c.loop-s in
    let values = c.take_symbols-values.ensures in record {
      below = (
        c.take_ys-ys.ensures.1,
        subst (Below (field_of x.q).size) (sym values) (lanes_below _ (field_of x.q).size (λ t k. c.requires.staged.0.symbols (x.q * t + l.s))),
        l.invariant.2.symbols,
      );
      values_len = (ap length values ∙ length_lanes _, omega (arith, l.invariant.1, c.requires.q_in_bounds.0));
    }

pub loop-s-preserved : goal.loop-s-preserved
loop-s-preserved c =
    let x = c.args in
    let l = c.loop-s in
    let e = c.add_powers in
    let ys = c.take_ys-ys in
    let values = c.take_symbols-values in (
      omega (arith, c.loop-s-test.true),
      e.auto.rows ∙ l.invariant.1,
      summed_turn x.q x.columns.now x.word.now c.requires.staged.2 l.s l.rows ys.result values.result e.new.rows l.invariant.2
          ys.ensures.0 values.ensures e.ensures.0 e.ensures.1,
    )
