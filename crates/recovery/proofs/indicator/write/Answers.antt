-- `recovery::indicator::write` meets its contract: the blocks of sixteen, and the factors in y added to the first entries.
-- Assumes nothing.
use mathlib.Core.Path.{refl}
use native.Mathlib.Omega.{arith}
use Rattle.field.proofs.Fields.{field_of}
use Rattle.field.proofs.FieldLaws.{zero_lt}
use Rattle.field.proofs.Curves.{sizes}
use Rattle.poly.proofs.LaneLaws.{lanes_below}
use Rattle.recovery.proofs.IndicatorBlocks.{taken_symbols, grid_room, point_written}
use Rattle.recovery.proofs.indicator.write.Goals as goal

pub multiply-last-requires : goal.multiply-last-requires
multiply-last-requires c =
    let n = (field_of c.args.q).size in (
      taken_symbols n _ c.args.powers.now _ c.requires.curve.2.symbols c.take-xs.ensures,
      taken_symbols n _ c.args.factors.now _ c.requires.curve.1.symbols c.take-ys.ensures,
    )

pub times-c-requires : goal.times-c-requires
times-c-requires c =
    let q = c.args.q in (
      omega (arith, c.requires.curve.3, (sizes q c.requires.curve.0).size),
      taken_symbols (field_of q).size _ c.args.powers.now _ c.requires.curve.2.symbols c.take-xs.ensures 0,
    )

pub write_blocks-requires : goal.write_blocks-requires
write_blocks-requires c =
    let F = field_of c.args.q in record {
      c_bound = (
        rw c.times-c.ensures (F.times_lt _ _),
        rw c.multiply-last.ensures (lanes_below _ F.size (λ t l. F.times_lt _ _)),
      );
      count_in_bounds = (c.requires.q_in_bounds.0, λ i. rw (c.requires.q_in_bounds.1 i) (zero_lt F));
    }

pub returns : goal.returns
returns c =
    let a = c.args in
    let h = c.requires.curve in
    let b = c.write_blocks in
    let all =
    point_written a.q h.0 a.factors.now a.powers.now h.1 h.2 a.x a.y h.3 h.4 _ _ c.take-ys.ensures
    c.take-xs.ensures _ _ _ a.grid.now _ _ c.multiply-last.ensures
    c.times-c.ensures refl c.requires.q_in_bounds.1 b.ensures
    (omega (arith, grid_room a.q h.0, c.requires.q_in_bounds.0, b.auto.grid)) c.add.ensures in
    record { blocks = all.0; by_index = all.1 }
