-- `code::encoding::write_word_over` meets its contract: the two stages leave the word.
-- Assumes nothing.
use mathlib.Core.Path.{refl}
use Prim.Native.Nat.{◌+◌, ◌/◌}
use native.Mathlib.Omega.{arith}
use Rattle.field.proofs.Fields.{field_of}
use Rattle.field.proofs.FieldLaws.{zero_lt}
use Rattle.field.proofs.Curves.{short_sizes}
use Rattle.poly.proofs.Entries.{below_zeros}
use Rattle.code.specs.Inner.Grid.{scatter}
use Rattle.code.proofs.Stages.{columns_short, columns_grid, stages, encodable_word}
use Rattle.code.proofs.encoding.write_word_over.Goals as goal

pub evaluate_message-requires : goal.evaluate_message-requires
evaluate_message-requires c =
    let F = field_of c.args.q in record {
      encodable = (encodable_word _ _ _ _ _ c.requires.0, c.requires.1);
      below = (below_zeros F.size 64 (zero_lt F), omega (arith, (short_sizes c.args.q c.requires.1).high));
    }

pub returns : goal.returns
returns c =
    let x = c.args in
    let h = c.requires.0 in
    let e = c.evaluate_message in
    let w = c.evaluate_short_columns in
    stages x.q x.columns.now x.m x.message.now x.word.now h 64 (x.m / x.q + 1) (scatter x.q 64 x.m x.message.now) w.new.word
    (columns_short x.q x.columns.now h.over c.requires.1 h.few) refl refl w.auto.word
    (columns_grid x.q x.columns.now (omega (arith, h.few, (short_sizes x.q c.requires.1).symbols)) (x.m / x.q + 1) _ _ _ e.ensures w.ensures)
