-- `systematic::term_words::write_product` meets its contract: the one is copied, and the other multiplied in.
-- Assumes nothing.
use mathlib.Core.Path.{sym, ap, ◌∙◌}
use Prim.Native.Nat.{ℕ, ◌%◌}
use Rattle.field.proofs.Fields.{field_of}
use Rattle.systematic.proofs.TermRows.{product_written, copied_row}
use Rattle.systematic.proofs.term_words.write_product.Goals as goal

pub multiply-requires : goal.multiply-requires
multiply-requires c =
    let a = c.args in
    let w = copied_row (field_of a.q).size a.a.now a.out.now _ c.requires.a_len.0 c.requires.a_len.2 c.copy.ensures c.requires.below.0 in
    record {
      row_len = (ap (λ (n : ℕ). n % 16) w.0, c.requires.a_len.1 ∙ sym w.0, c.requires.a_len.3);
      below = (c.requires.below.1, w.1);
    }

pub returns : goal.returns
returns c =
    let a = c.args in
    product_written a.q a.a.now a.b.now a.out.now _ _ c.requires.a_len.0 c.requires.a_len.2 c.copy.ensures c.multiply.ensures
