-- `systematic::term_words::write_words` meets its contract: the powers, and their products.
-- Assumes nothing.
use Prim.Native.Nat.{◌+◌, ◌*◌, ◌≤◌}
use native.Mathlib.Omega.{arith}
use Rattle.field.proofs.Fields.{field_of}
use Rattle.field.proofs.FieldLaws.{zero_lt}
use Rattle.field.proofs.Curves.{short_sizes, short_not_long}
use Rattle.poly.proofs.Entries.{below_zeros}
use Rattle.systematic.proofs.TermRows.{rows_room, words_written}
use Rattle.systematic.proofs.term_words.write_words.Goals as goal
use Rattle.systematic.proofs.term_words.write_words.Goals.{After-divide-last}

-- the rows of powers of x
room : (c : goal.After-divide-last) → 64 * (c.divide-last.result.whole + 1) ≤ 1024
room c = rows_room c.args.q c.requires.short.0 c.args.m _ c.requires.short.1 c.divide-last.ensures.0

pub write_powers-requires : goal.write_powers-requires
write_powers-requires c =
    let F = field_of c.args.q in
    record {
      base_len = (c.requires.xs_len.0, c.requires.xs_len.2, short_not_long c.args.q c.requires.short.0);
      count_in_bounds = (room (goal.at.write_powers-requires c).After-divide-last, below_zeros F.size 1024 (zero_lt F));
    }

pub write_powers-requires-2 : goal.write_powers-requires-2
write_powers-requires-2 c =
    let F = field_of c.args.q in
    let z = short_sizes c.args.q c.requires.short.0 in
    record {
      base_len = (c.requires.xs_len.1, c.requires.xs_len.3, short_not_long c.args.q c.requires.short.0);
      count_in_bounds = (omega (arith, z.high), below_zeros F.size 256 (zero_lt F));
    }

pub returns : goal.returns
returns c columns room points =
    let a = c.args in
    words_written a.q c.requires.short.0 a.m a.k _ a.xs.now a.ys.now _ _ _ c.requires.short.2
    c.divide-last.ensures.0
    columns room points c.write_powers.ensures c.write_powers-2.ensures c.write_products.ensures
