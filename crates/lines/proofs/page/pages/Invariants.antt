-- `page::pages` meets its contract. The invariant of its loop: the pages of the first k records are written, and the others are left.
use mathlib.Core.Path.{◌≡◌}
use Prim.Native.Nat.{◌*◌, ◌≤◌}
use lib.ListN.{length, drop}
use Rattle.std.specs.Slice.Iter.{chunks_exact_rest, chunks_exact_size}
use Rattle.lines.specs.Text.{joined, Written}
use Rattle.lines.specs.Page.{record_page}
use Rattle.lines.proofs.page.pages.Given as goal

abbrev pub invariant-loop-block : goal.invariant-loop-block
invariant-loop-block l =
    let k = length l.yielded in record {
      size : chunks_exact_size l.block-iterator ≡ 64;
      left : chunks_exact_rest l.block-iterator ≡ drop (64 * k) l.blocks;
      begun : 64 * k ≤ length l.blocks;
      place : l.used ≡ 323 * k;
      long : length l.out ≡ length l.initial.out;
      written : Written l.initial.out 0 (joined (record_page l.blocks) k) l.used l.out;
    }
