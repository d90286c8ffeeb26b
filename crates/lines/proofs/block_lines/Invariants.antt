-- `block_lines` meets its contract. The invariant of its loop: the lines of the first k records are written, and the others are left.
use mathlib.Core.Path.{◌≡◌}
use Prim.Native.Nat.{◌+◌, ◌*◌, ◌≤◌, ◌<◌}
use lib.ListN.{length, drop}
use Rattle.std.specs.Iterator.Adapters.{enumerate_source, enumerate_count}
use Rattle.std.specs.Slice.Iter.{chunks_rest, chunks_size}
use Rattle.lines.specs.Text.{joined, Written}
use Rattle.lines.specs.Line.{numbered_line}
use Rattle.lines.proofs.block_lines.Given as goal

abbrev pub invariant-loop-k : goal.invariant-loop-k
invariant-loop-k l =
    let k = enumerate_count l.k-iterator in
    let chunks = enumerate_source l.k-iterator in record {
      size : chunks_size chunks ≡ 64;
      left : chunks_rest chunks ≡ drop (64 * k) l.blocks;
      begun : 64 * k < length l.blocks + 64;
      fits : l.used ≤ 66 * k;
      long : length l.out ≡ length l.initial.out;
      written : Written l.initial.out 0 (joined (numbered_line l.first l.blocks) k) l.used l.out;
    }
