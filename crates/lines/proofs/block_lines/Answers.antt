-- `block_lines` meets its contract. The invariant of its loop: the lines of the first k records are written, and the others are left.
-- Assumes nothing.
use mathlib.Core.Path.{◌≡◌, refl, sym, ap, ◌∙◌}
use Prim.Native.Nat.{ℕ, ◌+◌, ◌*◌, ◌≤◌}
use native.Mathlib.Omega.{arith}
use lib.ListN.{length, length-drop}
use Rattle.std.specs.Iterator.Adapters.{enumerate_source, enumerate_count}
use Rattle.std.specs.Slice.Iter.{chunks_rest, chunks_size}
use Rattle.lines.specs.Line.{numbered_line}
use Rattle.lines.proofs.Texts.{joined_none, joined_more}
use Rattle.lines.proofs.Chunks.{record_taken, record_dropped}
use Rattle.lines.proofs.Lines.{lines_end}
use Rattle.lines.proofs.block_lines.Goals as goal

pub loop-k-init : goal.loop-k-init
loop-k-init c =
    let start = c.into_iter-k-iterator.ensures.into_iter_gives in
    let numbered = c.enumerate-k-items.ensures in
    let chunks = c.chunks.ensures in
    let count = ap enumerate_count start ∙ numbered.count in
    let source = ap enumerate_source start ∙ numbered.source in record {
      size = ap chunks_size source ∙ chunks.size;
      left = rw count (ap chunks_rest source ∙ chunks.rest);
      begun = rw count (omega arith);
      fits = omega arith;
      long = refl;
      written = rw count (joined_none _ _ _);
    }

pub line-used-requires : goal.line-used-requires
line-used-requires c =
    let l = c.loop-k.invariant in
    let taken = rw c.in-Some.is at c.next.ensures.steps in
    omega (arith, ap length l.left, length-drop {A = ℕ})

pub loop-k-preserved : goal.loop-k-preserved
loop-k-preserved c =
    let blocks = c.args.blocks.now in
    let l = c.loop-k.invariant in
    let line = c.line-used in
    let taken = rw c.in-Some.is at c.next.ensures.steps in
    let k = enumerate_count c.loop-k.k-iterator in
    let count : enumerate_count c.next.new.self ≡ k + 1 = taken.2 in
    let is = record_taken blocks _ _ _ k _ l.size l.left taken.0.1.0 taken.0.1.1 in
    record {
      size = taken.0.0 ∙ l.size;
      left = rw count (record_dropped blocks _ _ _ k _ l.size l.left taken.0.1.0 taken.0.1.1);
      begun = omega (arith, ap length l.left, length-drop {A = ℕ});
      fits = omega arith;
      long = line.auto.out ∙ l.long;
      written = rw count (joined_more (numbered_line c.args.first blocks) l.written (rw (sym is, sym taken.1) line.ensures.0));
    }

pub returns : goal.returns
returns c =
    let blocks = c.args.blocks.now in
    let l = c.loop-k.invariant in
    let none = rw c.in-None.is at c.next.ensures.steps in
    let k = enumerate_count c.loop-k.k-iterator in
    let all : length blocks ≤ 64 * k = omega (arith, ap length l.left, length-drop {A = ℕ}) in
    (rw (sym (lines_end c.args.first blocks k l.begun all)) l.written, omega arith)
