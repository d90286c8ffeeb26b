-- `page::pages` meets its contract. The invariant of its loop: the pages of the first k records are written, and the others are left.
-- Assumes nothing.
use mathlib.Core.Path.{◌≡◌, refl, sym, ap, ◌∙◌}
use mathlib.Core.List.{[], ◌∷◌, ◌++◌}
use Prim.Native.Nat.{ℕ, ◌+◌, ◌*◌, ◌/◌, ◌≤◌}
use native.Mathlib.Omega.{arith}
use lib.ListN.{length, length-append, length-drop}
use Rattle.std.specs.Slice.Iter.{chunks_exact_rest, chunks_exact_size}
use Rattle.lines.specs.Page.{record_page, pages_of}
use Rattle.lines.proofs.Texts.{joined_none, joined_more}
use Rattle.lines.proofs.Chunks.{record_taken, record_dropped, length_whole}
use Rattle.lines.proofs.page.pages.Goals as goal

pub loop-block-init : goal.loop-block-init
loop-block-init c =
    let start = c.into_iter-block-iterator.ensures.into_iter_gives in
    let chunks = c.chunks_exact-block-items.ensures in record {
      size = ap chunks_exact_size start ∙ chunks.size;
      left = ap chunks_exact_rest start ∙ chunks.rest;
      begun = omega arith;
      place = refl;
      long = refl;
      written = joined_none _ _ _;
    }

pub page-used-requires : goal.page-used-requires
page-used-requires c =
    let taken = rw c.in-Some.is at c.next.ensures.steps in
    let l = c.loop-block.invariant in
    let more : 64 * length c.loop-block.yielded + 64 ≤ length c.args.blocks.now
    = omega (arith, taken, l, ap length l.left, ap length taken.1.0, length-drop {A = ℕ}, length-append {A = ℕ}) in
    (taken.1.1 ∙ l.size, omega (arith, l, more))

pub loop-block-preserved : goal.loop-block-preserved
loop-block-preserved c =
    let blocks = c.args.blocks.now in
    let taken = rw c.in-Some.is at c.next.ensures.steps in
    let l = c.loop-block.invariant in
    let r = c.page-used in
    let k = length c.loop-block.yielded in
    let count : length (c.loop-block.yielded ++ (c.in-Some.block ∷ [])) ≡ k + 1 = length-append _ _ in
    let long = length_whole _ _ _ _ taken.1.0 taken.1.1 in
    let is = record_taken blocks _ _ _ k _ l.size l.left taken.1.0 long in
    record {
      size = taken.0 ∙ l.size;
      left = rw count (record_dropped blocks _ _ _ k _ l.size l.left taken.1.0 long);
      begun = rw count (omega (arith, ap length l.left, ap length taken.1.0, length-drop {A = ℕ}, length-append {A = ℕ}));
      place = rw count (omega arith);
      long = r.auto.out ∙ l.long;
      written = rw count (joined_more (record_page blocks) l.written (rw (sym is) r.ensures.0));
    }

pub returns : goal.returns
unfolding pages_of
returns c =
    let none = rw c.in-None.is at c.next.ensures.steps in
    let l = c.loop-block.invariant in
    let all : length c.loop-block.yielded ≡ length c.args.blocks.now / 64 = omega (arith, ap length l.left, length-drop {A = ℕ}) in
    (rw (sym all) l.written, omega arith)
