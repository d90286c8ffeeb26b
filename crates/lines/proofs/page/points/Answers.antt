-- `page::points` meets its contract. The invariant of its loop: the first s points are written.
-- Assumes nothing.
use mathlib.Core.Path.{refl, sym, ◌∙◌}
use native.Mathlib.Omega.{arith}
use Rattle.lines.specs.Page.{point_text}
use Rattle.lines.proofs.Texts.{joined_none, joined_more}
use Rattle.lines.proofs.Pages.{point_at}
use Rattle.lines.proofs.page.points.Goals as goal

pub loop-s-init : goal.loop-s-init
loop-s-init c = (omega arith, omega arith, refl, joined_none _ _ _)

pub loop-s-preserved : goal.loop-s-preserved
loop-s-preserved c =
    let l = c.loop-s in
    let test = c.loop-s-test in
    let y = c.hex_digit-y in
    let v = c.character-symbol in
    let t = c.bytes-end in
    let a = c.args in
    let point =
    point_at a.block.now a.ys.now a.x l.s y.result v.result c.requires.1 c.requires.0 test.true y.ensures v.ensures in (
      omega arith,
      omega (arith, t.ensures.ends, l.invariant.1),
      t.auto.out ∙ l.invariant.2,
      joined_more (point_text a.block.now a.x) l.invariant.3 (rw (sym point) t.ensures),
    )
