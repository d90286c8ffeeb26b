-- `systematic::term_words::write_products` meets its contract. The invariant of its loop: the rows of the terms below t are written.
-- Assumes nothing.
use native.Mathlib.Omega.{arith}
use Rattle.systematic.proofs.TermRows.{PowersOf, powers_of}
use Rattle.systematic.proofs.TermRows.{products_more}
use Rattle.systematic.proofs.term_words.write_products.Goals as goal
use Rattle.systematic.proofs.term_words.write_products.Goals.{After-divide-d}

-- the powers of the term
powers : (c : goal.After-divide-d) → let a = c.args in let d = c.divide-d.result in
    PowersOf a.q a.m c.loop-t.t d.whole d.rest a.xpowers.now a.ypowers.now
powers c =
    let a = c.args in
    powers_of a.q c.requires.short.0 a.m a.k c.loop-t.t _ _ _ a.xpowers.now a.ypowers.now c.requires.short.1 c.requires.short.2
    c.loop-t-test.true c.entry-e.ensures c.divide-d.ensures c.requires.q_in_bounds.0 c.requires.q_in_bounds.1

pub overflow_mul-a : goal.overflow_mul-a
overflow_mul-a c = omega (arith, (powers (goal.at.overflow_mul-a c).After-divide-d).x_small)

pub overflow_add-a_end : goal.overflow_add-a_end
overflow_add-a_end c = omega (arith, (powers (goal.at.overflow_add-a_end c).After-divide-d).x_small)

pub slice_bounds-write_product-end : goal.slice_bounds-write_product-end
slice_bounds-write_product-end c = (powers (goal.at.slice_bounds-write_product-end c).After-divide-d).x_fits

pub loop-t-preserved : goal.loop-t-preserved
loop-t-preserved c =
    let a = c.args in
    let l = c.loop-t in
    products_more a.q a.m a.xpowers.now a.ypowers.now a.vectors.now l.vectors l.at l.t a.k l.invariant
    c.loop-t-test.true c.requires.short.3 _ _ (powers (goal.at.loop-t-preserved c).After-divide-d) _ c.write_product.ensures
