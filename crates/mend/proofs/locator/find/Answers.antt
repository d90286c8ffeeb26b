-- `mend::locator::find` meets its contract: a solution of the equations other than 0 locates. Assumes nothing.
use mathlib.Core.Path.{◌≡◌, refl, sym, ap, ◌∙◌}
use Prim.Native.Nat.{ℕ, ◌+◌, ◌/◌, ◌<◌}
use native.Mathlib.Omega.{arith}
use lib.ListN.{length, take, length-replicate}
use lib.Seq.{length-take-le}
use Rattle.field.proofs.Curves.{short_sizes}
use Rattle.poly.proofs.Entries.{get_or_zeros}
use Rattle.code.specs.Terms.{size}
use Rattle.mend.specs.Inner.Locating.{reach}
use Rattle.mend.proofs.Dimensions.{reach_size, reach_short, reach_count, reach_grids}
use Rattle.mend.proofs.ProductTerms.{Prepared, starts_taken, readable, heavy_low, located}
use Rattle.mend.proofs.locator.find.Goals as goal
use Rattle.mend.proofs.locator.find.Goals.{After-divide-d, After-write_starts, Start}

-- how many powers of x there are for each of y
count_is : (c : goal.After-divide-d) → let x = c.args in c.divide-d.result.whole ≡ reach x.q x.m / x.q
count_is c = c.divide-d.ensures.0 ∙ ap (λ (n : ℕ). n / c.args.q) c.requires.1

-- the order's k is below 32
room : (c : goal.Start) → size c.args.q c.args.s < 32
room c = rw c.requires.1 (reach_size c.args.q c.requires.0.curve c.args.m)

-- the products and the starts
prepared : (c : goal.After-write_starts) → let x = c.args in
    Prepared x.q x.series x.s (c.divide-d.result.whole + 1) (length x.word.now)
    x.word.now (take (length x.f.now) c.write_starts.new.starts)
    c.write_products.new.grids
prepared c =
    let x = c.args in
    let p = c.write_products in
    record {
      curve = c.requires.0.curve;
      powers = ap (λ (n : ℕ). n + 1) c.divide-d.ensures.0;
      places = c.requires.0.long;
      fits = rw (p.auto.grids, count_is (goal.at.After-write_starts c).After-divide-d) (reach_grids x.q c.requires.0.curve x.m);
      starts_at = starts_taken x.q x.s _ (length x.f.now) _ c.requires.2 c.write_starts.ensures;
      products = p.ensures;
    }

pub write_starts-requires : goal.write_starts-requires
write_starts-requires c =
    let x = c.args in (
      c.requires.0.curve,
      omega (arith, c.requires.1, reach_short x.q c.requires.0.curve x.m),
      omega (arith, count_is (goal.at.write_starts-requires c).After-divide-d, reach_count x.q c.requires.0.curve x.m),
      omega (arith, room (goal.at.write_starts-requires c).Start),
    )

pub slice_bounds-starts-end : goal.slice_bounds-starts-end
slice_bounds-starts-end c =
    omega (arith, c.requires.2, room (goal.at.slice_bounds-starts-end c).Start, c.write_starts.auto.starts)

pub slice_bounds-bring_entries-end : goal.slice_bounds-bring_entries-end
slice_bounds-bring_entries-end c =
    sym (length-take-le (length c.args.f.now) c.write_starts.new.starts (omega (arith, c.requires.2, room (goal.at.slice_bounds-bring_entries-end c).Start, c.write_starts.auto.starts)))

pub bring_entries-requires : goal.bring_entries-requires
bring_entries-requires c =
    let x = c.args in
    let h = prepared (goal.at.bring_entries-requires c).After-write_starts in record {
      short = (
        c.requires.0.curve,
        c.requires.0.long,
        heavy_low x.q x.series x.m x.word.now c.requires.0 x.s c.requires.1,
        length-take-le (length x.f.now) c.write_starts.new.starts (omega (arith, c.requires.2, room (goal.at.bring_entries-requires c).Start, c.write_starts.auto.starts)) ∙ c.requires.2,
        room (goal.at.bring_entries-requires c).Start,
        omega (
          arith,
          c.requires.0.long,
          (short_sizes x.q c.requires.0.curve).points,
          c.write_products.auto.grids,
          length-replicate {A = ℕ} 2304 0,
        ),
      );
      by_index = (λ i e a b. readable x.q x.series x.s _ (length x.word.now) x.word.now _ _ h i a e b);
      work_len = (refl, get_or_zeros 1024);
    }

pub returns : goal.returns
returns c =
    let x = c.args in
    let v = c.solve_nonzero in
    let b = c.bring_entries in
    located x.q x.series x.m x.word.now c.requires.0 x.s _ (length x.word.now) (length x.f.now) _ _
    b.new.work v.new.message v.result c.requires.1 (prepared (goal.at.returns c).After-write_starts) b.ensures c.requires.2
    v.auto.message v.ensures
