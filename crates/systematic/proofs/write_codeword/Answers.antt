-- `systematic::write_codeword` meets its contract: the symbols are laid out at the places, and the broken word is completed.
-- Assumes nothing.
use mathlib.Core.List.{List}
use mathlib.Core.Path.{◌≡◌, sym, ap, ◌∙◌, subst}
use Prim.Native.Nat.{ℕ, ◌*◌, ◌≤◌}
use native.Mathlib.Omega.{arith}
use lib.ListN.{length, take, replicate, length-replicate}
use Rattle.field.proofs.Curves.{short_curve, short_sizes}
use Rattle.field.proofs.Fields.{field_of}
use Rattle.points.specs.Series.{columns_of}
use Rattle.points.proofs.Series.{full_places}
use Rattle.poly.proofs.Fronts.{take_replicate, front_fits, front_again, again_long}
use Rattle.code.specs.Recovered.{reading}
use Rattle.code.specs.Terms.{size}
use Rattle.code.specs.Word.{word_of}
use Rattle.code.specs.Inner.Recovering.{BrokenOver}
use Rattle.code.proofs.GridEntries.{laid}
use Rattle.systematic.specs.Inner.Completing.{completion}
use Rattle.systematic.proofs.Checking.{Passed, checks_passed}
use Rattle.systematic.proofs.Encodings.{broken_word, broken_over, completed}
use Rattle.systematic.proofs.write_codeword.Goals as goal
use Rattle.systematic.proofs.write_codeword.Goals.{After-place, Start}

-- what the checks say
passed : (c : goal.Start) → let x = c.args in Passed x.q x.series x.m x.places.now x.symbols.now (length x.word.now)
passed c = let x = c.args in checks_passed x.q x.series x.m x.places.now x.symbols.now (length x.word.now) c.requires

few : (c : goal.Start) → length c.args.word.now ≤ 64
few c = omega (arith, (passed (goal.at.Start c).Start).fits, (short_sizes _ (passed (goal.at.Start c).Start).short).points)

-- the front that is lent
lent : (c : goal.Start) → length (take (length c.args.word.now) (replicate {A = ℕ} 64 255)) ≡ length c.args.word.now
lent c = ap length (take_replicate _ 64 255 (few (goal.at.Start c).Start)) ∙ length-replicate (length c.args.word.now) 255

placed_long : (c : goal.After-place) → length c.place.new.word ≡ length c.args.word.now
placed_long c = c.place.auto.word ∙ lent (goal.at.After-place c).Start

-- what comes back is the broken word
placed_is : (c : goal.After-place) → let x = c.args in
    c.place.new.word ≡ broken_word x.q x.series x.m x.places.now x.symbols.now x.word.now c.requires
placed_is c =
    let x = c.args in
    let n : length x.word.now ≡ x.q * length (columns_of x.q x.series) = (passed (goal.at.After-place c).Start).fits ∙ sym (full_places _ _ (short_curve _ (passed (goal.at.After-place c).Start).short)) in
    c.place.ensures
    ∙ ap (λ (l : List ℕ). laid x.places.now x.symbols.now l (length x.places.now))
    (take_replicate _ 64 255 (few (goal.at.After-place c).Start) ∙ ap (λ (k : ℕ). replicate {A = ℕ} k 255) n)

pub slice_bounds-broken-end : goal.slice_bounds-broken-end
slice_bounds-broken-end c = few (goal.at.slice_bounds-broken-end c).Start

pub slice_bounds-place-end : goal.slice_bounds-place-end
slice_bounds-place-end c = sym (lent (goal.at.slice_bounds-place-end c).Start)

pub place-requires : goal.place-requires
place-requires c =
    let p = passed (goal.at.place-requires c).Start in
    (p.message.len ∙ sym p.chosen.many, λ i l. omega (arith, lent (goal.at.place-requires c).Start, p.fits, p.chosen.below i l))

pub slice_bounds-broken-end-2 : goal.slice_bounds-broken-end-2
slice_bounds-broken-end-2 c = front_fits _ c.place.new.word _ (placed_long (goal.at.slice_bounds-broken-end-2 c).After-place)

pub slice_bounds-complete-end : goal.slice_bounds-complete-end
slice_bounds-complete-end c = sym (again_long _ c.place.new.word _ (placed_long (goal.at.slice_bounds-complete-end c).After-place))

pub complete-requires : goal.complete-requires
complete-requires c =
    let x = c.args in (
      subst (BrokenOver x.q (columns_of x.q x.series) x.m) (sym (front_again _ c.place.new.word _ (placed_long (goal.at.complete-requires c).After-place) ∙ placed_is (goal.at.complete-requires c).After-place))
          (broken_over x.q x.series x.m x.places.now x.symbols.now x.word.now c.requires),
      (passed (goal.at.complete-requires c).Start).short,
      sym (again_long _ c.place.new.word _ (placed_long (goal.at.complete-requires c).After-place)),
    )

pub returns : goal.returns
returns c =
    let x = c.args in
    let q = x.q in let series = x.series in
    sym (completed q series x.m x.places.now x.symbols.now x.word.now c.requires)
    ∙ ap (λ (l : List ℕ). completion (word_of q (columns_of q series) x.m) (reading (field_of q).size (size q x.m) (word_of q (columns_of q series) x.m) l) x.word.now)
    (sym (front_again _ c.place.new.word _ (placed_long (goal.at.returns c).After-place) ∙ placed_is (goal.at.returns c).After-place))
    ∙ c.complete.ensures
