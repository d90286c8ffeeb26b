-- `mend::candidate::find` meets its contract: a codeword's message is alone near; else a locator tells.
-- Assumes nothing.
use mathlib.Core.Bool.{Bool}
use mathlib.Core.Path.{◌≡◌, sym, ap, ap₂, ◌∙◌, subst}
use Prim.Native.Nat.{◌+◌, ◌≤◌}
use native.Mathlib.Omega.{arith}
use lib.Seq.{length-take-le}
use Rattle.field.specs.declared.curve.Curve.{Curve}
use Rattle.field.proofs.Outcomes.{ok_done}
use Rattle.field.proofs.Curves.{short_curve}
use Rattle.poly.proofs.Entries.{zeros}
use Rattle.code.specs.Terms.{size}
use Rattle.mend.specs.Inner.Locating.{reach}
use Rattle.mend.specs.Inner.Candidates.{Located}
use Rattle.mend.proofs.Dimensions.{reach_size}
use Rattle.mend.proofs.Locators.{none_near}
use Rattle.code.proofs.FullColumns.{readable}
use Rattle.mend.proofs.Candidates.{word_accepted, unencoded_only}
use Rattle.mend.proofs.candidate.find.Goals as goal
use Rattle.mend.proofs.candidate.find.Goals.{After-at-curve, After-find, After-size-k}

-- s
reached : (c : goal.After-at-curve) → let x = c.args in
    x.t + c.at-curve.result.genus ≡ reach x.q x.m
reached c =
    ap₂ ◌+◌ c.requires.1 (ap (λ (v : Curve). v.genus) c.at-curve.ensures)

-- k of s, for which the array has room
sized : (c : goal.After-size-k) → let x = c.args in
    c.size-k.result ≡ size x.q (reach x.q x.m)
sized c =
    let x = c.args in
    c.size-k.ensures ∙ ap (size x.q) (reached (goal.at.After-size-k c).After-at-curve)

room : (c : goal.After-size-k) → c.size-k.result ≤ 32
room c =
    omega (arith, sized (goal.at.After-size-k c).After-size-k, reach_size c.args.q c.requires.0.curve c.args.m)

-- what the search for a locator says, by what it returned
located : (c : goal.After-find) (b : Bool) → c.find.result ≡ b
    → let x = c.args in
    Located x.q x.series x.m x.word.now c.find.new.f b
located c b e =
    let x = c.args in
    subst (Located x.q x.series x.m x.word.now c.find.new.f) e c.find.ensures

pub read_word-requires : goal.read_word-requires
read_word-requires c =
    let x = c.args in (
      readable x.q x.series x.m x.word.now x.message.now (short_curve _ c.requires.0.curve) (omega (arith, c.requires.0.order))
          (word_accepted x.q x.series x.m x.word.now c.requires.0 x.message.now c.requires.2),
      c.requires.0.curve,
    )

pub returns-then-is_ok : goal.returns-then-is_ok
returns-then-is_ok c =
    let x = c.args in
    let u = c.read_word in
    unencoded_only x.q x.series x.m x.word.now c.requires.0 x.message.now u.new.message u.result c.requires.2 u.ensures
    (ok_done u.result (sym c.is_ok.ensures.value ∙ c.if-is_ok.true))

pub slice_bounds-found-end : goal.slice_bounds-found-end
slice_bounds-found-end c = room (goal.at.slice_bounds-found-end c).After-size-k

pub slice_bounds-find-end : goal.slice_bounds-find-end
slice_bounds-find-end c = sym (length-take-le _ (zeros 32) (room (goal.at.slice_bounds-find-end c).After-size-k))

pub find-requires : goal.find-requires
find-requires c =
    (c.requires.0, reached (goal.at.find-requires c).After-at-curve, length-take-le _ (zeros 32) (room (goal.at.find-requires c).After-size-k) ∙ c.size-k.ensures)

pub returns : goal.returns
returns c =
    let x = c.args in
    none_near x.q x.series x.m x.word.now c.requires.0 (located (goal.at.returns c).After-find _ c.if-find.false)
