-- `chosen_columns::recover_over` meets its contract: the same messages fit the word over all columns.
-- Assumes nothing.
use mathlib.Core.List.{List}
use mathlib.Core.Path.{◌≡◌, sym, ap, ◌∙◌, subst}
use Prim.Native.Nat.{ℕ, ◌*◌, ◌≤◌}
use native.Mathlib.Omega.{arith}
use lib.ListN.{length, take, replicate, length-replicate}
use Rattle.field.proofs.Curves.{short_sizes}
use Rattle.field.proofs.Fields.{field_of}
use Rattle.poly.proofs.Fronts.{take_replicate, front_again}
use Rattle.points.specs.Series.{columns_of}
use Rattle.code.specs.Recovered.{Reading, reading, answer_of}
use Rattle.code.specs.Terms.{size}
use Rattle.code.specs.Word.{word_of}
use Rattle.code.specs.Inner.Recovering.{BrokenOver}
use Rattle.recovery.proofs.GapAnswers.{broken_0}
use Rattle.chosen_columns.proofs.Widenings.{wide_reading, wide_over}
use Rattle.chosen_columns.proofs.recover_over.Goals as goal
use Rattle.chosen_columns.proofs.recover_over.Goals.{After-widen, Start}

few : (c : goal.Start) → c.args.q * c.args.q * c.args.q ≤ 64
few c = omega (arith, (short_sizes c.args.q c.requires.1).points)

-- the front that is lent
lent : (c : goal.Start) → let q = c.args.q in length (take (q * q * q) (replicate {A = ℕ} 64 255)) ≡ q * q * q
lent c = let q = c.args.q in ap length (take_replicate (q * q * q) 64 255 (few (goal.at.Start c).Start)) ∙ length-replicate (q * q * q) 255

-- what comes back
wide_long : (c : goal.After-widen) → let q = c.args.q in length c.widen.new.wide ≡ q * q * q
wide_long c = c.widen.auto.wide ∙ lent (goal.at.After-widen c).Start

-- the word over all columns
over_all : (c : goal.After-widen) → let x = c.args in BrokenOver x.q (columns_of x.q 1) x.m c.widen.new.wide
over_all c =
    let x = c.args in
    wide_over x.q x.columns.now x.m x.word.now c.requires.0 c.widen.new.wide c.widen.ensures

pub known_short_grid-grid-requires : goal.known_short_grid-grid-requires
known_short_grid-grid-requires c = (
  subst (BrokenOver c.args.q (columns_of c.args.q 1) 0) (sym (front_again _ c.widen.new.wide _ (wide_long (goal.at.known_short_grid-grid-requires c).After-widen)))
      (broken_0 _ _ _ _ (over_all (goal.at.known_short_grid-grid-requires c).After-widen)),
  c.requires.1,
)

pub recover_over-requires : goal.recover_over-requires
recover_over-requires c =
    record {
      broken_over = (
        subst (BrokenOver c.args.q (columns_of c.args.q 1) c.args.m) (sym (front_again _ c.widen.new.wide _ (wide_long (goal.at.recover_over-requires c).After-widen))) (over_all (goal.at.recover_over-requires c).After-widen),
        c.requires.2,
        c.requires.1,
      );
      known_grid = c.known_short_grid-grid.ensures;
    }

pub returns : goal.returns
returns c =
    let x = c.args in
    let wide = c.widen.new.wide in
    let F = field_of x.q in
    let all : List ℕ → List ℕ = word_of x.q (columns_of x.q 1) x.m in
    ap (λ (r : Reading). answer_of r x.message.now)
    (sym (wide_reading x.q x.columns.now x.m x.word.now c.requires.0 wide c.widen.ensures F.size)
    ∙ ap (reading F.size (size x.q x.m) all) (sym (front_again _ wide _ (wide_long (goal.at.returns c).After-widen))))
    ∙ c.recover_over.ensures
