-- `job::bringing::settle` meets its contract: the solution is encoded.
-- Assumes nothing.
use mathlib.Core.Path.{sym, ◌∙◌, subst}
use Prim.Native.Nat.{ℕ}
use native.Mathlib.Omega.{arith}
use Rattle.field.proofs.Curves.{short_curve}
use Rattle.field.proofs.Fields.{field_of}
use Rattle.linear.specs.Inner.Systems.{flat, Solution, Solves}
use Rattle.linear.proofs.Substitution.{solves_full}
use Rattle.points.proofs.Series.{length_columns, full_columns, full_places}
use Rattle.code.specs.Terms.{size}
use Rattle.equations.proofs.Collecting.{solution_below}
use Rattle.job.proofs.bringing.settle.Goals as goal
use Rattle.job.proofs.bringing.settle.Goals.{After-solve}

-- what forward substitution left
solution : (c : goal.After-solve) → let x = c.args in
    Solves (field_of x.q) (size x.q x.m) (flat 64 (size x.q x.m) x.work.now) c.solve.new.message
solution c =
    let x = c.args in
    solves_full (field_of x.q) 64 (size x.q x.m) x.work.now c.requires.well_formed.0 c.requires.well_formed.1 c.solve.new.message
    (subst (λ (k : ℕ). Solution (field_of x.q) k (flat 64 k x.work.now) c.solve.new.message) c.requires.short.2 c.solve.ensures)

pub write_word-requires : goal.write_word-requires
write_word-requires c =
    let x = c.args in
    let q = x.q in
    let series = x.series in
    let candidate = c.solve.new.message in
    let long = c.solve.auto.message ∙ c.requires.short.3 in
    let curve = short_curve q c.requires.short.0 in (
      record {
        over = full_columns q series curve;
        few = omega (arith, length_columns q series curve);
        order = omega (arith, c.requires.short.1, full_places q series curve);
        long = long;
        symbols = solution_below q x.m x.work.now candidate (solution (goal.at.write_word-requires c).After-solve) long;
        room = c.requires.short.4 ∙ sym (full_places q series curve);
      },
      c.requires.short.0,
    )

pub returns : goal.returns
returns c = record {
  solves = solution (goal.at.returns c).After-solve;
  whole_after = c.write_word.ensures;
}
