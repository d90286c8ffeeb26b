-- `job::bringing::collect` meets its contract: all columns are lent, and the list of the terms' entries.
-- Assumes nothing.
use mathlib.Core.List.{List}
use mathlib.Core.Path.{◌≡◌, sym, ap, subst}
use Prim.Native.Nat.{ℕ}
use native.Mathlib.Omega.{arith}
use lib.ListN.{take, replicate}
use Rattle.field.specs.declared.curve.Curve.{Curve}
use Rattle.linear.specs.Inner.Systems.{flat, rank}
use Rattle.points.specs.Series.{columns_of}
use Rattle.points.proofs.AllColumns.{columns_are}
use Rattle.code.specs.Terms.{size}
use Rattle.code.specs.Inner.Recovering.{BrokenOver}
use Rattle.code.proofs.GridEntries.{entries_taken}
use Rattle.job.specs.Inner.Bringing.{Collects}
use Rattle.job.proofs.bringing.collect.Goals as goal
use Rattle.job.proofs.bringing.collect.Goals.{After-rank-rows}

-- the columns that are lent
columns : (c : goal.After-rank-rows)
    → take c.at-curve.result.symbols c.columns-columns.result ≡ columns_of
    c.args.q c.args.series
columns c = columns_are _ _ c.requires.broken_over.4 _ _
    (ap (λ (v : Curve). v.symbols) c.at-curve.ensures) c.columns-columns.ensures

-- the rows that are counted
rows : (c : goal.After-rank-rows)
    → let x = c.args in c.rank-rows.result ≡ rank (size x.q x.m)
    (flat 64 (size x.q x.m) x.work.now)
rows c =
    subst (λ (k : ℕ). c.rank-rows.result ≡ rank k (flat 64 k c.args.work.now)) c.requires.broken_over.1 c.rank-rows.ensures

pub bring_equations-requires : goal.bring_equations-requires
bring_equations-requires c =
    let x = c.args in
    let e = c.entries in
    let is = entries_taken x.q x.m x.k e.new.list (replicate 64 0) c.requires.broken_over.1 (omega (arith, c.requires.broken_over.1, c.requires.broken_over.2))
    e.ensures in record {
      broken_over = (
        subst (λ (l : List ℕ). BrokenOver x.q l x.m x.word.now) (sym (columns (goal.at.bring_equations-requires c).After-rank-rows)) c.requires.broken_over.0,
        is,
        c.requires.broken_over.3,
        c.requires.broken_over.2,
        c.requires.broken_over.4,
      );
      ready = record { formed = c.requires.well_formed; ranked = rows (goal.at.bring_equations-requires c).After-rank-rows };
    }

pub returns : goal.returns
returns c =
    let x = c.args in
    let r = c.bring_equations in
    let after = r.new.work in record {
      counted = r.ensures.counted;
      collects = subst (λ (n : ℕ). Collects x.q (columns_of x.q x.series) x.m x.word.now x.budget x.work.now x.next n after r.result.next
          r.result.rank r.result.brought) (rows (goal.at.returns c).After-rank-rows)
          (subst (λ (l : List ℕ). Collects x.q l x.m x.word.now x.budget x.work.now x.next
          c.rank-rows.result after
          r.result.next r.result.rank r.result.brought) (columns (goal.at.returns c).After-rank-rows)
          r.ensures.collects);
    }
