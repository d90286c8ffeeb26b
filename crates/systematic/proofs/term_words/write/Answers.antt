-- `systematic::term_words::write` meets its contract: the points of all columns, and the words over them.
-- Assumes nothing.
use mathlib.Core.List.{List}
use mathlib.Core.Path.{◌≡◌, refl, sym, ap, subst}
use Prim.Native.Nat.{ℕ, ◌*◌, ◌≤◌}
use native.Mathlib.Omega.{arith}
use lib.ListN.{length, take}
use Rattle.field.proofs.Fields.{field_of}
use Rattle.field.proofs.FieldLaws.{zero_lt}
use Rattle.field.proofs.Curves.{short_curve, short_sizes}
use Rattle.poly.proofs.Entries.{below_zeros}
use Rattle.points.specs.Series.{columns_of}
use Rattle.points.specs.Inner.Columns.{Columns}
use Rattle.points.proofs.AllColumns.{columns_are}
use Rattle.points.proofs.Series.{full_columns, full_places}
use Rattle.systematic.specs.Inner.TermWords.{TermWords}
use Rattle.systematic.proofs.term_words.write.Goals as goal
use Rattle.systematic.proofs.term_words.write.Goals.{After-columns-columns}

-- the columns that are lent are all
all : (c : goal.After-columns-columns) → let q = c.args.q in let series = c.args.series in take (q * q) c.columns-columns.result ≡ columns_of q series
all c = columns_are c.args.q c.args.series c.requires.0 (c.args.q * c.args.q) _ refl c.columns-columns.ensures

-- and so many are their places
places : (c : goal.After-columns-columns) → let q = c.args.q in q * length (take (q * q) c.columns-columns.result) ≤ 64
places c =
    let q = c.args.q in let series = c.args.series in
    omega (arith, ap (λ (l : List ℕ). q * length l) (all (goal.at.After-columns-columns c).After-columns-columns), full_places q series (short_curve q c.requires.0), (short_sizes q c.requires.0).points)

pub write_points-requires : goal.write_points-requires
write_points-requires c =
    let q = c.args.q in let series = c.args.series in
    let F = field_of q in
    let zeros = below_zeros F.size 64 (zero_lt F) in
    record {
      columns = (subst (Columns q) (sym (all (goal.at.write_points-requires c).After-columns-columns)) (full_columns q series (short_curve q c.requires.0)), c.ys-all.ensures);
      columns_in_bounds = (places (goal.at.write_points-requires c).After-columns-columns, places (goal.at.write_points-requires c).After-columns-columns);
      below = (zeros, zeros);
    }

pub returns : goal.returns
returns c =
    let a = c.args in
    let w = c.write_words in
    subst (λ (l : List ℕ). TermWords a.q l a.m w.new.vectors) (all (goal.at.returns c).After-columns-columns)
    (w.ensures _ (places (goal.at.returns c).After-columns-columns) c.write_points.ensures)
