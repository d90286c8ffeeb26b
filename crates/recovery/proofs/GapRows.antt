-- The gaps in ascending order; and the grids of a broken word side by side in a flat list, with zeros up to the next.
-- Assumes nothing.
use mathlib.Core.Bool.{Bool, true}
use mathlib.Core.List.{List, Memᴰ as Mem}
use mathlib.Core.Path.{◌≡◌, ap, ◌∙◌, subst}
use Prim.Native.Nat.{ℕ, ◌+◌, ◌*◌, ◌/◌, ◌%◌, ◌≤◌, ◌<◌}
use native.Mathlib.Nat.{zero-add, div-add-mod}
use native.Mathlib.Omega.{arith}
use borrow.Author.Tests.{eq-eqb, eqb-true}
use lib.Dec.{eqb}
use lib.ListN.{length}
use Rattle.poly.specs.Lists.{one_if}
use Rattle.poly.specs.Sets.{ListOf}
use Rattle.poly.specs.Inner.Linear.{entry}
use Rattle.poly.proofs.Lists.{mem_get_or}
use Rattle.poly.proofs.Blocks.{block_of}
use Rattle.linear.specs.Inner.Combinations.{rows_from, Padded}
use Rattle.points.specs.Passing.{passing}
use Rattle.points.specs.Inner.Columns.{Columns}
use Rattle.points.proofs.Passing.{place_lt, passing_at, of_mem_passing, nodup_passing}
use Rattle.code.proofs.Weights.{curve_pos}
use Rattle.recovery.specs.Inner.Gaps.{Gap, gaps_of, GapGrids, IndicatorRows, KnownGrid}
use Rattle.recovery.proofs.PointGrids.{point_values}

pub gaps_listed : (broken : List ℕ) → ListOf (Gap broken) (gaps_of broken)
gaps_listed broken =
    record {
      distinct = nodup_passing gap (length broken);
      sound = λ p m. let w = of_mem_passing gap (length broken) p m in record { within = w.0; missing = eqb-true (entry broken p) 255 w.1 };
      whole = λ p h.
          let t : gap p ≡ true = eq-eqb (entry broken p) 255 h.missing in
          subst (λ (x : ℕ). Mem x (gaps_of broken)) (passing_at gap (length broken) p t h.within)
          (mem_get_or (gaps_of broken) 0 (length (passing gap p)) (place_lt gap p (length broken) t h.within));
    }
  where
    gap : ℕ → Bool
    gap p = eqb (entry broken p) 255

-- the rows of the gaps in one list, the grid of the word with 0 at the gaps in another
module _ (q : ℕ) (columns : List ℕ) (over : Columns q columns) (full : length columns ≡ q * q) (broken gaps : List ℕ)
    (long : length broken ≡ q * length columns) (listed : ListOf (Gap broken) gaps) (stride : ℕ) (fits : q * length columns ≤ stride)
    (vectors grid : List ℕ) (rows : IndicatorRows q columns gaps stride vectors) (known : KnownGrid q columns broken grid) where
  pub rows_grids : GapGrids q columns broken gaps (rows_from stride 0 vectors grid)
  rows_grids =
      record {
        symbols = record { vectors = λ p i b l. rows.symbols (stride * (0 + p) + i); added = λ i l. known.symbols i };
        added = known.at;
        vectors = λ p t s b k l.
            let gap = entry gaps p in
            let c = block_of q (curve_pos q over.curve) (length columns) gap (within p b) in
            point_values q columns over full (gap / q) (gap % q) c.0 c.1 (λ i. entry vectors (stride * (0 + p) + i))
            (λ i j d f. ap (λ (x : ℕ). entry vectors (stride * x + (q * i + j))) (zero-add p) ∙ rows.at p i j b d f) t s k l
            ∙ ap (λ (x : ℕ). one_if (eqb (q * t + s) x)) (div-add-mod gap q);
      }
    where
      within : (p : ℕ) → p < length gaps → entry gaps p < q * length columns
      within p b = omega (arith, long, (listed.sound (entry gaps p) (mem_get_or gaps 0 p b)).within)

  pub rows_padded : Padded (q * length columns) stride (length gaps) (rows_from stride 0 vectors grid)
  rows_padded =
      record {
        within = fits;
        vectors = λ p i a b c. ap (λ (x : ℕ). entry vectors (stride * x + i)) (zero-add p) ∙ rows.zeros p i a b c;
        added = λ i b c. known.zeros i b;
      }
