-- The column and the point of a place.
-- Assumes nothing.
use mathlib.Core.List.{List}
use mathlib.Core.Path.{◌≡◌, ap₂, ◌∙◌}
use Prim.Native.Nat.{ℕ, ◌+◌, ◌*◌, ◌/◌, ◌%◌, ◌<◌}
use native.Mathlib.Nat.{mod-lt}
use native.Mathlib.Omega.{arith}
use lib.ListN.{length, get_or}
use Rattle.field.specs.Curve.{IsCurve}
use Rattle.field.proofs.Curves.{sizes}
use Rattle.points.specs.Points.{ys_of}
use Rattle.points.specs.Inner.Columns.{Columns, Ys}
use Rattle.points.proofs.YsTables.{table_fits, table_at}
use Rattle.code.proofs.GridEntries.{Split}
use Rattle.code.proofs.Stages.{rows_fit}

-- the column of a place
pub place_column : (q : ℕ) → IsCurve q → (c p i j : ℕ) → Split q p i j → p < q * c → i < c
place_column q curve c p i j d l = omega (arith, d.0, rows_fit q p c (omega (arith, (sizes q curve).low)) l)

-- the point of a place, in the table of all ys
pub place_point : (q : ℕ) (columns : List ℕ) → Columns q columns → (p i j : ℕ) → Split q p i j → p < q * length columns → (ys : List ℕ) → Ys q ys
    → (i < length columns) × (q * get_or columns i 0 + j < q * q * q)
    × (get_or ys (q * get_or columns i 0 + j) 0 ≡ get_or (ys_of q (get_or columns (p / q) 0)) (p % q) 0)
place_point q columns h p i j d l ys table =
    let il = place_column q h.curve (length columns) p i j d l in
    let jl : j < q = rw d.1 (mod-lt p (omega (arith, (sizes q h.curve).low))) in
    let x = get_or columns i 0 in
    let xl = h.small i il in (
      il,
      table_fits q h.curve x j xl jl,
      table_at q ys table x j xl jl ∙ ap₂ (λ (a b : ℕ). get_or (ys_of q (get_or columns a 0)) b 0) d.0 d.1,
    )
