-- The columns of a curve: each x has q values y, all symbols; and the full ascending list of columns.
-- Assumes nothing.
use mathlib.Core.Bool.{true}
use mathlib.Core.List.{List}
use mathlib.Core.Path.{◌≡◌, refl, sym, ap, ◌∙◌}
use Prim.Native.Nat.{ℕ, zero, suc, ◌*◌, ◌≤◌, ◌<◌, ◌^◌}
use native.Mathlib.Omega.{arith}
use lib.Dec.{T}
use lib.ListN.{length, get_or, replicate, get_or-replicate}
use Rattle.field.specs.Curve.{IsCurve, bits_of}
use Rattle.field.specs.Plus.{plus}
use Rattle.field.specs.Power.{power}
use Rattle.field.specs.Product.{times}
use Rattle.field.proofs.Table.{agrees, entry}
use Rattle.field.proofs.Curves.{each_curve, sizes}
use Rattle.poly.proofs.Lists.{pigeonhole, each_mem}
use Rattle.points.specs.Passing.{passing, up_to}
use Rattle.points.specs.Points.{on_curve, ys_of}
use Rattle.points.specs.Inner.Columns.{Columns}
use Rattle.points.proofs.Passing.{place_true, passing_at, at_place, mem_passing, nodup_passing}
use Rattle.points.proofs.Traces.{length_ys_8}

-- ---- the y of a column

counts_2 : T (agrees (λ x. length (ys_of 2 x)) 0 4 (replicate 4 2))
unfolding times power ys_of passing plus
counts_2 = tt

counts_4 : T (agrees (λ x. length (ys_of 4 x)) 0 16 (replicate 16 4))
unfolding times power ys_of passing plus
counts_4 = tt

-- "Each x has exactly q values y."
pub length_ys : (q : ℕ) → IsCurve q → (x : ℕ) → x < q * q → length (ys_of q x) ≡ q
length_ys =
    each_curve (λ q. (x : ℕ) → x < q * q → length (ys_of q x) ≡ q)
    (λ x l. sym (entry (λ x. length (ys_of 2 x)) 4 (replicate 4 2) counts_2 x l) ∙ get_or-replicate 4 x 2 0 l)
    (λ x l. sym (entry (λ x. length (ys_of 4 x)) 16 (replicate 16 4) counts_4 x l) ∙ get_or-replicate 16 x 4 0 l)
    length_ys_8

pub y_symbol : (q : ℕ) → IsCurve q → (x t : ℕ) → x < q * q → t < q → get_or (ys_of q x) t 0 < 2 ^ bits_of q
unfolding ys_of
y_symbol q curve x t l b =
    rw (sizes q curve).size (at_place (on_curve q x) (q * q) t (omega (arith, length_ys q curve x l))).0

-- ---- all columns, ascending

pub length_up_to : (n : ℕ) → length (up_to n) ≡ n
unfolding passing
length_up_to zero = refl
length_up_to (suc n) = place_true (λ i. true) n refl ∙ ap suc (length_up_to n)

pub up_to_at : (n p : ℕ) → p < n → get_or (up_to n) p 0 ≡ p
up_to_at n p l = ap (λ (i : ℕ). get_or (up_to n) i 0) (sym (length_up_to p)) ∙ passing_at (λ i. true) n p refl l

pub ascending_columns : (q : ℕ) → IsCurve q → Columns q (up_to (q * q))
ascending_columns q curve =
    record {
      curve = curve;
      small = λ t l. (at_place (λ i. true) (q * q) t l).0;
      distinct = nodup_passing (λ i. true) (q * q);
    }

-- different columns are no more than all
pub columns_few : (q : ℕ) (columns : List ℕ) → Columns q columns → length columns ≤ q * q
columns_few q columns h =
    omega (
      arith,
      length_up_to (q * q),
      pigeonhole columns (up_to (q * q)) h.distinct
          (λ x k. mem_passing (λ i. true) (q * q) x refl (each_mem (λ (x : ℕ). x < q * q) 0 columns h.small x k)),
    )
