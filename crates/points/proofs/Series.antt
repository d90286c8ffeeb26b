-- All columns in the order of each series: each column once, and none absent.
-- Assumes nothing.
use mathlib.Core.Bool.{Bool, true, false, not, cond, ◌&&◌, ◌||◌, false≢true}
use mathlib.Core.List.Memᴰ
use mathlib.Core.List.Memᴰ.{cases_cons}
use mathlib.Core.List.Memᴰ.{not-nil}
use mathlib.Core.List.{List, [], ◌∷◌, Memᴰ as Mem}
use mathlib.Core.Logic.{inl, inr}
use mathlib.Core.Path.{◌≡◌, refl, sym, ap, ◌∙◌}
use Prim.Native.Nat.{ℕ, ◌*◌, ◌≤◌, ◌<◌}
use native.Mathlib.Omega.{arith}
use native.Mathlib.Decide.{ℕ_discrete}
use lib.Dec.{T, eqb, T_not}
use borrow.Author.Tests.{eq-eqb, ne_eqb, eqb-true}
use lib.ListN.{length, get_or}
use Rattle.field.specs.Curve.{IsCurve}
use Rattle.field.specs.Power.{power}
use Rattle.field.specs.Product.{times}
use Rattle.field.proofs.Table.{all_below, below_entry}
use Rattle.field.proofs.Curves.{each_curve, long_curve, sizes, two_symbols}
use Rattle.poly.specs.Lists.{Nodup}
use Rattle.poly.proofs.Bools.{parts}
use Rattle.poly.proofs.Lists.{pigeonhole, each_mem, find}
use Rattle.points.specs.Passing.{passing, up_to}
use Rattle.points.specs.Series.{is_series, other_series, columns_by_powers, columns_of}
use Rattle.points.specs.Inner.Columns.{Columns}
use Rattle.points.proofs.Passing.{mem_passing}
use Rattle.points.proofs.ColumnPoints.{length_up_to, up_to_at, ascending_columns}

-- ---- the columns by powers, worked out

unfoldable pub powers_4 : List ℕ
powers_4 = 0 ∷ 1 ∷ 2 ∷ 4 ∷ 8 ∷ 3 ∷ 6 ∷ 12 ∷ 11 ∷ 5 ∷ 10 ∷ 7 ∷ 14 ∷ 15 ∷ 13 ∷ 9 ∷ []

unfoldable pub powers_8 : List ℕ
powers_8 = 0 ∷ 1 ∷ 2 ∷ 4 ∷ 8 ∷ 16 ∷ 32 ∷ 3 ∷ 6 ∷ 12 ∷ 24 ∷ 48 ∷ 35 ∷ 5 ∷ 10 ∷ 20 ∷ 40 ∷ 19 ∷ 38 ∷ 15 ∷ 30 ∷ 60 ∷ 59 ∷ 53 ∷ 41 ∷ 17 ∷ 34 ∷ 7 ∷ 14 ∷ 28 ∷ 56 ∷ 51 ∷ 37 ∷ 9 ∷ 18 ∷ 36 ∷ 11 ∷ 22 ∷ 44 ∷ 27 ∷ 54 ∷ 47 ∷ 29 ∷ 58 ∷ 55 ∷ 45 ∷ 25 ∷ 50 ∷ 39 ∷ 13 ∷ 26 ∷ 52 ∷ 43 ∷ 21 ∷ 42 ∷ 23 ∷ 46 ∷ 31 ∷ 62 ∷ 63 ∷ 61 ∷ 57 ∷ 49 ∷ 33 ∷ []

pub by_powers_2 : columns_by_powers 2 ≡ up_to 4
unfolding times power passing columns_by_powers
by_powers_2 = refl

pub by_powers_4 : columns_by_powers 4 ≡ powers_4
unfolding times power passing columns_by_powers powers_4
by_powers_4 = refl

pub by_powers_8 : columns_by_powers 8 ≡ powers_8
unfolding times power passing columns_by_powers powers_8
by_powers_8 = refl

-- ---- each once: one computed test

absent : ℕ → List ℕ → Bool
absent x [] = true
absent x (y ∷ l) = not (eqb x y) && absent x l

distinct : List ℕ → Bool
unfolding absent
distinct [] = true
distinct (x ∷ l) = absent x l && distinct l

not_there : (x : ℕ) (l : List ℕ) → T (absent x l) → Mem x l → ⊥
unfolding absent
not_there x [] t m = absurd (not-nil m)
not_there x (y ∷ l) t m =
    let h = parts (not (eqb x y)) (absent x l) t in
    elim (cases_cons m) [
      | inl e ↦ T_not (eqb x y) h.0 (rw (eq-eqb x y e) tt)
      | inr k ↦ not_there x l h.1 k
    ]

none_twice : (l : List ℕ) → T (distinct l) → Nodup l
unfolding distinct
none_twice [] t = tt
none_twice (x ∷ l) t = let h = parts (absent x l) (distinct l) t in (not_there x l h.0, none_twice l h.1)

module _ (q : ℕ) (curve : IsCurve q) where
  tested : (columns : List ℕ) → T (all_below (q * q) columns) → T (distinct columns) → Columns q columns
  tested columns small once =
      record {
        curve = curve;
        small = λ t l. below_entry (q * q) columns (omega (arith, two_symbols q curve)) small t;
        distinct = none_twice columns once;
      }

by_powers : (q : ℕ) → IsCurve q → Columns q (columns_by_powers q) × (length (columns_by_powers q) ≡ q * q)
unfolding distinct passing powers_4 powers_8
by_powers =
    each_curve (λ q. Columns q (columns_by_powers q) × (length (columns_by_powers q) ≡ q * q))
    (rw by_powers_2 (tested 2 (inl refl) (up_to 4) tt tt, refl))
    (rw by_powers_4 (tested 4 (inr (inl refl)) powers_4 tt tt, refl))
    (rw by_powers_8 (tested 8 long_curve powers_8 tt tt, refl))

-- ---- the other series

pub other_named : (series : ℕ) → is_series (other_series series) ≡ true
other_named series = go (eqb series 2)
  where
    go : (b : Bool) → is_series (cond b 1 2) ≡ true
    go true = refl
    go false = refl

pub other_twice : (series : ℕ) → is_series series ≡ true → other_series (other_series series) ≡ series
other_twice series h = go (eqb series 1) (eqb series 2) (eqb-true series 1) (eqb-true series 2) h
  where
    go : (s t : Bool) → (s ≡ true → series ≡ 1) → (t ≡ true → series ≡ 2) → (s || t) ≡ true → other_series (cond t 1 2) ≡ series
    go s true f g h = sym (g refl)
    go true false f g h = sym (f refl)
    go false false f g h = absurd (false≢true h)

-- ---- the columns of a series

pub second_columns : (q series : ℕ) → series ≡ 2 → columns_of q series ≡ columns_by_powers q
unfolding columns_of
second_columns q series e = rw (eq-eqb series 2 e)

pub first_columns : (q series : ℕ) → (series ≡ 2 → ⊥) → columns_of q series ≡ up_to (q * q)
unfolding columns_of
first_columns q series d = rw (ne_eqb series 2 d)

-- the smaller curve's are the same in both
pub small_columns : (series : ℕ) → columns_of 2 series ≡ up_to 4
small_columns series = elim (ℕ_discrete series 2) [ yes e ↦ second_columns 2 series e ∙ by_powers_2 | no d ↦ first_columns 2 series d ]

module _ (q series : ℕ) (curve : IsCurve q) where
  full : Columns q (columns_of q series) × (length (columns_of q series) ≡ q * q)
  full = elim (ℕ_discrete series 2) [
    | yes e ↦ rw (second_columns q series e) (by_powers q curve)
    | no d ↦ rw (first_columns q series d) (ascending_columns q curve, length_up_to (q * q))
  ]

  -- each column once
  pub full_columns : Columns q (columns_of q series)
  full_columns = full.0

  pub length_columns : length (columns_of q series) ≡ q * q
  length_columns = full.1

  pub full_places : q * length (columns_of q series) ≡ q * q * q
  full_places = ap (λ (x : ℕ). q * x) length_columns ∙ (sizes q curve).grid

  pub column_small : (x : ℕ) → Mem x (columns_of q series) → x < q * q
  column_small = each_mem (λ x. x < q * q) 0 (columns_of q series) full_columns.small

  -- none absent: q·q different ones and another would be too many
  pub every_column : (x : ℕ) → x < q * q → Mem x (columns_of q series)
  every_column x l =
      let l' = columns_of q series in
      elim (find (λ y. y ≡ x) (λ y. y ≡ x → ⊥) (λ y. elim (ℕ_discrete y x) [ yes e ↦ inl e | no d ↦ inr d ]) l') [
        | inl w ↦ Memᴰ.cast (sym w.2) w.1
        | inr none ↦
            let more : length (x ∷ l') ≤ length (up_to (q * q)) =
            pigeonhole (x ∷ l') (up_to (q * q)) (λ m. none x m refl, full_columns.distinct)
            (λ y m. mem_passing (λ i. true) (q * q) y refl (elim (cases_cons m) [ inl e ↦ rw e l | inr k ↦ column_small y k ])) in
            absurd (omega (arith, more, length_columns, length_up_to (q * q)))
      ]

-- so two series list the same columns
pub also_column : (q a b : ℕ) → IsCurve q → (x : ℕ) → Mem x (columns_of q a) → Mem x (columns_of q b)
also_column q a b curve x m = every_column q b curve x (column_small q a curve x m)

-- In one of two different series column x is number x. So of their lists F and G, column number F[t] of G is column number G[t] of F.
crossed_columns : (q : ℕ) (l : List ℕ) → Columns q l → length l ≡ q * q → (t : ℕ) → t < q * q
    → get_or (up_to (q * q)) (get_or l t 0) 0 ≡ get_or l (get_or (up_to (q * q)) t 0) 0
crossed_columns q l h long t k =
    up_to_at (q * q) (get_or l t 0) (h.small t (omega arith)) ∙ sym (ap (λ (i : ℕ). get_or l i 0) (up_to_at (q * q) t k))

pub crossed : (q series : ℕ) → IsCurve q → (t : ℕ) → t < q * q
    → get_or (columns_of q (other_series series)) (get_or (columns_of q series) t 0) 0 ≡ get_or (columns_of q series) (get_or (columns_of q (other_series series)) t 0) 0
crossed q series curve t k = elim (ℕ_discrete series 2) [
  | yes e ↦
      let first : columns_of q (other_series series) ≡ up_to (q * q) = first_columns q (other_series series) (rw (eq-eqb series 2 e) (λ d. omega arith)) in
      rw first (crossed_columns q (columns_of q series) (full_columns q series curve) (length_columns q series curve) t k)
  | no d ↦
      let other = other_series series in
      rw (first_columns q series d) (sym (crossed_columns q (columns_of q other) (full_columns q other curve) (length_columns q other curve) t k))
]
