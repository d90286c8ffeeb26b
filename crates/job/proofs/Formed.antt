-- The test of a work slice says that it is well formed.
-- Assumes nothing.
use mathlib.Core.Bool.{Bool, true, false, not, ◌||◌, ◌&&◌}
use mathlib.Core.List.{List, [], ◌∷◌, ◌++◌}
use mathlib.Core.Logic.{◌⊎◌, inl, inr, ⊎_elim, ◌↔◌}
use mathlib.Core.Path.{◌≡◌, refl, sym, ap, ◌∙◌, subst}
use Prim.Native.Nat.{ℕ, zero, suc, ◌+◌, ◌-◌, ◌*◌, ◌≤◌, ◌<◌}
use native.Mathlib.Decide.{ℕ_discrete, dec_lt}
use native.Mathlib.Omega.{arith}
use borrow.Author.Tests.{eq-eqb, ltb-true, ltb-false, leb-true, lt-ltb, le-ltb, le-leb, lt-leb, not-true}
use lib.Dec.{T, eqb, leb, ltb, eqb→eq}
use lib.ListN.{length, get_or, take, drop, get_or-eq_default, length-append}
use Rattle.std.specs.Bool.{MatchBool}
use Rattle.std.specs.List.{filter, list_all, range_with_len, AllWithin, HoldsAt}
use Rattle.std.proofs.Common.{add-zero, zero-add, length-take, length-drop, get_or-take, get_or-drop}
use Rattle.std.proofs.lemmas.List.Elements.{filter-append}
use Rattle.std.proofs.lemmas.List.Folds.{list_all-append}
use Rattle.field.specs.Curve.{IsCurve}
use Rattle.field.specs.Field.{Field}
use Rattle.field.specs.Tests.{every}
use Rattle.field.specs.Values.{bad_value, first_bad}
use Rattle.field.proofs.Values.{all_good, none_found, symbol_of_good, good_symbol}
use Rattle.field.proofs.Search.{of_every, to_every, both}
use Rattle.field.proofs.Curves.{sizes}
use Rattle.field.proofs.Fields.{field_of}
use Rattle.field.proofs.FieldLaws.{zero_lt}
use Rattle.poly.specs.Lists.{one_if, count, below}
use Rattle.poly.specs.Inner.Ranges.{Below}
use Rattle.poly.specs.Inner.Linear.{entry}
use Rattle.linear.specs.Inner.Systems.{flat, rank, WellFormed}
use Rattle.poly.proofs.Bools.{T_true, true_or_false, parts, of_or, or_left, or_right, implies, implied}
use Rattle.job.specs.Inner.Formed.{row_formed, rows_formed, symbols_below, well_formed}

small : (x : ℕ) → x ≤ 1 → (x ≡ 0) ⊎ (x ≡ 1)
small x l = elim (ℕ_discrete x 0) [ yes e ↦ inl e | no d ↦ inr (omega arith) ]

is_small : (x : ℕ) → (x ≡ 0) ⊎ (x ≡ 1) → x ≤ 1
is_small x (inl e) = omega arith
is_small x (inr e) = omega arith

module _ (stride k : ℕ) (work : List ℕ) where
  abbrev at : ℕ → ℕ → ℕ
  at p j = entry work (p * stride + j)

  row_diagonal : (p : ℕ) → T (row_formed stride k work p) → (at p p ≡ 0) ⊎ (at p p ≡ 1)
  unfolding row_formed
  row_diagonal p t =
      small (at p p) (leb-true (at p p) 1 (T_true (leb (at p p) 1)
      (parts (leb (at p p) 1) (not (eqb (at p p) 1) || every k (λ j. leb j p || eqb (at p j) 0)) t).0))

  row_zeros : (p : ℕ) → T (row_formed stride k work p) → T (eqb (at p p) 1) → (j : ℕ) → p < j → j < k → at p j ≡ 0
  unfolding row_formed
  row_zeros p t here j l b =
      let zeros = implied (eqb (at p p) 1) (every k (λ j. leb j p || eqb (at p j) 0))
      (parts (leb (at p p) 1) (not (eqb (at p p) 1) || every k (λ j. leb j p || eqb (at p j) 0)) t).1 here in
      elim (of_or (leb j p) (eqb (at p j) 0) (of_every k (λ j. leb j p || eqb (at p j) 0) zeros j b)) [
        | inl x ↦ absurd (omega (arith, leb-true j p (T_true (leb j p) x)))
        | inr x ↦ eqb→eq (at p j) 0 x
      ]

  row_formed_lem : (p : ℕ) → (at p p ≡ 0) ⊎ (at p p ≡ 1) → ((j : ℕ) → p < j → j < k → T (eqb (at p p) 1) → at p j ≡ 0) → T (row_formed stride k work p)
  unfolding row_formed
  row_formed_lem p d z =
      both (leb (at p p) 1) (not (eqb (at p p) 1) || every k (λ j. leb j p || eqb (at p j) 0))
      (rw (le-leb (at p p) 1 (is_small (at p p) d)) tt)
      (implies (eqb (at p p) 1) (every k (λ j. leb j p || eqb (at p j) 0)) (λ here.
      to_every k (λ j. leb j p || eqb (at p j) 0) (λ j b. elim (dec_lt p j) [
        | yes l ↦ or_right (leb j p) (eqb (at p j) 0) (rw (eq-eqb (at p j) 0 (z j l b here)) tt)
        | no n ↦ or_left (leb j p) (eqb (at p j) 0) (rw (le-leb j p (omega arith)) tt)
      ])))

-- ---- how the tests of the code decide

-- one number more, as chains over the numbers from a on list them
range_more : (a n : ℕ) → range_with_len a (suc n) ≡ range_with_len a n ++ (a + n) ∷ []
range_more a zero = ap (λ (x : ℕ). x ∷ []) (sym (add-zero a))
range_more a (suc n) =
    let e : a + 1 + n ≡ a + suc n = omega arith in
    ap (λ (xs : List ℕ). a ∷ xs) (range_more (a + 1) n ∙ ap (λ (x : ℕ). range_with_len (a + 1) n ++ x ∷ []) e)

-- the numbers below n
below_more : (n : ℕ) → range_with_len 0 (suc n) ≡ range_with_len 0 n ++ n ∷ []
below_more n = range_more 0 n ∙ ap (λ (x : ℕ). range_with_len 0 n ++ x ∷ []) (zero-add n)

swapped : (a b : Bool) → (a && (b && true)) ≡ (b && a)
swapped true true = refl
swapped true false = refl
swapped false true = refl
swapped false false = refl

pub every_below : (p : ℕ → Bool) (n : ℕ) → list_all p (range_with_len 0 n) ≡ every n p
unfolding every
every_below p zero = refl
every_below p (suc n) =
    ap (list_all p) (below_more n) ∙ list_all-append p (range_with_len 0 n) (n ∷ []) ∙ ap (λ (b : Bool). b && (p n && true)) (every_below p n)
    ∙ swapped (every n p) (p n)

counted : (p : ℕ → Bool) (n : ℕ) (b : Bool) → p n ≡ b → length (filter p (n ∷ [])) ≡ one_if b
counted p n true e = rw e
counted p n false e = rw e

pub count_below : (p : ℕ → Bool) (n : ℕ) → length (filter p (range_with_len 0 n)) ≡ count p (below n)
unfolding count below
count_below p zero = refl
count_below p (suc n) =
    ap (λ (xs : List ℕ). length (filter p xs)) (below_more n) ∙ ap length (filter-append p (range_with_len 0 n) (n ∷ []))
    ∙ length-append (filter p (range_with_len 0 n)) (filter p (n ∷ []))
    ∙ (let h = count_below p n in let z = counted p n (p n) refl in omega arith)

module _ (stride k : ℕ) (work : List ℕ) (p : ℕ) where
  pub row_large : (entry work (p * stride + p) ≡ 0 → ⊥) → (entry work (p * stride + p) ≡ 1 → ⊥) → row_formed stride k work p ≡ false
  unfolding row_formed
  row_large z o = rw (lt-leb (entry work (p * stride + p)) 1 (omega arith))

  pub row_absent : entry work (p * stride + p) ≡ 0 → row_formed stride k work p ≡ true
  unfolding row_formed
  row_absent e = rw e

  row_not : (j : ℕ) → p < j → j < k → entry work (p * stride + p) ≡ 1 → (entry work (p * stride + j) ≡ 0 → ⊥)
      → row_formed stride k work p ≡ false
  row_not j l b e n =
      ⊎_elim (λ t. absurd (n (row_zeros stride k work p (rw t tt) (rw e tt) j l b))) (λ f. f) (true_or_false (row_formed stride k work p))

  row_all : entry work (p * stride + p) ≡ 1 → ((j : ℕ) → p < j → j < k → entry work (p * stride + j) ≡ 0) → row_formed stride k work p ≡ true
  row_all e h = T_true (row_formed stride k work p) (row_formed_lem stride k work p (inr e) (λ j l b t. h j l b))

  -- the entries after its own
  abbrev after : List ℕ
  after = take (p * stride + k - (p * stride + p + 1)) (drop (p * stride + p + 1) work)

  module _ (within : p < k) (fits : p * stride + k ≤ length work) (own : entry work (p * stride + p) ≡ 1) where
    after_long : length after ≡ k - (p + 1)
    after_long = simp (length-take, length-drop) (omega arith)

    after_at : (i j : ℕ) → i + (p + 1) ≡ j → j < k → get_or after i 0 ≡ entry work (p * stride + j)
    after_at i j e l =
        let b : p * stride + p + 1 + i ≡ p * stride + j = omega arith in
        get_or-take (p * stride + k - (p * stride + p + 1)) (drop (p * stride + p + 1) work) i 0 (omega arith)
        ∙ get_or-drop (p * stride + p + 1) work i 0 ∙ ap (entry work) b

    -- they decide where the row has 1 at its own
    pub row_decided : (b : Bool)
        → MatchBool b (AllWithin (λ x. x ≡ 0) after 0 (length after)) ((i : ℕ) × (i < length after) × HoldsAt (λ x. x ≡ 0 → ⊥) after i)
        → b ≡ row_formed stride k work p
    row_decided true h =
        sym (row_all own (λ j l b.
        let i : j - (p + 1) + (p + 1) ≡ j = omega arith in
        sym (after_at (j - (p + 1)) j i b) ∙ h (j - (p + 1)) 0 (omega arith) (omega (arith, after_long))))
    row_decided false (i, l, n) =
        let b : i + (p + 1) < k = omega (arith, after_long) in
        sym (row_not (i + (p + 1)) (omega arith) b own (λ e. n 0 (after_at i (i + (p + 1)) refl b ∙ e)))

-- w is what the search found
module _ (Q k : ℕ) (work : List ℕ) (room : k < 64) (long : length work ≡ 4096) (w : ℕ) (f : w ≡ first_bad (bad_value false Q) work) where
  pub formed_not : w < length work → well_formed Q 64 k work ≡ false
  unfolding well_formed
  formed_not l = rw (lt-ltb k 64 room, eq-eqb (length work) 4096 long, ← f, lt-ltb w (length work) l)

  pub formed_rows : length work ≤ w → well_formed Q 64 k work ≡ rows_formed 64 k work
  unfolding well_formed
  formed_rows l = rw (lt-ltb k 64 room, eq-eqb (length work) 4096 long, ← f, le-ltb w (length work) l)

-- ---- THE TEST

module _ (F : Field) (stride k : ℕ) (work : List ℕ) where
  abbrev found : ℕ
  found = first_bad (bad_value false F.size) work

  of_symbols : T (symbols_below F.size work) → Below F.size work
  of_symbols t i = elim (dec_lt i (length work)) [
    | yes l ↦
        symbol_of_good F.size (entry work i) (all_good (bad_value false F.size) work
        (ltb-false found (length work) (not-true (ltb found (length work)) (T_true (symbols_below F.size work) t))) i l)
    | no d ↦ rw (get_or-eq_default work 0 {n = i} (omega arith)) (zero_lt F)
  ]

  to_symbols : Below F.size work → T (symbols_below F.size work)
  to_symbols h =
      let none = none_found (bad_value false F.size) work (λ i l. good_symbol false F.size (entry work i) (h i)) in
      rw (le-ltb found (length work) none) tt

  abbrev symbols_test : Bool
  symbols_test = symbols_below F.size work

  abbrev rows_test : Bool
  rows_test = rows_formed stride k work

  of_formed : T (well_formed F.size stride k work) → WellFormed F stride k work
  unfolding well_formed
  of_formed t =
      let a = parts (ltb k stride) (eqb (length work) (stride * stride) && (symbols_test && rows_test)) t in
      let b = parts (eqb (length work) (stride * stride)) (symbols_test && rows_test) a.1 in
      let c = parts symbols_test rows_test b.1 in
      record {
        room = ltb-true k stride (T_true (ltb k stride) a.0);
        area = eqb→eq (length work) (stride * stride) b.0;
        symbols = of_symbols c.0;
        diagonal = λ p l. row_diagonal stride k work p (of_every k (row_formed stride k work) c.1 p l);
        triangle = λ p j l b t. row_zeros stride k work p (of_every k (row_formed stride k work) c.1 p (omega arith)) t j l b;
      }

  to_formed : WellFormed F stride k work → T (well_formed F.size stride k work)
  unfolding well_formed
  to_formed h =
      both (ltb k stride) (eqb (length work) (stride * stride) && (symbols_test && rows_test)) (rw (lt-ltb k stride h.room) tt)
      (both (eqb (length work) (stride * stride)) (symbols_test && rows_test) (rw (eq-eqb (length work) (stride * stride) h.area) tt)
      (both symbols_test rows_test (to_symbols h.symbols)
      (to_every k (row_formed stride k work) (λ p l. row_formed_lem stride k work p (h.diagonal p l) (h.triangle p)))))

  formed_iff : T (well_formed F.size stride k work) ↔ WellFormed F stride k work
  formed_iff = (of_formed, to_formed)

-- by the curve's Q
pub formed_curve : (q : ℕ) → IsCurve q → (stride k : ℕ) (work : List ℕ) → T (well_formed (q * q) stride k work) ↔ WellFormed (field_of q) stride k work
formed_curve q curve stride k work =
    subst (λ (Q : ℕ). T (well_formed Q stride k work) ↔ WellFormed (field_of q) stride k work) (sizes q curve).size
    (formed_iff (field_of q) stride k work)

-- ---- counting the rows

pub rank_counted : (k : ℕ) (work : List ℕ) → length (filter (λ p. eqb (entry work (p * 64 + p)) 1) (range_with_len 0 k)) ≡ rank k (flat 64 k work)
unfolding rank
rank_counted k work = count_below (λ p. eqb (entry work (p * 64 + p)) 1) k
