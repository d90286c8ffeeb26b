-- The equations of the entries, brought in one by one: the row of an entry, whose right-hand side is 0, so that it never contradicts; and the loop
-- that brings in those of a weight above m + s.
-- Assumes nothing.
use mathlib.Core.List.{List}
use mathlib.Core.Path.{◌≡◌, sym, ap, ◌∙◌, subst}
use Prim.Native.Nat.{ℕ, ◌+◌, ◌-◌, ◌*◌, ◌≤◌, ◌<◌}
use native.Mathlib.Decide.{ℕ_discrete}
use native.Mathlib.Nat.{add-mul}
use native.Mathlib.Omega.{arith}
use lib.ListN.{length, get_or, length-drop, replicate, length-replicate}
use Rattle.field.specs.Field.{Field}
use Rattle.field.proofs.FieldLaws.{zero_lt}
use Rattle.field.proofs.Fields.{field_of}
use Rattle.poly.specs.Inner.Linear.{entry, dot}
use Rattle.poly.specs.Inner.Ranges.{writes, part}
use Rattle.linear.specs.Inner.Systems.{flat, Satisfies, WellFormed, Equation, Joined, Brought}
use Rattle.linear.specs.declared.system.Effect.{Effect}
use Rattle.linear.specs.declared.system.Effect.TheVariants.{Pivot, Redundant, Contradiction}
use Rattle.poly.proofs.Entries.{zeros, get_or_zeros}
use Rattle.poly.proofs.Linear.{dot_cong}
use Rattle.poly.proofs.Parts.{part_at, part_rest}
use Rattle.linear.proofs.WellFormed.{blank_formed, blank_satisfied}
use Rattle.poly.proofs.Writes.{length_writes, writes_in, writes_out, writes_cong}
use Rattle.code.specs.Terms.{size}
use Rattle.code.specs.Inner.Grid.{weight_of, listed}
use Rattle.code.proofs.GridEntries.{Split, split_sum}
use Rattle.mend.specs.Inner.Locating.{HoldsMore, HoldsHeavy}
use Rattle.mend.specs.Inner.Products.{entry_from, grid_from}
use Rattle.mend.proofs.Solving.{dot_nought}

-- ---- one entry

-- what is gathered from the entry e of the first grid on
pub rest_long : (grids : List ℕ) (e : ℕ) → length (part grids e (length grids)) ≡ length grids - e
rest_long grids e = ap length (part_rest grids e) ∙ length-drop e grids

pub row_gathered : (starts grids : List ℕ) (e : ℕ) → e ≤ length grids → ((n : ℕ) → n < length starts → get_or starts n 0 + e < length grids)
    → writes (zeros 32) (length starts) (listed starts (part grids e (length grids))) ≡ writes (zeros 32) (length starts) (entry_from starts grids e)
row_gathered starts grids e l h =
    writes_cong (zeros 32) (listed starts (part grids e (length grids))) (entry_from starts grids e) (length starts) (λ n k.
    let b = h n k in
    let c : e + get_or starts n 0 ≡ get_or starts n 0 + e = omega arith in
    part_at grids e (length grids) (get_or starts n 0) (omega arith) ∙ ap (λ (i : ℕ). get_or grids i 0) c)

-- a row of f 0, .., f (k - 1) and 0
module _ (q k : ℕ) (f : ℕ → ℕ) (row : List ℕ) (room : k < 32) (is : row ≡ writes (replicate 32 0) k f) where
  abbrev F : Field
  F = field_of q

  row_long : length row ≡ 32
  row_long = ap length is ∙ length_writes (replicate 32 0) f k ∙ length-replicate {A = ℕ} 32 0

  row_in : (j : ℕ) → j < k → entry row j ≡ f j
  row_in j l = ap (λ (t : List ℕ). entry t j) is ∙ writes_in (replicate 32 0) f k j l (omega (arith, length-replicate {A = ℕ} 32 0))

  row_side : entry row k ≡ 0
  row_side = ap (λ (t : List ℕ). entry t k) is ∙ writes_out (replicate 32 0) f k k (omega arith) ∙ get_or_zeros 32 k

  pub row_equation : ((j : ℕ) → j < k → f j < F.size) → Equation F k row
  row_equation small =
      record {
        long = omega (arith, row_long);
        symbols = λ j l. elim (ℕ_discrete j k) [
          | yes e ↦ rw (e, row_side) (zero_lt F)
          | no d ↦ let b : j < k = omega arith in rw (row_in j b) (small j b)
        ];
      }

  same_dot : (v : ℕ → ℕ) → dot F k (entry row) v ≡ dot F k f v
  same_dot v = dot_cong F k (entry row) f v row_in

  joined_more : (work work' : List ℕ) → Joined F k (flat 32 k work) (entry row) (flat 32 k work') → HoldsMore q 32 k work f work'
  joined_more work work' h =
      record {
        both = λ v. (
          λ m. (h.both v).0 (m.0, same_dot v ∙ m.1 ∙ sym row_side),
          λ s. let m = (h.both v).1 s in (m.0, sym (same_dot v) ∙ m.1 ∙ row_side),
        );
      }

  -- brought in where 0 is a solution
  pub brought_more : (work work' : List ℕ) (effect : Effect) → Satisfies F k (flat 32 k work) (λ j. 0) → Brought F 32 k work (entry row) work' effect
      → HoldsMore q 32 k work f work'
  brought_more work work' Pivot nought b = joined_more work work' b.0
  brought_more work work' Redundant nought b = joined_more work work' b.0
  brought_more work work' Contradiction nought b = absurd (b.0.never (λ j. 0) nought (dot_nought F k (entry row) ∙ sym row_side))

-- ---- all entries of a weight above m + s

module _ (q m s : ℕ) (grids : ℕ → List ℕ) where
  abbrev G : Field
  G = field_of q

  pub heavy_none : (work : List ℕ) → size q s < 32 → length work ≡ 32 * 32 → ((i : ℕ) → entry work i ≡ 0) → HoldsHeavy q m s 32 grids work 0
  heavy_none work room area zeros =
      record {
        formed = blank_formed G 32 (size q s) work zeros room area;
        same = λ v. (λ h. blank_satisfied G 32 (size q s) work zeros v, λ sat e l. absurd (omega arith));
      }

  pub heavy_nought : (work : List ℕ) (n : ℕ) → HoldsHeavy q m s 32 grids work n → Satisfies G (size q s) (flat 32 (size q s) work) (λ j. 0)
  heavy_nought work n held = (held.same (λ j. 0)).0 (λ e l w. dot_nought G (size q s) (λ i. get_or (grids i) e 0))

  -- an entry of a lower weight adds nothing
  pub heavy_light : (work : List ℕ) (e : ℕ) → HoldsHeavy q m s 32 grids work e → weight_of q e ≤ m + s → HoldsHeavy q m s 32 grids work (e + 1)
  heavy_light work e held low =
      record {
        formed = held.formed;
        same = λ v. (
          λ h. (held.same v).0 (λ i l. h i (omega arith)),
          λ sat i l w. elim (ℕ_discrete i e) [
            | yes is ↦ absurd (omega (arith, ap (weight_of q) is))
            | no d ↦ (held.same v).1 sat i (omega arith) w
          ],
        );
      }

  -- one of a higher weight adds its equation
  pub heavy_more : (work work' : List ℕ) (e : ℕ) → HoldsHeavy q m s 32 grids work e → m + s < weight_of q e → WellFormed G 32 (size q s) work'
      → HoldsMore q 32 (size q s) work (λ i. get_or (grids i) e 0) work' → HoldsHeavy q m s 32 grids work' (e + 1)
  heavy_more work work' e held high formed more =
      record {
        formed = formed;
        same = λ v. (
          λ h. (more.both v).0 ((held.same v).0 (λ i l. h i (omega arith)), h e (omega arith) high),
          λ sat i l w.
              let b = (more.both v).1 sat in
              elim (ℕ_discrete i e) [
                | yes is ↦ rw is b.1
                | no d ↦ (held.same v).1 b.0 i (omega arith) w
              ],
        );
      }

-- the weight of an entry, as the code has it
pub weight_split : (q e i j : ℕ) → Split q e i j → q * i + (q + 1) * j ≡ weight_of q e
weight_split q e i j d = omega (arith, split_sum q e i j d, add-mul q 1 j, ap (λ (x : ℕ). q * x) d.1)

-- the grids that begin at the starts
module _ (q m s n : ℕ) (starts grids : List ℕ) (is_k : length starts ≡ size q s) (e : ℕ) (work : List ℕ)
    (held : HoldsHeavy q m s 32 (grid_from n starts grids) work e) where
  pub bring_ready : WellFormed (field_of q) 32 (length starts) work
      × Satisfies (field_of q) (length starts) (flat 32 (length starts) work) (λ j. 0)
  bring_ready =
      subst (λ (k : ℕ). WellFormed (field_of q) 32 k work × Satisfies (field_of q) k (flat 32 k work) (λ j. 0)) (sym is_k)
      (held.formed, heavy_nought q m s (grid_from n starts grids) work e held)

  pub bring_turn : (work' : List ℕ) → e < n → m + s < weight_of q e → WellFormed (field_of q) 32 (length starts) work'
      → HoldsMore q 32 (length starts) work (entry_from starts grids e) work' → HoldsHeavy q m s 32 (grid_from n starts grids) work' (e + 1)
  bring_turn work' l high formed more =
      heavy_more q m s (grid_from n starts grids) work work' e held high
      (subst (λ (k : ℕ). WellFormed (field_of q) 32 k work') is_k formed)
      (record {
        both = λ v. (
          λ h. (here.both v).0 (h.0, same v ∙ h.1),
          λ sat. let h = (here.both v).1 sat in (h.0, sym (same v) ∙ h.1),
        );
      })
    where
      here : HoldsMore q 32 (size q s) work (entry_from starts grids e) work'
      here = subst (λ (k : ℕ). HoldsMore q 32 k work (entry_from starts grids e) work') is_k more

      same : (v : ℕ → ℕ) → dot (field_of q) (size q s) (entry_from starts grids e) v
          ≡ dot (field_of q) (size q s) (λ i. get_or (grid_from n starts grids i) e 0) v
      same v =
          dot_cong (field_of q) (size q s) (entry_from starts grids e) (λ i. get_or (grid_from n starts grids i) e 0) v
          (λ i b. sym (part_at grids (get_or starts i 0) (get_or starts i 0 + n) e (omega arith)))
