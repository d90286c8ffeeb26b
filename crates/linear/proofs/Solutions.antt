-- How many vectors satisfy a triangular system: size ^ (k - rank); and where all k rows are present, the one that does.
-- Assumes nothing.
use mathlib.Core.Path.{◌≡◌, refl, sym, ap, ◌∙◌}
use mathlib.Core.Bool.{Bool, true, false, not, ◌||◌, cond}
use mathlib.Core.Logic.{◌↔◌}
use mathlib.Core.List.{List, [], map}
use Prim.Native.Nat.{ℕ, zero, suc, ◌+◌, ◌-◌, ◌*◌, ◌^◌, ◌≤◌, ◌<◌}
use native.Mathlib.Nat.{mul-one, pow-zero, pow-suc, one-le-pow, mul-le-mul_right}
use native.Mathlib.Omega.{arith}
use lib.Dec.{T, eqb, eqb→eq, eqb_refl, T_not, not_T}
use lib.ListN.{length}
use Rattle.field.specs.Field.{Field}
use Rattle.field.specs.Tests.{every}
use Rattle.field.proofs.Search.{of_every, to_every}
use Rattle.poly.specs.Lists.{one_if, count, below}
use Rattle.poly.specs.Messages.{Vector, snoc, all}
use Rattle.poly.specs.Inner.Linear.{entry, dot}
use Rattle.linear.specs.Inner.Systems.{System, Satisfies, rank, Full, Solves}
use Rattle.poly.proofs.Bools.{implies, implied, same_test}
use Rattle.poly.proofs.Lists.{count_map, count_flat_map, count_le, count_every, count_none, count_one, count_cong, every_of_count, two_of_count}
use Rattle.poly.proofs.Below.{length_below, mem_below, of_mem_below, nodup_below}
use Rattle.poly.proofs.Messages.{get_or_snoc, get_or_snoc_last, vector_snoc, vector_ext, of_mem_all, nodup_all}
use Rattle.linear.proofs.Triangular.{Triangular, Follows, next, triangular_fewer}
use Rattle.linear.proofs.Triangular.{follows_suc, follows_fewer, follows_local, follows_unique, next_local, next_lt, satisfies_follows}

-- v satisfies the system, as a test
unfoldable pub satisfies : Field → ℕ → System → (ℕ → ℕ) → Bool
satisfies F k S v = every k (λ p. not (S.present p) || eqb (dot F k (S.row p) v) (S.rhs p))

one_lt_pow : (q n : ℕ) → 1 < q → 0 < n → 1 < q ^ n
one_lt_pow q zero h l = absurd (omega arith)
one_lt_pow q (suc n) h l = omega (arith, pow-suc q n, mul-le-mul_right q (one-le-pow n q (omega arith)))

module _ (F : Field) (S : System) where
  pub of_satisfies : (k : ℕ) (v : ℕ → ℕ) → T (satisfies F k S v) → Satisfies F k S v
  unfolding satisfies
  of_satisfies k v t =
      record {
        holds = λ p l h. eqb→eq _ _
            (implied (S.present p) _ (of_every k (λ p. not (S.present p) || eqb (dot F k (S.row p) v) (S.rhs p)) t p l) h);
      }

  pub to_satisfies : (k : ℕ) (v : ℕ → ℕ) → Satisfies F k S v → T (satisfies F k S v)
  unfolding satisfies
  to_satisfies k v h =
      to_every k (λ p. not (S.present p) || eqb (dot F k (S.row p) v) (S.rhs p))
      (λ p l. implies (S.present p) _ (λ t. rw (h.holds p l t) (eqb_refl (S.rhs p))))

  -- ---- one unknown more

  module _ (k : ℕ) (tri : Triangular F (suc k) S) (v : List ℕ) (x : ℕ) (vector : Vector F.size k v) (small : x < F.size) where
    longer : Vector F.size (suc k) (snoc v x)
    longer = vector_snoc F.size k v x vector small

    first : (j : ℕ) → j < k → entry (snoc v x) j ≡ entry v j
    first j l = get_or_snoc v x j (omega (arith, vector.len))

    last : entry (snoc v x) k ≡ x
    last = get_or_snoc_last v x k vector.len

    given : next F S k (entry (snoc v x)) ≡ next F S k (entry v)
    given = next_local F S k (entry (snoc v x)) (entry v) first

    -- the rows before k do not see it, and row k, if it is present, says what it is
    pub satisfies_snoc : Satisfies F (suc k) S (entry (snoc v x)) ↔ (Satisfies F k S (entry v) × (T (S.present k) → x ≡ next F S k (entry v)))
    satisfies_snoc = (
      λ h.
          let f : Follows F S (suc k) (entry (snoc v x)) = whole.0 h in (
            part.1 (follows_local F S k _ _ first (follows_fewer F S k (suc k) _ (omega arith) f)),
            λ t. sym last ∙ f.value k (omega arith) t ∙ given,
          ),
      λ h. whole.1 (follows_suc F S k _ (follows_local F S k _ _ (λ j l. sym (first j l)) (part.0 h.0)) (λ t. last ∙ h.1 t ∙ sym given)),
    )
      where
        whole : Satisfies F (suc k) S (entry (snoc v x)) ↔ Follows F S (suc k) (entry (snoc v x))
        whole = satisfies_follows F S (suc k) tri (entry (snoc v x)) longer.small

        part : Satisfies F k S (entry v) ↔ Follows F S k (entry v)
        part = satisfies_follows F S k (triangular_fewer F S k (suc k) (omega arith) tri) (entry v) vector.small

  -- how many values of unknown k extend a solution
  choices : ℕ → ℕ
  choices k = cond (S.present k) 1 F.size

  abbrev passes : ℕ → List ℕ → Bool
  passes k v = satisfies F k S (entry v)

  extensions : (k : ℕ) → Triangular F (suc k) S → (v : List ℕ) → Vector F.size k v → Satisfies F k S (entry v)
      → count (λ x. passes (suc k) (snoc v x)) (below F.size) ≡ choices k
  unfolding choices
  extensions k tri v u h = go (S.present k) (λ t. t) (λ t. t)
    where
      passed : (x : ℕ) → x < F.size → (T (S.present k) → x ≡ next F S k (entry v)) → T (passes (suc k) (snoc v x))
      passed x l e = to_satisfies (suc k) (entry (snoc v x)) ((satisfies_snoc k tri v x u l).1 (h, e))

      go : (b : Bool) → (T b → T (S.present k)) → (T (S.present k) → T b)
          → count (λ x. passes (suc k) (snoc v x)) (below F.size) ≡ cond b 1 F.size
      go true here back =
          let x : ℕ = next F S k (entry v) in
          let l : x < F.size = next_lt F S (suc k) tri k (omega arith) (here tt) (entry v) in
          count_one (λ x. passes (suc k) (snoc v x)) x (below F.size) (nodup_below F.size) (mem_below F.size x l) (passed x l (λ t. refl))
          (λ y m t. ((satisfies_snoc k tri v y u (of_mem_below F.size y m)).0 (of_satisfies (suc k) (entry (snoc v y)) t)).1 (here tt))
      go false here back =
          count_every (λ x. passes (suc k) (snoc v x)) (below F.size) (λ x m. passed x (of_mem_below F.size x m) (λ t. absurd (back t)))
          ∙ length_below F.size

  step : (k : ℕ) → Triangular F (suc k) S → count (passes (suc k)) (all F.size (suc k)) ≡ count (passes k) (all F.size k) * choices k
  unfolding all
  step k tri =
      count_flat_map (passes (suc k)) (passes k) (choices k) (λ v. map (snoc v) (below F.size)) (all F.size k)
      (λ v m t. count_map (passes (suc k)) (snoc v) (below F.size) ∙ extensions k tri v (of_mem_all F.size k v m) (of_satisfies k (entry v) t))
      (λ v m t.
      count_map (passes (suc k)) (snoc v) (below F.size)
      ∙ count_none (λ x. passes (suc k) (snoc v x)) (below F.size)
      (λ x l. not_T (passes (suc k) (snoc v x)) (λ s.
      T_not (passes k v) t
      (to_satisfies k (entry v)
      ((satisfies_snoc k tri v x (of_mem_all F.size k v m) (of_mem_below F.size x l)).0 (of_satisfies (suc k) (entry (snoc v x)) s)).0))))

  -- ---- the number of solutions

  pub rank_le : (k : ℕ) → rank k S ≤ k
  unfolding rank
  rank_le k = omega (arith, count_le S.present (below k), length_below k)

  pub rank_full : (k : ℕ) → rank k S ≡ k → Full k S
  unfolding rank
  rank_full k e p l = every_of_count S.present (below k) (omega (arith, length_below k)) p (mem_below k p l)

  pub full_rank : (k : ℕ) → Full k S → rank k S ≡ k
  unfolding rank
  full_rank k h = count_every S.present (below k) (λ p m. h p (of_mem_below k p m)) ∙ length_below k

  -- THE NUMBER OF SOLUTIONS
  pub solutions : (k : ℕ) → Triangular F k S → count (λ v. satisfies F k S (entry v)) (all F.size k) ≡ F.size ^ (k - rank k S)
  unfolding all satisfies every count rank choices below
  solutions zero tri = sym (pow-zero F.size)
  solutions (suc k) tri = step k tri ∙ rw (solutions k (triangular_fewer F S k (suc k) (omega arith) tri)) (power (S.present k) (rank_le k))
    where
      power : (b : Bool) → rank k S ≤ k → F.size ^ (k - rank k S) * cond b 1 F.size ≡ F.size ^ (suc k - (one_if b + rank k S))
      power true l = mul-one _ ∙ ap (λ (e : ℕ). F.size ^ e) (omega arith)
      power false l = sym (pow-suc F.size (k - rank k S)) ∙ ap (λ (e : ℕ). F.size ^ e) (omega arith)

  module _ (k : ℕ) (tri : Triangular F k S) where
    -- by any test for it
    pub solutions_by : (test : List ℕ → Bool) → ((v : List ℕ) → Vector F.size k v → T (test v) ↔ Satisfies F k S (entry v))
        → count test (all F.size k) ≡ F.size ^ (k - rank k S)
    solutions_by test h =
        count_cong test (passes k) (all F.size k)
        (λ v m.
        let both = h v (of_mem_all F.size k v m) in
        same_test (test v) (passes k v) (λ t. to_satisfies k (entry v) (both.0 t)) (λ t. both.1 (of_satisfies k (entry v) t)))
        ∙ solutions k tri

    -- with fewer rows than unknowns there are two solutions
    pub ambiguous : rank k S < k
        → (v : List ℕ) × (w : List ℕ) × Vector F.size k v × Vector F.size k w
        × Satisfies F k S (entry v) × Satisfies F k S (entry w) × (v ≡ w → ⊥)
    ambiguous l =
        let several : 1 < F.size ^ (k - rank k S) = one_lt_pow F.size (k - rank k S) F.two_le (omega arith) in
        let w = two_of_count (passes k) (all F.size k) (nodup_all F.size k) (rw (solutions k tri) several) in (
          w.0,
          w.1,
          of_mem_all F.size k w.0 w.2,
          of_mem_all F.size k w.1 w.3,
          of_satisfies k (entry w.0) w.4,
          of_satisfies k (entry w.1) w.5,
          w.6,
        )

  -- ---- forward substitution

  -- the vector that it builds
  unfoldable pub forward : ℕ → List ℕ
  forward zero = []
  forward (suc k) = snoc (forward k) (next F S k (entry (forward k)))

  pub forward_vector : (k : ℕ) → Triangular F k S → Full k S → Vector F.size k (forward k)
  unfolding forward
  forward_vector zero tri every = record { len = refl; small = λ i l. absurd (omega arith) }
  forward_vector (suc k) tri every =
      vector_snoc F.size k (forward k) (next F S k (entry (forward k)))
      (forward_vector k (triangular_fewer F S k (suc k) (omega arith) tri) (λ p l. every p (omega arith)))
      (next_lt F S (suc k) tri k (omega arith) (every k (omega arith)) (entry (forward k)))

  pub forward_satisfies : (k : ℕ) → Triangular F k S → Full k S → Satisfies F k S (entry (forward k))
  unfolding forward
  forward_satisfies zero tri every = record { holds = λ p l t. absurd (omega arith) }
  forward_satisfies (suc k) tri every =
      let tri' : Triangular F k S = triangular_fewer F S k (suc k) (omega arith) tri in
      let every' : Full k S = λ p l. every p (omega arith) in
      (satisfies_snoc k tri (forward k) (next F S k (entry (forward k))) (forward_vector k tri' every')
      (next_lt F S (suc k) tri k (omega arith) (every k (omega arith)) (entry (forward k)))
      ).1 (forward_satisfies k tri' every', λ t. refl)

  module _ (k : ℕ) (tri : Triangular F k S) (every : Full k S) where
    -- two functions that satisfy a system with all its rows agree
    pub satisfies_unique : (v w : ℕ → ℕ) → ((j : ℕ) → j < k → v j < F.size) → ((j : ℕ) → j < k → w j < F.size)
        → Satisfies F k S v → Satisfies F k S w → (j : ℕ) → j < k → v j ≡ w j
    satisfies_unique v w sv sw hv hw =
        follows_unique F S k v w every ((satisfies_follows F S k tri v sv).0 hv) ((satisfies_follows F S k tri w sw).0 hw)

    pub forward_unique : (v : List ℕ) → Vector F.size k v → Satisfies F k S (entry v) → v ≡ forward k
    forward_unique v u h =
        let f : Vector F.size k (forward k) = forward_vector k tri every in
        vector_ext F.size k v (forward k) u f
        (satisfies_unique (entry v) (entry (forward k)) u.small f.small h (forward_satisfies k tri every))

    pub forward_solves : Solves F k S (forward k)
    forward_solves =
        let f : Vector F.size k (forward k) = forward_vector k tri every in
        record {
          symbols = f.small;
          solution = forward_satisfies k tri every;
          only = λ v small h. satisfies_unique v (entry (forward k)) small f.small h (forward_satisfies k tri every);
        }

  -- ---- the one solution, as a list

  pub solves_vector : (k : ℕ) (message : List ℕ) → length message ≡ k → Solves F k S message → Vector F.size k message
  solves_vector k message e h = record { len = e; small = h.symbols }

  pub solves_only : (k : ℕ) (message : List ℕ) → length message ≡ k → Solves F k S message
      → (v : List ℕ) → Vector F.size k v → Satisfies F k S (entry v) → v ≡ message
  solves_only k message e h v u s = vector_ext F.size k v message u (solves_vector k message e h) (h.only (entry v) u.small s)
