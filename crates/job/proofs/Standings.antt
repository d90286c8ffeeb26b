-- What a job holds of the symbols below a place, and how symbols that are compared with a whole word keep it.
-- Assumes nothing.
use mathlib.Core.Bool.{Bool, true, false}
use mathlib.Core.List.{List}
use mathlib.Core.Logic.{inl, inr, ⊎_elim}
use mathlib.Core.Path.{◌≡◌, sym, ap, ◌∙◌, subst}
use Prim.Native.Nat.{ℕ, ◌≤◌, ◌<◌}
use native.Mathlib.Decide.{dec_lt}
use native.Mathlib.Omega.{arith}
use borrow.Author.Tests.{eq-eqb, ne_eqb}
use lib.ListN.{length, get_or}
use Rattle.std.specs.Prelude.{Option, Some, None, is_none}
use Rattle.field.proofs.Fields.{field_of}
use Rattle.poly.specs.Messages.{Vector}
use Rattle.poly.specs.Inner.Linear.{entry}
use Rattle.linear.specs.Inner.Systems.{flat, rank, WellFormed, Solves}
use Rattle.linear.proofs.Solutions.{solves_vector, solves_only}
use Rattle.points.specs.Series.{columns_of}
use Rattle.code.specs.Terms.{size}
use Rattle.code.specs.Word.{word_of}
use Rattle.code.specs.Inner.Recovering.{BrokenOver}
use Rattle.code.proofs.Rows.{word_dot}
use Rattle.equations.specs.Inner.Collecting.{FitsBelow, Collected}
use Rattle.job.specs.Sound.{NoneBelow, OnlyBelow, Standing}
use Rattle.job.specs.declared.bringing.Progress.{Progress}
use Rattle.job.specs.Inner.Bringing.{Counted, Stopped, Collects, Compared, Usable, is_complete, Brings}

module _ (q series m : ℕ) (word : List ℕ) where
  -- what fits the symbols below p fits those below an earlier place
  fits_fewer : (p₀ p : ℕ) → p₀ ≤ p → (v : ℕ → ℕ) → FitsBelow q (columns_of q series) m word p v → FitsBelow q (columns_of q series) m word p₀ v
  fits_fewer p₀ p l v f = record { at = λ i k. f.at i (omega arith) }

  none_further : (p₀ p : ℕ) → p₀ ≤ p → NoneBelow q series m word p₀ → NoneBelow q series m word p
  none_further p₀ p l h v vector f = h v vector (fits_fewer p₀ p l (entry v) f)

  module _ (b : BrokenOver q (columns_of q series) m word) where
    -- a complete system leaves its solution alone
    pub only_solution : (work : List ℕ) (p r : ℕ) (candidate whole : List ℕ) → Collected q (columns_of q series) m word work p r
        → Solves (field_of q) (size q m) (flat 64 (size q m) work) candidate → length candidate ≡ size q m
        → whole ≡ word_of q (columns_of q series) m candidate → OnlyBelow q series m word p candidate whole
    only_solution work p r candidate whole c s long w =
        record {
          symbols = solves_vector (field_of q) (flat 64 (size q m) work) (size q m) candidate long s;
          fits = (c.same (entry candidate)).1 s.solution;
          only = λ v vector f.
              solves_only (field_of q) (flat 64 (size q m) work) (size q m) candidate long s v vector ((c.same (entry v)).0 f);
          coded = w;
        }

    module _ (candidate whole : List ℕ) (p₀ p : ℕ) (l : p₀ ≤ p) (k : p ≤ length word) (h : OnlyBelow q series m word p₀ candidate whole) where
      -- symbols as in its word leave it alone
      only_further : ((i : ℕ) → p₀ ≤ i → i < p → (get_or word i 0 ≡ 255 → ⊥) → get_or whole i 0 ≡ get_or word i 0)
          → OnlyBelow q series m word p candidate whole
      only_further same =
          record {
            symbols = h.symbols;
            fits = record {
              at = λ i n d. elim (dec_lt i p₀) [
                | yes t ↦ h.fits.at i t d
                | no t ↦
                    sym (word_dot q (columns_of q series) b.over m candidate i (omega (arith, b.long)))
                    ∙ ap (λ (x : List ℕ). get_or x i 0) (sym h.coded) ∙ same i (omega arith) n d
              ];
            };
            only = λ v vector f. h.only v vector (fits_fewer p₀ p l (entry v) f);
            coded = h.coded;
          }

      -- one that differs leaves none
      none_differs : (i : ℕ) → p₀ ≤ i → i < p → (get_or word i 0 ≡ 255 → ⊥) → (get_or whole i 0 ≡ get_or word i 0 → ⊥) → NoneBelow q series m word p
      none_differs i a t d n v vector f =
          let e = h.only v vector (fits_fewer p₀ p l (entry v) f) in
          n (ap (λ (x : List ℕ). get_or x i 0) h.coded ∙ ap (λ (x : List ℕ). get_or (word_of q (columns_of q series) m x) i 0) (sym e)
          ∙ word_dot q (columns_of q series) b.over m v i (omega (arith, b.long)) ∙ f.at i t d)

    module _ (work candidate whole : List ℕ) (p₀ p : ℕ) (l : p₀ ≤ p) (k : p ≤ length word) (complete : Bool) where
      -- after a clash nothing but the count goes on
      clash_stands : (other : List ℕ) (r : Option ℕ) → Compared word other p₀ None p r → NoneBelow q series m word p₀
          → Standing q series m word work candidate whole p complete (is_none r)
      clash_stands other None c h = none_further p₀ p l h
      clash_stands other (Some r) c h = let e = c.0 in let z : ◌≡◌ {A = ℕ} 0 1 = cc in absurd (omega arith)

      -- the candidate stays, or there is a clash
      only_stands : (n : ℕ) → (r : Option ℕ) → (r ≡ Some n → complete ≡ true) → Compared word whole p₀ (Some n) p r → OnlyBelow q series m word p₀ candidate whole
          → Standing q series m word work candidate whole p complete (is_none r)
      only_stands n None e (inl c) h = let z : ◌≡◌ {A = ℕ} 0 1 = cc in absurd (omega arith)
      only_stands n None e (inr c) h = none_differs candidate whole p₀ p l k h c.0 c.1 c.2 c.3 c.4
      only_stands n (Some r) e c h =
          subst (λ (x : Bool). Standing q series m word work candidate whole p x false) (sym (e (sym c.0)))
          (only_further candidate whole p₀ p l k h c.1)

-- ---- by the flags

module _ (q series m : ℕ) (word work candidate whole : List ℕ) (p : ℕ) where
  abbrev StandingBy : Bool → Bool → Type 0
  StandingBy complete clash = Standing q series m word work candidate whole p complete clash

  pub stands_none : (complete clash : Bool) → clash ≡ true → StandingBy complete clash → NoneBelow q series m word p
  stands_none complete true e h = h
  stands_none complete false e h = let z : ◌≡◌ {A = ℕ} 0 1 = cc in absurd (omega arith)

  pub stands_only : (complete clash : Bool) → complete ≡ true → clash ≡ false → StandingBy complete clash
      → OnlyBelow q series m word p candidate whole
  stands_only true false d e h = h
  stands_only false false d e h = let z : ◌≡◌ {A = ℕ} 0 1 = cc in absurd (omega arith)
  stands_only complete true d e h = let z : ◌≡◌ {A = ℕ} 0 1 = cc in absurd (omega arith)

  pub stands_collected : (complete clash : Bool) → complete ≡ false → clash ≡ false → StandingBy complete clash
      → Collected q (columns_of q series) m word work p (rank (size q m) (flat 64 (size q m) work))
  stands_collected false false d e h = h
  stands_collected true false d e h = let z : ◌≡◌ {A = ℕ} 0 1 = cc in absurd (omega arith)
  stands_collected complete true d e h = let z : ◌≡◌ {A = ℕ} 0 1 = cc in absurd (omega arith)

module _ (q m : ℕ) (work candidate : List ℕ) where
  pub usable_message : (complete clash : Bool) → complete ≡ true → clash ≡ false → Usable q m work candidate complete clash
      → Vector (field_of q).size (size q m) candidate
  usable_message true false d e h = h
  usable_message false false d e h = let z : ◌≡◌ {A = ℕ} 0 1 = cc in absurd (omega arith)
  usable_message complete true d e h = let z : ◌≡◌ {A = ℕ} 0 1 = cc in absurd (omega arith)

  pub usable_formed : (complete clash : Bool) → complete ≡ false → clash ≡ false → Usable q m work candidate complete clash
      → WellFormed (field_of q) 64 (size q m) work
  usable_formed false false d e h = h
  usable_formed true false d e h = let z : ◌≡◌ {A = ℕ} 0 1 = cc in absurd (omega arith)
  usable_formed complete true d e h = let z : ◌≡◌ {A = ℕ} 0 1 = cc in absurd (omega arith)

-- ---- what `bring` gives, in its three ways

-- a clash stays
clash_stays : (word other : List ℕ) (p₀ p n : ℕ) (r : Option ℕ) → Compared word other p₀ None p r → r ≡ Some n → ⊥
clash_stays word other p₀ p n None c e = let z : ◌≡◌ {A = ℕ} 0 1 = cc in omega arith
clash_stays word other p₀ p n (Some r) c e = let d = c.0 in let z : ◌≡◌ {A = ℕ} 0 1 = cc in omega arith

-- without one the rows stay
rows_stay : (word other : List ℕ) (p₀ p n m : ℕ) (r : Option ℕ) → Compared word other p₀ (Some n) p r → r ≡ Some m → n ≡ m
rows_stay word other p₀ p n m None c e = let z : ◌≡◌ {A = ℕ} 0 1 = cc in absurd (omega arith)
rows_stay word other p₀ p n m (Some r) c e = let d = c.0 in cc

module _ (q series m : ℕ) (word : List ℕ) (b : BrokenOver q (columns_of q series) m word) (budget : ℕ) (work₀ candidate₀ whole₀ : List ℕ) (p₀ : ℕ)
    (complete₀ clash₀ : Bool) (work candidate whole : List ℕ) (r : Progress) (counts : Counted word budget p₀ 0 r.next r.brought) where
  abbrev Before : Type 0
  Before = Standing q series m word work₀ candidate₀ whole₀ p₀ complete₀ clash₀

  -- the symbols below p clash, and from there on they are counted
  pub brings_clash : (p : ℕ) (other : List ℕ) → p ≤ r.next → Stopped word budget r.next r.brought → (Before → NoneBelow q series m word p)
      → Compared word other p None r.next r.rank
      → Brings q series m word budget work₀ candidate₀ whole₀ p₀ complete₀ clash₀ work candidate whole r
  brings_clash p other l stops none c =
      record {
        counts = counts;
        stops = stops;
        rows = λ n e. absurd (clash_stays word other p r.next n r.rank c e);
        message = λ e. absurd (clash_stays word other p r.next (size q m) r.rank c e);
        fewer = λ n e. absurd (clash_stays word other p r.next n r.rank c e);
        stands = λ h.
            clash_stands q series m word b work candidate whole p r.next l counts.within (is_complete (size q m) r.rank) other r.rank c (none h);
      }

  -- the candidate alone fits those below p, and from there on they are compared with its word
  pub brings_only : (p n : ℕ) → p ≤ r.next → Stopped word budget r.next r.brought → n ≡ size q m
      → Vector (field_of q).size (size q m) candidate → (Before → OnlyBelow q series m word p candidate whole)
      → Compared word whole p (Some n) r.next r.rank
      → Brings q series m word budget work₀ candidate₀ whole₀ p₀ complete₀ clash₀ work candidate whole r
  brings_only p n l stops full vector only c =
      record {
        counts = counts;
        stops = stops;
        rows = λ a e. omega (arith, rows_stay word whole p r.next n a r.rank c e);
        message = λ e. vector;
        fewer = λ a e k. absurd (omega (arith, rows_stay word whole p r.next n a r.rank c e));
        stands = λ h.
            only_stands q series m word b work candidate whole p r.next l counts.within (is_complete (size q m) r.rank) n r.rank
            (λ e. ap (is_complete (size q m)) e ∙ eq-eqb n (size q m) full) c (only h);
      }

  -- rows are missing
  pub brings_fewer : (n r₀ : ℕ) → r.rank ≡ Some n → n < size q m → (Before → Collected q (columns_of q series) m word work₀ p₀ r₀)
      → Collects q (columns_of q series) m word budget work₀ p₀ r₀ work r.next (Some n) r.brought
      → Brings q series m word budget work₀ candidate₀ whole₀ p₀ complete₀ clash₀ work candidate whole r
  brings_fewer n r₀ e l before c =
      let ready = c.0.ready in
      record {
        counts = counts;
        stops = ⊎_elim (λ x. absurd (omega arith)) (λ s. s) c.1;
        rows = λ a d. let same : n ≡ a = cc in omega arith;
        message = λ d. let same : n ≡ size q m = cc in absurd (omega arith);
        fewer = λ a d k. let same : n ≡ a = cc in sym same ∙ ready.ranked;
        stands = λ h.
            subst (λ (x : Option ℕ). Standing q series m word work candidate whole r.next (is_complete (size q m) x) (is_none x)) (sym e)
            (subst (λ (x : Bool). Standing q series m word work candidate whole r.next x false)
            (sym (ne_eqb n (size q m) (λ x. omega arith)))
            (subst (λ (x : ℕ). Collected q (columns_of q series) m word work r.next x) ready.ranked (c.0.collected (before h))));
      }
