-- The loops that bring symbols in: their beginning and their steps.
-- Assumes nothing.
use mathlib.Core.List.{List}
use mathlib.Core.Logic.{inl, inr}
use mathlib.Core.Path.{◌≡◌, refl}
use Prim.Native.Nat.{ℕ, ◌+◌, ◌≤◌, ◌<◌}
use native.Mathlib.Decide.{ℕ_discrete}
use native.Mathlib.Omega.{arith}
use lib.ListN.{length, get_or, take}
use Rattle.std.specs.Prelude.{Option, Some, None}
use Rattle.equations.specs.Inner.Collecting.{Advanced}
use Rattle.equations.proofs.Collecting.{taken_gap, collected_more}
use Rattle.job.specs.Symbols.{arrived_in}
use Rattle.job.specs.Inner.Bringing.{Counted, Ready, Collecting, Collects, Compared}
use Rattle.job.proofs.Symbols.{count_gap, count_symbol}

-- ---- the count

module _ (word : List ℕ) (budget p₀ b₀ : ℕ) where
  pub counted_none : p₀ ≤ length word → b₀ ≤ budget → Counted word budget p₀ b₀ p₀ b₀
  counted_none l f = record { onward = omega arith; within = l; few = f; counted = refl }

  module _ (p b : ℕ) (h : Counted word budget p₀ b₀ p b) (l : p < length word) where
    pub counted_gap : get_or word p 0 ≡ 255 → Counted word budget p₀ b₀ (p + 1) b
    counted_gap e =
        record {
          onward = omega (arith, h.onward);
          within = omega arith;
          few = h.few;
          counted = omega (arith, h.counted, count_gap word p (arrived_in (take p word)) l refl e);
        }

    pub counted_symbol : (get_or word p 0 ≡ 255 → ⊥) → (b ≡ budget → ⊥) → Counted word budget p₀ b₀ (p + 1) (b + 1)
    counted_symbol d n =
        record {
          onward = omega (arith, h.onward);
          within = omega arith;
          few = omega (arith, h.few);
          counted = omega (arith, h.counted, count_symbol word p (arrived_in (take p word)) l refl d);
        }

-- one count after the other
pub counted_on : (word : List ℕ) (budget p₀ b₀ p b p' b' : ℕ) → Counted word budget p₀ b₀ p b → Counted word budget p b p' b'
    → Counted word budget p₀ b₀ p' b'
counted_on word budget p₀ b₀ p b p' b' h k =
    record {
      onward = omega (arith, h.onward, k.onward);
      within = k.within;
      few = k.few;
      counted = omega (arith, h.counted, k.counted);
    }

-- ---- by equations

module _ (q : ℕ) (columns : List ℕ) (m : ℕ) (word work₀ : List ℕ) (p₀ r₀ : ℕ) where
  pub collecting_none : Ready q m work₀ r₀ → Collecting q columns m word work₀ p₀ r₀ work₀ p₀ r₀
  collecting_none h = record { ready = h; collected = λ c. c }

  module _ (work : List ℕ) (p r : ℕ) (h : Collecting q columns m word work₀ p₀ r₀ work p r) where
    pub collecting_gap : get_or word p 0 ≡ 255 → Collecting q columns m word work₀ p₀ r₀ work (p + 1) r
    collecting_gap e =
        record {
          ready = h.ready;
          collected = λ c.
              collected_more q columns m word work work p r r (h.collected c)
              (taken_gap q columns m p (get_or word p 0) r work e h.ready.formed);
        }

    pub collecting_step : (work' : List ℕ) (r' : ℕ) → Advanced q columns m p (get_or word p 0) r work work' (Some r')
        → Collecting q columns m word work₀ p₀ r₀ work' (p + 1) r'
    collecting_step work' r' a =
        record {
          ready = record { formed = a.formed; ranked = a.ranked h.ready.ranked };
          collected = λ c. collected_more q columns m word work work' p r r' (h.collected c) a;
        }

    pub collects_clash : (budget b : ℕ) (work' : List ℕ) → Advanced q columns m p (get_or word p 0) r work work' None
        → Collects q columns m word budget work₀ p₀ r₀ work' (p + 1) None b
    collects_clash budget b work' a c v f =
        a v (((h.collected c).same v).0 (record { at = λ i l. f.at i (omega arith) })) (f.at p (omega arith))

-- ---- by a whole word

module _ (word whole : List ℕ) (p₀ : ℕ) (r₀ : Option ℕ) where
  pub compared_none : Compared word whole p₀ r₀ p₀ r₀
  compared_none = go r₀
    where
      go : (r : Option ℕ) → Compared word whole p₀ r p₀ r
      go None = inl refl
      go (Some r) = (refl, λ i l k. absurd (omega arith))

  module _ (p : ℕ) where
    -- a place that is missing, or has the symbol of the whole word
    pub compared_same : (r : Option ℕ) → Compared word whole p₀ r₀ p r
        → ((get_or word p 0 ≡ 255 → ⊥) → get_or whole p 0 ≡ get_or word p 0) → Compared word whole p₀ r₀ (p + 1) r
    compared_same None (inl e) s = inl e
    compared_same None (inr h) s = inr (h.0, h.1, omega (arith, h.2), h.3, h.4)
    compared_same (Some r) h s = (
      h.0,
      λ i l k d. elim (ℕ_discrete i p) [
        | yes e ↦ rw e (s (λ g. d (rw e g)))
        | no n ↦ h.1 i l (omega arith) d
      ],
    )

    pub compared_differs : p₀ ≤ p → (get_or word p 0 ≡ 255 → ⊥) → (get_or whole p 0 ≡ get_or word p 0 → ⊥)
        → Compared word whole p₀ r₀ (p + 1) None
    compared_differs l d n = inr (p, l, omega arith, d, n)
