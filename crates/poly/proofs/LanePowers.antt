-- Values side by side, each times its place to a power: what multiplying them by their places again and again leaves.
-- Assumes nothing.
use mathlib.Core.List.{List}
use mathlib.Core.Path.{◌≡◌, sym, ap, ◌∙◌}
use Prim.Native.Nat.{ℕ, suc, ◌<◌}
use Rattle.field.specs.Field.{Field}
use Rattle.field.specs.Power.{power}
use Rattle.field.specs.Sum.{sum}
use Rattle.field.proofs.FieldLaws.{times_left_comm, times_one_right}
use Rattle.field.proofs.Powers.{power_zero, power_suc}
use Rattle.field.proofs.Sums.{sum_cong}
use Rattle.poly.specs.Inner.Ranges.{Below}
use Rattle.poly.specs.Inner.Linear.{entry}
use Rattle.poly.specs.Inner.Lanes.{lanes}
use Rattle.poly.proofs.LaneLaws.{lanes_at, lanes_below, lanes_cong}

-- each value times its place to the power e, and these side by side
abbrev pub raised : Field → List ℕ → List ℕ → ℕ → ℕ → ℕ
raised F places values e s = F.times (entry values s) (power F (entry places s) e)

abbrev pub raised_lanes : Field → List ℕ → List ℕ → ℕ → List ℕ
raised_lanes F places values e = lanes (raised F places values e)

module _ (F : Field) (places values : List ℕ) where
  pub raised_none : (v : List ℕ) → Below F.size values → v ≡ lanes (entry values) → v ≡ raised_lanes F places values 0
  raised_none v small e =
      e ∙ lanes_cong (entry values) (raised F places values 0)
      (λ s l. sym (ap (F.times (entry values s)) (power_zero F (entry places s)) ∙ times_one_right F (entry values s) (small s)))

  module _ (v : List ℕ) (e : ℕ) (is_v : v ≡ raised_lanes F places values e) where
    pub raised_at : (s : ℕ) → s < 16 → entry v s ≡ raised F places values e s
    raised_at s l = ap (λ (x : List ℕ). entry x s) is_v ∙ lanes_at (raised F places values e) s l

    pub raised_more : (new : List ℕ) → new ≡ lanes (λ s. F.times (entry places s) (entry v s)) → new ≡ raised_lanes F places values (suc e)
    raised_more new is_new =
        is_new ∙ lanes_cong (λ s. F.times (entry places s) (entry v s)) (raised F places values (suc e))
        (λ s l. ap (F.times (entry places s)) (raised_at s l)
        ∙ times_left_comm F (entry places s) (entry values s) (power F (entry places s) e)
        ∙ ap (F.times (entry values s)) (sym (power_suc F (entry places s) e)))

    pub raised_below : Below F.size v
    raised_below s =
        rw is_v (lanes_below (raised F places values e) F.size (λ s l. F.times_lt (entry values s) (power F (entry places s) e)) s)

    pub raised_sum : sum 16 (entry v) ≡ sum 16 (raised F places values e)
    raised_sum = sum_cong 16 (entry v) (raised F places values e) raised_at
