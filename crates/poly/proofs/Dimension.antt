-- Dimensions, by counting: no map of fewer coordinates onto more, and no injective map of more coordinates into fewer.
-- Assumes nothing.
use mathlib.Core.Path.{◌≡◌, sym, subst}
use mathlib.Core.List.Memᴰ
use mathlib.Core.List.{List, map}
use Prim.Native.Nat.{ℕ, suc, ◌^◌, ◌≤◌, ◌<◌}
use native.Mathlib.Nat.{pow-suc, pow-le-pow_right, one-le-pow, mul-le-mul_left}
use native.Mathlib.Decide.{dec_le}
use native.Mathlib.Omega.{arith}
use lib.ListN.{length-map}
use Rattle.poly.specs.Messages.{Vector, all}
use Rattle.poly.proofs.Lists.{nodup_map, pigeonhole}
use Rattle.poly.proofs.Messages.{length_all, mem_all, of_mem_all, nodup_all}

pow_reflects_le : (q z w : ℕ) → 1 < q → q ^ z ≤ q ^ w → z ≤ w
pow_reflects_le q z w h l = elim (dec_le z w) [
  | yes a ↦ a
  | no a ↦
      absurd (omega (
        arith,
        pow-le-pow_right {n = q} (omega arith) {i = suc w} {j = z} (omega arith),
        pow-suc q w,
        one-le-pow w q (omega arith),
        mul-le-mul_left (q ^ w) h,
      ))
]

module _ (q : ℕ) (two_le : 1 < q) (w z : ℕ) (f : List ℕ → List ℕ) where
  pub onto_le : ((y : List ℕ) → Vector q z y → (x : List ℕ) × Vector q w x × (f x ≡ y)) → z ≤ w
  onto_le onto =
      pow_reflects_le q z w two_le
      (rw (← length_all q z, ← length_all q w, ← length-map (all q w) f)
      (pigeonhole (all q z) (map f (all q w)) (nodup_all q z)
      (λ y m. let x = onto y (of_mem_all q z y m) in Memᴰ.cast (sym x.2) (Memᴰ.map f (mem_all q w x.0 x.1)))))

  pub injective_le : ((x : List ℕ) → Vector q w x → Vector q z (f x))
      → ((x y : List ℕ) → Vector q w x → Vector q w y → f x ≡ f y → x ≡ y) → w ≤ z
  injective_le into inj =
      pow_reflects_le q w z two_le
      (rw (← length_all q z, ← length_all q w, ← length-map (all q w) f)
      (pigeonhole (map f (all q w)) (all q z) (nodup_map f (all q w) (λ a b k l. inj a b (of_mem_all q w a k) (of_mem_all q w b l)) (nodup_all q w))
      (λ y m.
      let x = Memᴰ.of_map f (all q w) m in
      mem_all q z y (subst (λ (u : List ℕ). Vector q z u) x.2 (into x.0 (of_mem_all q w x.0 x.1))))))
