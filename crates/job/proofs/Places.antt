-- What the loops over the places of a word from one on are given: each place, with what stands there.
-- Assumes nothing.
use mathlib.Core.List.{List, [], ◌∷◌, ◌++◌}
use mathlib.Core.Path.{◌≡◌, ap, ◌∙◌}
use Prim.Native.Nat.{ℕ, ◌+◌, ◌≤◌, ◌<◌}
use native.Mathlib.Omega.{arith}
use lib.ListN.{length, get_or, drop, length-append}
use Rattle.std.proofs.Common.{zero-add, length-drop, get_or-drop}
use Rattle.std.proofs.lemmas.List.FromFn.{length-enumerate_from, get_or-enumerate_from}
use Rattle.std.specs.List.{enumerate_from, zip}
use Rattle.std.specs.Iterator.Adapters.{zip_first, zip_second, enumerate_source, enumerate_count, enumerate_steps, skip_source, skip_count, skip_steps}
use Rattle.std.specs.Slice.Iter.{iter_rest}
use Rattle.std.proofs.iter.Yields.{fronts}
use Rattle.std.proofs.lemmas.Iterator.{YieldsList, YieldsList-from_slice, YieldsList-from_zip, zips}
use Rattle.std.proofs.lemmas.Iterator.Adapters.{YieldsList-from_skip}
use Rattle.std.proofs.lemmas.Iterator.Consumers.{YieldsList-from_enumerate}
use Rattle.std.specs.declared.iter.Skip.{Skip}
use Rattle.std.specs.declared.iter.Enumerate.{Enumerate}
use Rattle.std.specs.declared.iter.Zip.{Zip}
use Rattle.std.proofs.Common.{Iter}

-- the elements from the place `from` on, each with its place
module _ {X : Type 0} (xs : List X) (from : ℕ) where
  abbrev pub places : List (ℕ × X)
  places = drop from (enumerate_from 0 xs)

  -- i of them are all, or one more follows
  pub places_end : (i : ℕ) → from ≤ length xs → i ≡ length places → from + i ≡ length xs
  places_end i l e = omega (arith, length-drop from (enumerate_from 0 xs), length-enumerate_from 0 xs)

  pub places_turn : (i p : ℕ) (x : X) → (i < length places) × ((p, x) ≡ get_or places i (p, x))
      → (from + i < length xs) × (p ≡ from + i) × (x ≡ get_or xs (from + i) x)
  places_turn i p x h =
      let l : from + i < length xs = omega (arith, h.0, length-drop from (enumerate_from 0 xs), length-enumerate_from 0 xs) in
      let e = h.1 ∙ get_or-drop from (enumerate_from 0 xs) i (p, x) ∙ get_or-enumerate_from 0 xs (from + i) (p, x) l in
      (l, ap (λ (y : ℕ × X). y.0) e ∙ zero-add (from + i), ap (λ (y : ℕ × X). y.1) e)

-- the place after one more
pub place_more : {A : Type 0} (from : ℕ) (xs : List A) (y : A) → from + length (xs ++ y ∷ []) ≡ from + length xs + 1
place_more from xs y = omega (arith, length-append xs (y ∷ []))

-- the loops give them
pub place_walk : {X : Type 0} {s : Skip (Enumerate (Iter X))} (xs : List X) (from : ℕ) → iter_rest (enumerate_source (skip_source s)) ≡ xs
    → enumerate_count (skip_source s) ≡ 0 → skip_count s ≡ from
    → YieldsList (skip_steps (enumerate_steps fronts)) (λ p. (p.0, p.1.now)) s (places xs from)
place_walk xs from r e n = YieldsList-from_skip from (YieldsList-from_enumerate (YieldsList-from_slice xs r) e) n

pub pair_walk : {X Y : Type 0} {s : Skip (Enumerate (Zip (Iter X) (Iter Y)))} (xs : List X) (ys : List Y) (from : ℕ)
    → iter_rest (zip_first (enumerate_source (skip_source s))) ≡ xs → iter_rest (zip_second (enumerate_source (skip_source s))) ≡ ys
    → enumerate_count (skip_source s) ≡ 0 → skip_count s ≡ from
    → YieldsList (skip_steps (enumerate_steps (zips fronts fronts))) (λ p. (p.0, (p.1.0.now, p.1.1.now))) s (places (zip xs ys) from)
pair_walk xs ys from r t e n =
    YieldsList-from_skip from (YieldsList-from_enumerate (YieldsList-from_zip (YieldsList-from_slice xs r) (YieldsList-from_slice ys t)) e) n
