-- The records of a file, as `chunks` and `chunks_exact` give them.
-- Assumes nothing.
use mathlib.Core.Path.{◌≡◌, sym, ap, ◌∙◌}
use mathlib.Core.List.{List, ◌++◌}
use Prim.Native.Nat.{ℕ, ◌+◌, ◌*◌, min}
use native.Mathlib.Omega.{arith}
use lib.ListN.{length, take, drop, length-append}
use lib.Seq.{take-append_seam, drop-append_seam}
use Rattle.std.proofs.lemmas.List.{take_min, drop_min, drop-drop}

-- record k of a file, as a chunk of what is left from there on
module _ (bytes rest chunk others : List ℕ) (k size : ℕ)
    (of_64 : size ≡ 64) (left : rest ≡ drop (64 * k) bytes) (is : rest ≡ chunk ++ others) (long : length chunk ≡ min size (length rest)) where
  pub record_taken : chunk ≡ take 64 (drop (64 * k) bytes)
  record_taken = sym (take-append_seam chunk others) ∙ rw (← is, long, of_64, left) (take_min 64 (drop (64 * k) bytes))

  pub record_dropped : others ≡ drop (64 * (k + 1)) bytes
  record_dropped =
      let next : 64 * k + 64 ≡ 64 * (k + 1) = omega arith in
      let dropped : drop (min 64 (length (drop (64 * k) bytes))) (drop (64 * k) bytes) ≡ drop (64 * (k + 1)) bytes
      = drop_min 64 (drop (64 * k) bytes) ∙ drop-drop 64 (64 * k) bytes ∙ ap (λ (n : ℕ). drop n bytes) next in
      sym (drop-append_seam chunk others) ∙ rw (← is, long, of_64, left) dropped

-- a whole one is as long as a chunk can be
pub length_whole : (rest chunk others : List ℕ) (size : ℕ) → rest ≡ chunk ++ others → length chunk ≡ size → length chunk ≡ min size (length rest)
length_whole rest chunk others size is long = omega (arith, ap length is, length-append chunk others)
