-- Hexadecimal digits; text written over a part of a list: one more character, and one text after another.
-- Assumes nothing.
use mathlib.Core.Path.{◌≡◌, refl, sym, ap, ◌∙◌}
use mathlib.Core.List.{List, [], ◌∷◌, ◌++◌, map, map-append, append_assoc}
use Prim.Native.Nat.{ℕ, suc, ◌+◌, ◌-◌, ◌%◌, ◌≤◌, ◌<◌}
use native.Mathlib.Nat.{add-zero, add-suc, suc-add}
use native.Mathlib.Numerals.{add-one}
use native.Mathlib.Omega.{arith}
use borrow.Author.Tests.{lt-ltb, le-ltb}
use lib.ListN.{length, get_or, take, set, length-append, length-map}
use lib.Seq.{sets, sets-eq, take-suc, length-take-le}
use borrow.Rule.Slice.PartMut.{put_mid}
use Rattle.std.proofs.lemmas.List.Edits.{paste_all}
use Rattle.std.proofs.lemmas.Slice.{put_mid-paste}
use Rattle.lines.specs.Text.{hex_digit, joined, Written}

-- a hexadecimal digit
module _ (n : ℕ) where
  pub digit_low : n % 16 < 10 → hex_digit n ≡ 48 + n % 16
  digit_low l = rw (lt-ltb (n % 16) 10 l)

  pub digit_high : 10 ≤ n % 16 → hex_digit n ≡ 87 + n % 16
  digit_high l = rw (le-ltb (n % 16) 10 l)

pub sets_append : (l : List ℕ) (at : ℕ) (s t : List ℕ) → sets l at (s ++ t) ≡ sets (sets l at s) (at + length s) t
sets_append l at [] t = rw (add-zero at)
sets_append l at (x ∷ s) t = rw (add-suc at (length s), sets_append (set l at x) (suc at) s t, suc-add at (length s))

-- one text, and another right after it
pub next :
    {a b c s t : List ℕ} {i j k : ℕ} → Written a i s j b → Written b j t k c → Written a i (s ++ t) k c
next {a} {b} {c} {s} {t} {i} {j} {k} p q = record {
  ends = omega (arith, p.ends, q.ends, length-append s t);
  holds = q.holds ∙ ap (λ (x : List ℕ). sets x j t) p.holds ∙ ap (λ (x : ℕ). sets (sets a i s) x t) p.ends ∙ sym (sets_append a i s t);
}

-- a loop that writes a text at each turn
pub joined_more :
    (text : ℕ → List ℕ) {l d e : List ℕ} {at k used end : ℕ} →
    Written l at (joined text k) used d →
    Written d used (text k) end e →
    Written l at (joined text (k + 1)) end e
unfolding joined
joined_more text {k = k} p q = rw (add-one k) (next p q)

-- no turn so far
pub joined_none : (text : ℕ → List ℕ) (l : List ℕ) (at : ℕ) → Written l at (joined text 0) at l
unfolding joined
joined_none text l at = record { ends = sym (add-zero at); holds = refl }

-- one more character
pub one_more : (l d s : List ℕ) (at end v : ℕ) → d ≡ sets l at s → end ≡ at + length s → set d end v ≡ sets l at (s ++ (v ∷ []))
one_more l d s at end v e h = rw (e, h) (sym (sets_append l at s (v ∷ [])))

-- a text copied over the part of a list that begins at `at`
pub part_written :
    (l text : List ℕ) (at end : ℕ) (new : List ℕ) →
    end ≡ at + length text →
    at + length text ≤ length l →
    new ≡ text →
    Written l at text end (put_mid at (end - at) l new)
part_written l text at end new e fits is = record {
  ends = e;
  holds =
      put_mid-paste at (end - at) l new text (length text) is (omega arith) refl
      ∙ paste_all l at text (length text) refl
      ∙ rw (sets-eq text l at fits, append_assoc);
}

-- a loop that writes the values of f at the entries of a list, from `at` on: what a turn does
module _ (f : ℕ → ℕ) (l values : List ℕ) (at : ℕ) where
  pub map_turn :
      (d : List ℕ) (j end v : ℕ) →
      d ≡ sets l at (map f (take j values)) →
      end ≡ at + j →
      j < length values →
      v ≡ f (get_or values j 0) →
      set d end v ≡ sets l at (map f (take (j + 1) values))
  map_turn d j end v e h k g =
      rw (add-one j, take-suc values j 0 k, map-append f (take j values) (get_or values j 0 ∷ []), g)
      (one_more l d (map f (take j values)) at end (f (get_or values j 0)) e
      (omega (arith, length-map (take j values) f, length-take-le j values (omega arith))))
