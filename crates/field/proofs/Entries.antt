-- The answers of the field's entries: operands whose check is Done are symbols, and the two kinds of answer.
-- Assumes nothing.
use mathlib.Core.Bool.{Bool, true, false, not, cond, ◌&&◌}
use mathlib.Core.List.{List, [], ◌∷◌}
use mathlib.Core.Path.{◌≡◌, refl, sym, ap, ap₂, ◌∙◌, subst}
use Prim.Native.Nat.{ℕ, suc, ◌*◌, ◌^◌, ◌<◌}
use native.Mathlib.Omega.{arith}
use lib.Dec.{leb, ltb, lit<}
use lib.Pow.{pow_pos}
use lib.ListN.{length, get_or}
use borrow.Author.Tests.{lt-leb, ltb-false, not-false}
use Rattle.field.specs.Curve.{is_curve, bits_of}
use Rattle.field.specs.Outcomes.{Outcome, Done, refuse}
use Rattle.field.specs.Values.{bad_value, first_bad, value_check}
use Rattle.field.specs.Entries.{Answer, told, field_checks, answer}
use Rattle.std.specs.Prelude.{Err}
use Rattle.field.specs.declared.outcome.Refusal.{Refusal}
use Rattle.field.specs.declared.outcome.Refusal.TheVariants.{BadCurve, BadValue}
use Rattle.field.proofs.Curves.{curve_of_true, sizes}
use Rattle.field.proofs.Values.{symbol_of_good, all_good}
use Rattle.field.proofs.Outcomes.{passed, counted, Follows, none_follow, refuse_follows}

-- ---- operands

symbol_lt : (q : ℕ) (xs : List ℕ) → field_checks q xs Done ≡ Done → (k : ℕ) → k < length xs → get_or xs k 0 < 2 ^ bits_of q
symbol_lt q xs e k h =
    let bad = bad_value false (q * q) in
    let a = passed (not (is_curve q)) (value_check false (q * q) xs Done) BadCurve e in
    let b = passed (ltb (first_bad bad xs) (length xs)) Done (BadValue (first_bad bad xs)) a.1 in
    subst (λ (n : ℕ). get_or xs k 0 < n) (sym (sizes q (curve_of_true q (not-false (is_curve q) a.0))).size)
    (symbol_of_good (q * q) (get_or xs k 0) (all_good bad xs (ltb-false (first_bad bad xs) (length xs) b.0) k h))

pub pair_lt : (q a b : ℕ) → field_checks q (a ∷ b ∷ []) Done ≡ Done → (a < 2 ^ bits_of q) × (b < 2 ^ bits_of q)
pair_lt q a b e = (symbol_lt q (a ∷ b ∷ []) e 0 (lit< tt), symbol_lt q (a ∷ b ∷ []) e 1 (lit< tt))

-- 0 is a symbol of each curve
pub and_zero : (q a : ℕ) → field_checks q (a ∷ 0 ∷ []) Done ≡ field_checks q (a ∷ []) Done
unfolding first_bad
and_zero q a =
    go (is_curve q) (leb (q * q) a)
    (λ h. lt-leb (q * q) 0 (subst (λ (n : ℕ). 0 < n) (sizes q (curve_of_true q h)).size (pow_pos (bits_of q))))
  where
    go : (t b : Bool) → (t ≡ true → leb (q * q) 0 ≡ false)
        → refuse (not t) BadCurve (refuse (ltb (cond (b && true) 0 (suc (cond (leb (q * q) 0 && true) 0 1))) 2)
        (BadValue (cond (b && true) 0 (suc (cond (leb (q * q) 0 && true) 0 1)))) Done)
        ≡ refuse (not t) BadCurve (refuse (ltb (cond (b && true) 0 1) 1) (BadValue (cond (b && true) 0 1)) Done)
    go true true h = refl
    go true false h = rw (h refl)
    go false b h = refl

-- ---- the answer where the checks refuse

pub refused : (o : Outcome) (r : Refusal) (s : ℕ) → o ≡ Err r → answer o s ≡ told (Err r)
refused o r s e = rw (e, counted r)

-- ---- the checks of one operand, and what follows them

pub operand_follows : (q a : ℕ) → Follows (field_checks q (a ∷ []))
operand_follows q a =
    let w : ℕ = first_bad (bad_value false (q * q)) (a ∷ []) in
    refuse_follows (not (is_curve q)) BadCurve (value_check false (q * q) (a ∷ []))
    (refuse_follows (ltb w 1) (BadValue w) (λ rest. rest) none_follow)
