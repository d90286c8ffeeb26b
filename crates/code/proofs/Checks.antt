-- The checks: what it says that a check comes out Done, and refusals of a whole call. Of values they are the field's.
-- Assumes nothing.
use mathlib.Core.Bool.{Bool, true, false, not, cond}
use mathlib.Core.List.{List}
use mathlib.Core.Path.{◌≡◌, refl, sym, ap, ap₂, ◌∙◌}
use Prim.Native.Nat.{ℕ, ◌*◌, ◌≤◌, ◌<◌}
use native.Mathlib.Omega.{arith}
use borrow.Author.Tests.{lt-leb, lt-ltb, le-ltb, eq-eqb, ne_eqb, eqb-true, leb-false, ltb-false, not-false}
use lib.Dec.{leb, ltb, eqb}
use lib.ListN.{length, get_or}
use Rattle.std.specs.Prelude.{Err}
use Rattle.field.specs.Outcomes.{Outcome, Done, number, refuse}
use Rattle.field.specs.declared.outcome.Refusal.TheVariants.{BadCurve, BadOrder, BadLength, BadValue, BadRoom, BadSeries}
pub use Rattle.field.proofs.Values.{good_symbol, good_gap, bad_gap, symbol_of_good, value_of_good, all_good, none_found}
use Rattle.field.proofs.Outcomes.{passed, Follows, none_follow, refuse_follows, follows_after, row_not_done, row_passed}
use Rattle.points.specs.Series.{is_series}
use Rattle.code.specs.Terms.{size}
use Rattle.code.specs.Checks.{curve_checks, order_checks, bad_value, first_bad, value_check, slice_checks, call_checks}

-- ---- rows of checks

-- what it says that the checks 1 and 17 and all that follows come out Done
pub curve_rest : (taken : Bool) (series : ℕ) (rest : Outcome) → curve_checks taken series rest ≡ Done
    → (taken ≡ true) × (is_series series ≡ true) × (rest ≡ Done)
unfolding curve_checks
curve_rest taken series rest e =
    let a = passed (not taken) (refuse (not (is_series series)) BadSeries rest) BadCurve e in
    let b = passed (not (is_series series)) rest BadSeries a.1 in
    (not-false taken a.0, not-false (is_series series) b.0, b.1)

-- and 1, 17 and 2
pub order_rest : (taken : Bool) (q series m : ℕ) (rest : Outcome) → order_checks taken q series m rest ≡ Done
    → (taken ≡ true) × (m < q * q * q) × (rest ≡ Done) × (is_series series ≡ true)
unfolding order_checks
order_rest taken q series m rest e =
    let a = curve_rest taken series (refuse (leb (q * q * q) m) BadOrder rest) e in
    let b = passed (leb (q * q * q) m) rest BadOrder a.2 in
    (a.0, leb-false (q * q * q) m b.0, b.1, a.1)

pub order_done : (taken : Bool) (q series m : ℕ) → order_checks taken q series m Done ≡ Done
    → (taken ≡ true) × (m < q * q * q) × (is_series series ≡ true)
order_done taken q series m e = let w = order_rest taken q series m Done e in (w.0, w.1, w.3)

-- how the tests of the code decide 1, 17 and 2
pub curve_passed : (taken : Bool) (series : ℕ) (rest : Outcome) → taken ≡ true → is_series series ≡ true → curve_checks taken series rest ≡ rest
unfolding curve_checks
curve_passed taken series rest c n = rw (c, n)

module _ (taken : Bool) (q series m : ℕ) (rest : Outcome) where
  pub order_curve : taken ≡ false → order_checks taken q series m rest ≡ Err BadCurve
  unfolding order_checks curve_checks
  order_curve e = rw e

  pub order_passed : taken ≡ true → is_series series ≡ true → m < q * q * q → order_checks taken q series m rest ≡ rest
  unfolding order_checks
  order_passed c n l = curve_passed taken series _ c n ∙ rw (lt-leb (q * q * q) m l)

-- what it says that check 4 and all that follows come out Done
pub value_rest : (gaps : Bool) (Q : ℕ) (input : List ℕ) (rest : Outcome) → value_check gaps Q input rest ≡ Done
    → ((i : ℕ) → i < length input → bad_value gaps Q (get_or input i 0) ≡ false) × (rest ≡ Done)
value_rest gaps Q input rest e =
    let w = first_bad (bad_value gaps Q) input in
    let a = passed (ltb w (length input)) rest (BadValue w) e in
    (all_good (bad_value gaps Q) input (ltb-false w (length input) a.0), a.1)

-- how the test of the code decides 4; w is what its search found
module _ (gaps : Bool) (Q : ℕ) (input : List ℕ) (w : ℕ) (f : w ≡ first_bad (bad_value gaps Q) input) where
  pub value_bad : w < length input → Err (BadValue w) ≡ value_check gaps Q input Done
  value_bad l = rw (← f, lt-ltb w (length input) l)

  pub value_good : length input ≤ w → Done ≡ value_check gaps Q input Done
  value_good l = rw (← f, le-ltb w (length input) l)

-- what 3, 4 and 5 say
pub record Accepted (gaps : Bool) (Q takes : ℕ) (input : List ℕ) (writes room : ℕ) : Type 0 where
  pub long : length input ≡ takes
  pub good : (i : ℕ) → i < length input → bad_value gaps Q (get_or input i 0) ≡ false
  pub fits : room ≡ writes

pub slices_rest : (gaps : Bool) (Q takes : ℕ) (input : List ℕ) (writes room : ℕ) (rest : Outcome)
    → slice_checks gaps Q takes input writes room rest ≡ Done → Accepted gaps Q takes input writes room × (rest ≡ Done)
unfolding slice_checks
slices_rest gaps Q takes input writes room rest e =
    let last = refuse (not (eqb room writes)) BadRoom rest in
    let a = passed (not (eqb (length input) takes)) (value_check gaps Q input last) BadLength e in
    let b = value_rest gaps Q input last a.1 in
    let c = passed (not (eqb room writes)) rest BadRoom b.1 in (
      record {
        long = eqb-true (length input) takes (not-false (eqb (length input) takes) a.0);
        good = b.0;
        fits = eqb-true room writes (not-false (eqb room writes) c.0);
      },
      c.1,
    )

pub slices_done : (gaps : Bool) (Q takes : ℕ) (input : List ℕ) (writes room : ℕ)
    → slice_checks gaps Q takes input writes room Done ≡ Done → Accepted gaps Q takes input writes room
slices_done gaps Q takes input writes room e = (slices_rest gaps Q takes input writes room Done e).0

-- and what all five of a call say
pub call_rest : (taken gaps decodes : Bool) (q series m : ℕ) (input : List ℕ) (room : ℕ) (rest : Outcome)
    → call_checks taken gaps decodes q series m input room rest ≡ Done → (taken ≡ true) × (m < q * q * q)
    × Accepted gaps (q * q) (cond decodes (q * q * q) (size q m)) input (cond decodes (size q m) (q * q * q)) room × (rest ≡ Done) × (is_series series ≡ true)
call_rest taken gaps decodes q series m input room rest e =
    let w = order_rest taken q series m _ e in
    let s = slices_rest gaps (q * q) (cond decodes (q * q * q) (size q m)) input (cond decodes (size q m) (q * q * q)) room rest w.2 in
    (w.0, w.1, s.0, s.1, w.3)

pub call_done : (taken gaps decodes : Bool) (q series m : ℕ) (input : List ℕ) (room : ℕ) → call_checks taken gaps decodes q series m input room Done ≡ Done
    → (taken ≡ true) × (m < q * q * q)
    × Accepted gaps (q * q) (cond decodes (q * q * q) (size q m)) input (cond decodes (size q m) (q * q * q)) room × (is_series series ≡ true)
call_done taken gaps decodes q series m input room e = let w = call_rest taken gaps decodes q series m input room Done e in (w.0, w.1, w.2, w.4)

-- the rows as such: a refusal of theirs is the call's

pub curve_follows : (taken : Bool) (series : ℕ) → Follows (curve_checks taken series)
unfolding curve_checks
curve_follows taken series =
    refuse_follows (not taken) BadCurve (refuse (not (is_series series)) BadSeries)
    (refuse_follows (not (is_series series)) BadSeries (λ rest. rest) none_follow)

pub order_follows : (taken : Bool) (q series m : ℕ) → Follows (order_checks taken q series m)
unfolding order_checks
order_follows taken q series m =
    follows_after (curve_checks taken series) (refuse (leb (q * q * q) m) BadOrder) (curve_follows taken series)
    (refuse_follows (leb (q * q * q) m) BadOrder (λ rest. rest) none_follow)

-- check 4 before a row
value_before : (gaps : Bool) (Q : ℕ) (input : List ℕ) (row : Outcome → Outcome) → Follows row → Follows (λ rest. value_check gaps Q input (row rest))
value_before gaps Q input row f =
    refuse_follows (ltb (first_bad (bad_value gaps Q) input) (length input)) (BadValue (first_bad (bad_value gaps Q) input)) row f

pub value_follows : (gaps : Bool) (Q : ℕ) (input : List ℕ) → Follows (value_check gaps Q input)
value_follows gaps Q input = value_before gaps Q input (λ rest. rest) none_follow

pub slices_follow : (gaps : Bool) (Q takes : ℕ) (input : List ℕ) (writes room : ℕ) → Follows (slice_checks gaps Q takes input writes room)
unfolding slice_checks
slices_follow gaps Q takes input writes room =
    refuse_follows (not (eqb (length input) takes)) BadLength (λ rest. value_check gaps Q input (refuse (not (eqb room writes)) BadRoom rest))
    (value_before gaps Q input (refuse (not (eqb room writes)) BadRoom)
    (refuse_follows (not (eqb room writes)) BadRoom (λ rest. rest) none_follow))

-- how the tests of the code decide 3 and 5; o is what 4 came to
module _ (gaps : Bool) (Q takes : ℕ) (input : List ℕ) (writes room : ℕ) (rest : Outcome) where
  pub slices_length : (length input ≡ takes → ⊥) → slice_checks gaps Q takes input writes room rest ≡ Err BadLength
  unfolding slice_checks
  slices_length n = rw (ne_eqb (length input) takes n)

  module _ (e : length input ≡ takes) (o : Outcome) (v : o ≡ value_check gaps Q input Done) where
    abbrev last : Outcome
    last = refuse (not (eqb room writes)) BadRoom rest

    past_length : slice_checks gaps Q takes input writes room rest ≡ value_check gaps Q input last
    unfolding slice_checks
    past_length = rw (eq-eqb (length input) takes e)

    pub slices_value : eqb (number o) 0 ≡ false → slice_checks gaps Q takes input writes room rest ≡ o
    slices_value n = past_length ∙ sym (row_not_done (value_check gaps Q input) (value_follows gaps Q input) o v last n)

    module _ (d : o ≡ Done) where
      past_values : slice_checks gaps Q takes input writes room rest ≡ last
      past_values = past_length ∙ row_passed (value_check gaps Q input) (value_follows gaps Q input) o v last d

      pub slices_room : (room ≡ writes → ⊥) → slice_checks gaps Q takes input writes room rest ≡ Err BadRoom
      slices_room n = past_values ∙ rw (ne_eqb room writes n)

      pub slices_passed : room ≡ writes → slice_checks gaps Q takes input writes room rest ≡ rest
      slices_passed g = past_values ∙ rw (eq-eqb room writes g)

-- past 3 and 4
pub slices_good : (gaps : Bool) (Q takes : ℕ) (input : List ℕ) (writes room : ℕ) (rest : Outcome) → length input ≡ takes
    → ((i : ℕ) → i < length input → bad_value gaps Q (get_or input i 0) ≡ false)
    → slice_checks gaps Q takes input writes room rest ≡ refuse (not (eqb room writes)) BadRoom rest
slices_good gaps Q takes input writes room rest e good =
    past_values gaps Q takes input writes room rest e Done
    (value_good gaps Q input _ refl (omega (arith, none_found (bad_value gaps Q) input good))) refl

pub slices_accepted : (gaps : Bool) (Q takes : ℕ) (input : List ℕ) (writes room : ℕ) (rest : Outcome) → Accepted gaps Q takes input writes room
    → slice_checks gaps Q takes input writes room rest ≡ rest
slices_accepted gaps Q takes input writes room rest h =
    slices_good gaps Q takes input writes room rest h.long h.good ∙ rw (eq-eqb room writes h.fits)

-- past 1, 17 and 2 the call is decided by 3, 4 and 5
pub call_past : (taken gaps decodes : Bool) (q series m : ℕ) (input : List ℕ) (room : ℕ) (o : Outcome) (takes writes : ℕ)
    → (taken ≡ true) × (m < q * q * q) × (is_series series ≡ true)
    → takes ≡ cond decodes (q * q * q) (size q m) → writes ≡ cond decodes (size q m) (q * q * q)
    → o ≡ slice_checks gaps (q * q) takes input writes room Done → o ≡ call_checks taken gaps decodes q series m input room Done
call_past taken gaps decodes q series m input room o takes writes p t w e =
    e ∙ ap₂ (λ (a b : ℕ). slice_checks gaps (q * q) a input b room Done) t w ∙ sym (order_passed taken q series m _ p.0 p.2 p.1)

-- and what follows a call's checks
pub call_follows : (taken gaps decodes : Bool) (q series m : ℕ) (input : List ℕ) (room : ℕ) → Follows (call_checks taken gaps decodes q series m input room)
call_follows taken gaps decodes q series m input room =
    follows_after (order_checks taken q series m)
    (slice_checks gaps (q * q) (cond decodes (q * q * q) (size q m)) input (cond decodes (size q m) (q * q * q)) room) (order_follows taken q series m)
    (slices_follow gaps (q * q) (cond decodes (q * q * q) (size q m)) input (cond decodes (size q m) (q * q * q)) room)
