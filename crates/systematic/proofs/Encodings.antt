-- What encoding at chosen places answers, of a call that is past the other checks: 16 exactly where two codewords agree on all of the places,
-- whichever symbols come along, and else the only codeword that has them there.
-- Assumes nothing.
use mathlib.Core.Bool.{cond}
use mathlib.Core.List.Memᴰ
use mathlib.Core.List.Memᴰ.{head}
use mathlib.Core.List.Memᴰ.{not-nil}
use mathlib.Core.List.{List, [], ◌∷◌, map, Memᴰ as Mem}
use mathlib.Core.Logic.{◌↔◌, ◌⊎◌, inl, inr, ⊎_elim}
use mathlib.Core.Path.{◌≡◌, refl, sym, ap, ◌∙◌, subst}
use Prim.Native.Nat.{ℕ, ◌*◌, ◌<◌}
use native.Mathlib.Omega.{arith}
use lib.ListN.{length, get_or, replicate, length-replicate}
use Rattle.field.specs.Curve.{IsCurve}
use Rattle.std.specs.Prelude.{Err}
use Rattle.field.specs.Outcomes.{Outcome, Done, number}
use Rattle.field.specs.declared.outcome.Refusal.TheVariants.{NoInformationSet}
use Rattle.field.proofs.Fields.{field_of}
use Rattle.field.proofs.Curves.{sizes, short_curve}
use Rattle.poly.specs.Messages.{Vector, all}
use Rattle.poly.specs.Sets.{Alone}
use Rattle.poly.proofs.Bools.{true_or_false, T_true}
use Rattle.poly.proofs.Filter.{mem_filter, of_mem_filter}
use Rattle.poly.proofs.Messages.{mem_all, of_mem_all}
use Rattle.points.specs.Series.{columns_of}
use Rattle.points.specs.Inner.Columns.{Columns}
use Rattle.points.proofs.Series.{full_columns, length_columns, full_places}
use Rattle.code.specs.Answers.{Answer, answered}
use Rattle.code.specs.Recovered.{reading}
use Rattle.code.specs.Terms.{size}
use Rattle.code.specs.Unencoded.{unencoded}
use Rattle.code.specs.Word.{word_of}
use Rattle.code.specs.Inner.Recovering.{BrokenOver}
use Rattle.code.proofs.Answers.{Refused, entry_refused, not_refused}
use Rattle.code.proofs.GridEntries.{laid}
use Rattle.code.proofs.Inverse.{unencode_encode}
use Rattle.systematic.specs.InformationSets.{codewords, symbols_at, same_list, is_information_set, codewords_with, TwoAgree}
use Rattle.systematic.specs.EncodedAt.{encode_at_checks, the_codeword, encoded_at}
use Rattle.systematic.specs.Inner.Completing.{completion}
use Rattle.systematic.proofs.PlaceLists.{Places, length_laid}
use Rattle.systematic.proofs.Tests.{of_same_list, to_same_list}
use Rattle.systematic.proofs.InformationSets.{Fixing, Has, has_one, one_has, reads_has, broken_at, placed_or_missing}
use Rattle.systematic.proofs.InformationSets.{fixing_of_test, test_of_fixing, two_or_fixing, not_fixing}
use Rattle.systematic.proofs.TermSystems.{completion_message, completion_other}
use Rattle.systematic.proofs.Checking.{Passed, checks_passed}

-- a refusal of the checks is the answer, and the slice is as it was
pub encoded_refused : (q series m : ℕ) (places symbols slice : List ℕ) (o : Outcome)
    → o ≡ encode_at_checks q series m places symbols (length slice) → Refused o → encoded_at q series m places symbols slice ≡ answered o slice
unfolding encoded_at
encoded_refused q series m places symbols slice o e r = entry_refused (encode_at_checks q series m places symbols (length slice)) o slice _ e r

module _ (q series m : ℕ) (places symbols slice : List ℕ) (checked : encode_at_checks q series m places symbols (length slice) ≡ Done) where
  abbrev columns : List ℕ
  columns = columns_of q series

  abbrev word_from : List ℕ → List ℕ
  word_from = word_of q columns m

  passed : Passed q series m places symbols (length slice)
  passed = checks_passed q series m places symbols (length slice) checked

  curve : IsCurve q
  curve = short_curve q passed.short

  over : Columns q columns
  over = full_columns q series curve

  all_places : q * length columns ≡ q * q * q
  all_places = full_places q series curve

  order : m < q * length columns
  order = omega (arith, all_places, passed.order)

  chosen : Places (size q m) (q * length columns) places
  chosen = subst (λ (n : ℕ). Places (size q m) n places) (sym all_places) passed.chosen

  abbrev Fixes : Type 0
  Fixes = Fixing q columns over m places chosen

  abbrev HasThem : List ℕ → Type 0
  HasThem = Has q columns over m places chosen symbols

  past : encoded_at q series m places symbols slice
      ≡ cond (is_information_set q columns m places) (the_codeword (codewords_with q columns m places symbols) slice) (answered (Err NoInformationSet) slice)
  unfolding encoded_at
  past = not_refused (encode_at_checks q series m places symbols (length slice)) slice _ checked

  -- a codeword with the symbols is the word of a message that has them
  listed : (w : List ℕ) → Mem w (codewords_with q columns m places symbols) → (u : List ℕ) × HasThem u × (word_from u ≡ w)
  unfolding codewords_with codewords
  listed w k =
      let (i, t) = of_mem_filter (λ word. same_list (symbols_at places word) symbols) w (map word_from (all (q * q) (size q m))) k in
      let (u, j, e) = Memᴰ.of_map word_from (all (q * q) (size q m)) i in
      (u, (of_mem_all (q * q) (size q m) u j, ap (symbols_at places) e ∙ of_same_list (symbols_at places w) symbols t), e)

  is_listed : (u : List ℕ) → HasThem u → Mem (word_from u) (codewords_with q columns m places symbols)
  unfolding codewords_with codewords
  is_listed u h =
      mem_filter (λ word. same_list (symbols_at places word) symbols) (word_from u) (map word_from (all (q * q) (size q m)))
      (Memᴰ.map word_from (mem_all (q * q) (size q m) u h.0)) (to_same_list (symbols_at places (word_from u)) symbols h.1)

  -- where the places fix the codeword, it is the word of the one message that has the symbols
  encoded_fixed : Fixes → (v : List ℕ) → Alone HasThem v → encoded_at q series m places symbols slice ≡ answered Done (word_from v)
  encoded_fixed h v alone =
      past ∙ rw (T_true (is_information_set q columns m places) (test_of_fixing q columns over m places chosen h))
      (first (codewords_with q columns m places symbols) listed (is_listed v alone.has))
    where
      first : (l : List (List ℕ)) → ((w : List ℕ) → Mem w l → (u : List ℕ) × HasThem u × (word_from u ≡ w)) → Mem (word_from v) l
          → the_codeword l slice ≡ answered Done (word_from v)
      first [] sound k = absurd (not-nil k)
      first (w ∷ l) sound k = let (u, has, e) = sound w (head refl) in ap (answered Done) (sym e ∙ ap word_from (alone.only u has))

  encoded_16 : (Fixes → ⊥) → encoded_at q series m places symbols slice ≡ answered (Err NoInformationSet) slice
  encoded_16 d = elim (true_or_false (is_information_set q columns m places)) [
    | inl t ↦ absurd (d (fixing_of_test q columns over m places chosen order (rw t tt)))
    | inr e ↦ past ∙ rw e refl
  ]

  -- ---- by the broken word

  abbrev pub broken_word : List ℕ
  broken_word = laid places symbols (replicate (q * length columns) 255) (length places)

  pub broken_over : BrokenOver q columns m broken_word
  broken_over =
      record {
        over = over;
        few = omega (arith, length_columns q series curve);
        order = order;
        long = long;
        value = λ p l. ⊎_elim (λ w. inr (rw (← w.2) (symbol w.0 w.1))) (λ e. inl e)
            (placed_or_missing q columns over m places chosen symbols p (omega (arith, long)));
      }
    where
      long : length broken_word ≡ q * length columns
      long = length_laid places symbols (replicate (q * length columns) 255) (length places) ∙ length-replicate (q * length columns) 255

      symbol : (i : ℕ) → i < length places → get_or broken_word (get_or places i 0) 0 < (field_of q).size
      symbol i l =
          rw (broken_at q columns over m places chosen symbols i l, (sizes q curve).size) (passed.message.small i (omega (arith, passed.chosen.many)))

  abbrev Completed : Type 0
  Completed = completion word_from (reading (q * q) (size q m) word_from broken_word) slice ≡ encoded_at q series m places symbols slice

  -- its completion is the answer
  pub completed : completion word_from (reading (field_of q).size (size q m) word_from broken_word) slice ≡ encoded_at q series m places symbols slice
  completed =
      subst (λ (Q : ℕ). completion word_from (reading Q (size q m) word_from broken_word) slice ≡ encoded_at q series m places symbols slice)
      (sym (sizes q curve).size)
      (⊎_elim refused_16 fixed (two_or_fixing q columns over m places chosen order))
    where
      fixed : Fixes → Completed
      fixed h =
          let (v, alone) = has_one q columns over m places chosen h symbols passed.message in
          completion_message word_from _ v slice ((reads_has q columns over m places chosen symbols passed.message v).1 alone)
          ∙ sym (encoded_fixed h v alone)

      refused_16 : TwoAgree q columns m places → Completed
      refused_16 two =
          let d = not_fixing q columns over m places chosen order two in
          completion_other word_from _ slice
          (λ v e. d (one_has q columns over m places chosen symbols v ((reads_has q columns over m places chosen symbols passed.message v).0 e)))
          ∙ sym (encoded_16 d)

  -- ---- THE LAWS OF THE REQUEST

  -- "It refuses a set of places exactly when two codewords agree on all of them, whichever symbols come along."
  pub refuses_exactly : ((encoded_at q series m places symbols slice).outcome ≡ Err NoInformationSet) ↔ TwoAgree q columns m places
  refuses_exactly = (
    λ e. ⊎_elim (λ two. two)
        (λ h.
        let (v, alone) = has_one q columns over m places chosen h symbols passed.message in
        let z : Done ≡ Err NoInformationSet = sym (ap (λ (a : Answer). a.outcome) (encoded_fixed h v alone)) ∙ e in
        absurd (omega (arith, ap number z)))
        (two_or_fixing q columns over m places chosen order),
    λ two. ap (λ (a : Answer). a.outcome) (encoded_16 (not_fixing q columns over m places chosen order two)),
  )

  -- what is written: a codeword that has the symbols at the places, and the only one; unencoding it gives its message
  pub record Encodes (word : List ℕ) : Type 0 where
    pub message : List ℕ
    pub is_message : Vector (q * q) (size q m) message
    pub is_codeword : word ≡ word_from message
    pub has_symbols : symbols_at places word ≡ symbols
    pub only : (other : List ℕ) → Vector (q * q) (size q m) other → symbols_at places (word_from other) ≡ symbols → word_from other ≡ word
    pub unencodes : (room : List ℕ) → length room ≡ size q m → unencoded q series m word room ≡ answered Done message

  -- "writes the only codeword with those symbols there", or refuses with 16 and leaves the slice
  pub encodes : (word : List ℕ) → encoded_at q series m places symbols slice ≡ answered Done word → Encodes word
  encodes word e = ⊎_elim not_here here (two_or_fixing q columns over m places chosen order)
    where
      not_here : TwoAgree q columns m places → Encodes word
      not_here two =
          let z : Err NoInformationSet ≡ Done = ap (λ (a : Answer). a.outcome) (sym (encoded_16 (not_fixing q columns over m places chosen order two)) ∙ e) in
          absurd (omega (arith, ap number z))

      here : Fixes → Encodes word
      here h =
          let (v, alone) = has_one q columns over m places chosen h symbols passed.message in
          let is : word ≡ word_from v = ap (λ (a : Answer). a.slice) (sym e ∙ encoded_fixed h v alone) in
          record {
            message = v;
            is_message = alone.has.0;
            is_codeword = is;
            has_symbols = ap (symbols_at places) is ∙ alone.has.1;
            only = λ w hw s. ap word_from (alone.only w (hw, s)) ∙ sym is;
            unencodes = λ room long.
                let u = unencode_encode q series m curve passed.named passed.order v slice room alone.has.0 passed.fits long in
                ap (λ (x : List ℕ). unencoded q series m x room) is ∙ ap (λ (a : Answer). unencoded q series m a.slice room) (sym u.0) ∙ u.1;
          }

  -- a call that passes the other checks is done, or refused with 16, which leaves the slice
  pub done_or_16 : ((word : List ℕ) × (encoded_at q series m places symbols slice ≡ answered Done word))
      ⊎ (encoded_at q series m places symbols slice ≡ answered (Err NoInformationSet) slice)
  done_or_16 =
      ⊎_elim (λ two. inr (encoded_16 (not_fixing q columns over m places chosen order two)))
      (λ h. let (v, alone) = has_one q columns over m places chosen h symbols passed.message in inl (word_from v, encoded_fixed h v alone))
      (two_or_fixing q columns over m places chosen order)
