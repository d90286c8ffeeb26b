-- Information sets: k places are one exactly when one message fits, whatever symbols stand at them, and else none or several fit, whatever they are.
-- The map from messages to the symbols at the places is linear, between sets of the same size.
-- Assumes nothing.
use mathlib.Core.Bool.{true, not, ◌||◌}
use mathlib.Core.List.{List, ◌∷◌, map, List-discrete, Memᴰ as Mem}
use mathlib.Core.List.Memᴰ
use mathlib.Core.List.Memᴰ.{cases_cons}
use mathlib.Core.Logic.{◌↔◌, ◌⊎◌, inl, inr}
use mathlib.Core.Path.{◌≡◌, sym, ap, ap₂, ◌∙◌, subst}
use Prim.Native.Nat.{ℕ, ◌*◌, ◌<◌}
use native.Mathlib.Decide.{ℕ_discrete}
use native.Mathlib.Omega.{arith}
use lib.Dec.{T}
use lib.ListN.{length, get_or, replicate, length-map, length-replicate, get_or-replicate}
use lib.Seq.{ext_get_or}
use Rattle.field.specs.Plus.{plus}
use Rattle.field.proofs.Plus.{plus_self, plus_zero, plus_cancel, eq_of_plus_zero}
use Rattle.field.proofs.Fields.{field_of}
use Rattle.field.proofs.Curves.{sizes, two_symbols}
use Rattle.poly.specs.Messages.{Vector, all}
use Rattle.poly.specs.Sets.{Alone}
use Rattle.poly.specs.Inner.Linear.{entry}
use Rattle.poly.proofs.Bools.{implies, implied}
use Rattle.poly.proofs.Lists.{find, mem_get_or, get_or_mem, get_or_map, nodup_map, pigeonhole}
use Rattle.poly.proofs.Linear.{dot_lt, dot_local, dot_plus_vector}
use Rattle.poly.proofs.Messages.{mem_all, of_mem_all, nodup_all, tabulate, get_or_tabulate, vector_tabulate, vector_ext}
use Rattle.points.specs.Passing.{up_to}
use Rattle.points.specs.Inner.Columns.{Columns}
use Rattle.points.proofs.ColumnPoints.{length_up_to}
use Rattle.points.proofs.Passing.{nodup_passing, of_mem_passing}
use Rattle.code.specs.Recovered.{Reading, message, reading}
use Rattle.code.specs.Terms.{size}
use Rattle.code.specs.Word.{word_of}
use Rattle.code.specs.Fitting.{fitting}
use Rattle.code.specs.Inner.Rows.{row_of}
use Rattle.code.proofs.Fitting.{Fits}
use Rattle.code.proofs.GridEntries.{laid}
use Rattle.code.proofs.Readings.{Fitting, fitting_list, reads_message}
use Rattle.code.proofs.Rows.{word_dot}
use Rattle.code.proofs.Word.{length_word}
use Rattle.code.proofs.WordColumns.{word_length}
use Rattle.code.proofs.Zeros.{agree}
use Rattle.systematic.specs.InformationSets.{codewords, symbols_at, same_list, all_of, is_information_set, TwoAgree}
use Rattle.systematic.proofs.PlaceLists.{Places, length_laid, laid_out, laid_at}
use Rattle.systematic.proofs.Tests.{of_all_of, to_all_of, of_same_list, to_same_list}

-- an injective map of vectors is onto
onto : (Q k : ℕ) (f : List ℕ → List ℕ) → ((x : List ℕ) → Vector Q k x → Vector Q k (f x))
    → ((x y : List ℕ) → Vector Q k x → Vector Q k y → f x ≡ f y → x ≡ y)
    → (y : List ℕ) → Vector Q k y → (x : List ℕ) × Vector Q k x × (f x ≡ y)
onto Q k f into inj y hy = elim (find (λ (x : List ℕ). f x ≡ y) (λ x. f x ≡ y → ⊥) test (all Q k)) [
  | inl w ↦ (w.0, of_mem_all Q k w.0 w.1, w.2)
  | inr never ↦
      absurd (omega (
        arith,
        length-map (all Q k) f,
        pigeonhole (y ∷ map f (all Q k)) (all Q k) (
          λ m. let (x, i, e) = Memᴰ.of_map f (all Q k) m in never x i e,
          nodup_map f (all Q k) (λ a b i j. inj a b (of_mem_all Q k a i) (of_mem_all Q k b j)) (nodup_all Q k),
        )
            (λ u m. elim (cases_cons m) [
              | inl e ↦ mem_all Q k u (subst (Vector Q k) (sym e) hy)
              | inr j ↦ let (x, i, e) = Memᴰ.of_map f (all Q k) j in mem_all Q k u (subst (Vector Q k) e (into x (of_mem_all Q k x i)))
            ]),
      ))
]
  where
    test : (x : List ℕ) → (f x ≡ y) ⊎ (f x ≡ y → ⊥)
    test x = elim (List-discrete ℕ_discrete (f x) y) [ yes e ↦ inl e | no n ↦ inr n ]

-- ---- the symbols at places

pub length_symbols : (places word : List ℕ) → length (symbols_at places word) ≡ length places
unfolding symbols_at
length_symbols places word = length-map places (λ p. get_or word p 0)

pub symbols_at_lem : (places word : List ℕ) (i : ℕ) → i < length places → get_or (symbols_at places word) i 0 ≡ get_or word (get_or places i 0) 0
unfolding symbols_at
symbols_at_lem places word i l = get_or_map (λ p. get_or word p 0) places 0 0 i l

-- two words have the same symbols where they agree at the places
pub symbols_same : (places a b : List ℕ) → ((i : ℕ) → i < length places → get_or a (get_or places i 0) 0 ≡ get_or b (get_or places i 0) 0)
    → symbols_at places a ≡ symbols_at places b
symbols_same places a b h =
    ext_get_or 0 (symbols_at places a) (symbols_at places b) (length_symbols places a ∙ sym (length_symbols places b))
    (λ i l. let k : i < length places = omega (arith, length_symbols places a) in symbols_at_lem places a i k ∙ h i k ∙ sym (symbols_at_lem places b i k))

pub of_symbols_same : (places a b : List ℕ) → symbols_at places a ≡ symbols_at places b → (i : ℕ) → i < length places
    → get_or a (get_or places i 0) 0 ≡ get_or b (get_or places i 0) 0
of_symbols_same places a b e i l = sym (symbols_at_lem places a i l) ∙ ap (λ (u : List ℕ). get_or u i 0) e ∙ symbols_at_lem places b i l

module _ (q : ℕ) (columns : List ℕ) (over : Columns q columns) (m : ℕ) where
  abbrev Message : List ℕ → Type 0
  Message = Vector (q * q) (size q m)

  abbrev word_from : List ℕ → List ℕ
  word_from = word_of q columns m

  abbrev n : ℕ
  n = q * length columns

  is_size : (field_of q).size ≡ q * q
  is_size = (sizes q over.curve).size

  -- ---- sums of messages

  pub add : List ℕ → List ℕ → List ℕ
  add v w = tabulate (size q m) (λ i. plus (get_or v i 0) (get_or w i 0))

  add_at : (v w : List ℕ) (i : ℕ) → i < size q m → get_or (add v w) i 0 ≡ plus (get_or v i 0) (get_or w i 0)
  unfolding add
  add_at v w = get_or_tabulate (size q m) (λ i. plus (get_or v i 0) (get_or w i 0))

  pub add_message : (v w : List ℕ) → Message v → Message w → Message (add v w)
  unfolding add
  add_message v w hv hw =
      vector_tabulate (q * q) (size q m) (λ i. plus (get_or v i 0) (get_or w i 0))
      (λ i l. subst (λ (Q : ℕ). plus (get_or v i 0) (get_or w i 0) < Q) is_size
      ((field_of q).plus_lt _ _ (rw is_size (hv.small i l)) (rw is_size (hw.small i l))))

  pub word_add : (v w : List ℕ) (p : ℕ) → p < n → get_or (word_from (add v w)) p 0 ≡ plus (get_or (word_from v) p 0) (get_or (word_from w) p 0)
  word_add v w p l =
      let F = field_of q in
      let r = row_of q columns m p in
      word_dot q columns over m (add v w) p l
      ∙ dot_local F (size q m) r (entry (add v w)) (λ i. plus (entry v i) (entry w i)) (add_at v w)
      ∙ dot_plus_vector F (size q m) r (entry v) (entry w)
      ∙ sym (ap₂ plus (word_dot q columns over m v p l) (word_dot q columns over m w p l))

  -- ---- different messages have different words

  pub word_injective : m < n → (v w : List ℕ) → Message v → Message w → word_from v ≡ word_from w → v ≡ w
  word_injective order v w hv hw e =
      let long : length (word_from v) ≡ n = word_length q m over.curve v columns over.small in
      agree q over.curve columns over.distinct (λ x k. let (t, l, s) = get_or_mem columns 0 k in rw (← s) (over.small t l)) m v w
      (rw is_size hv) (rw is_size hw) (up_to n) (nodup_passing (λ p. true) n) (omega (arith, length_up_to n))
      (λ p k. (omega (arith, (of_mem_passing (λ p. true) n p k).0, long, length_word q columns m v), ap (λ (u : List ℕ). get_or u p 0) e))

  module _ (places : List ℕ) (chosen : Places (size q m) n places) where
    abbrev symbols_of : List ℕ → List ℕ
    symbols_of v = symbols_at places (word_from v)

    symbols_vector : (v : List ℕ) → Message (symbols_of v)
    symbols_vector v =
        record {
          len = length_symbols places (word_from v) ∙ chosen.many;
          small = λ i l.
              let il : i < length places = rw chosen.many l in
              let p = get_or places i 0 in
              rw (symbols_at_lem places (word_from v) i il, word_dot q columns over m v p (chosen.below i il), ← is_size)
              (dot_lt (field_of q) (size q m) (row_of q columns m p) (entry v));
        }

    -- messages whose words have the same symbols at the places are the same
    abbrev pub Fixing : Type 0
    Fixing = (v w : List ℕ) → Message v → Message w → symbols_of v ≡ symbols_of w → v ≡ w

    -- a message whose word has these symbols at the places
    abbrev pub Has : List ℕ → List ℕ → Type 0
    Has symbols v = Message v × (symbols_of v ≡ symbols)

    -- FIXING: one message has the symbols, whatever they are
    pub has_one : Fixing → (s : List ℕ) → Message s → (v : List ℕ) × Alone (Has s) v
    has_one h s hs =
        let (v, hv, e) = onto (q * q) (size q m) symbols_of (λ x hx. symbols_vector x) h s hs in
        (v, record { has = (hv, e); only = λ w k. h w v k.0 hv (k.1 ∙ sym e) })

    -- and where one has some symbols, they are fixing
    pub one_has : (s : List ℕ) (u : List ℕ) → Alone (Has s) u → Fixing
    one_has s u alone v w hv hw e =
        let t = add u (add v w) in
        let same : symbols_of t ≡ symbols_of u = symbols_same places (word_from t) (word_from u) (λ i k.
        let p = get_or places i 0 in
        let l = chosen.below i k in
        word_add u (add v w) p l
        ∙ ap (plus (get_or (word_from u) p 0)) (word_add v w p l ∙ ap (λ (x : ℕ). plus x (get_or (word_from w) p 0)) (of_symbols_same places (word_from v) (word_from w) e i k) ∙ plus_self (get_or (word_from w) p 0))
        ∙ plus_zero (get_or (word_from u) p 0)) in
        let is : t ≡ u = alone.only t (add_message u (add v w) alone.has.0 (add_message v w hv hw), same ∙ alone.has.1) in
        vector_ext (q * q) (size q m) v w hv hw (λ i l.
        eq_of_plus_zero (get_or v i 0) (get_or w i 0)
        (sym (plus_cancel (get_or u i 0) (plus (get_or v i 0) (get_or w i 0)))
        ∙ ap (plus (get_or u i 0)) (ap (plus (get_or u i 0)) (sym (add_at v w i l)) ∙ sym (add_at u (add v w) i l) ∙ ap (λ (x : List ℕ). get_or x i 0) is)
        ∙ plus_self (get_or u i 0)))

    -- ---- the broken word that has these symbols at the places, and 255 elsewhere

    abbrev pub broken : List ℕ → List ℕ
    broken s = laid places s (replicate n 255) (length places)

    long_broken : (s : List ℕ) → length (broken s) ≡ n
    long_broken s = length_laid places s (replicate n 255) (length places) ∙ length-replicate n 255

    room : Places (size q m) (length (replicate {A = ℕ} n 255)) places
    room = rw (length-replicate {A = ℕ} n 255) chosen

    pub broken_at : (s : List ℕ) (i : ℕ) → i < length places → get_or (broken s) (get_or places i 0) 0 ≡ get_or s i 0
    broken_at s i l = laid_at places s (replicate n 255) (size q m) room i (length places) l (omega arith)

    -- p is one of the places, or its symbol is missing
    pub placed_or_missing : (s : List ℕ) (p : ℕ) → p < n → ((i : ℕ) × (i < length places) × (get_or places i 0 ≡ p)) ⊎ (get_or (broken s) p 0 ≡ 255)
    placed_or_missing s p l = elim (find (λ (x : ℕ). x ≡ p) (λ x. x ≡ p → ⊥) (λ x. elim (ℕ_discrete x p) [ yes e ↦ inl e | no d ↦ inr d ]) places) [
      | inl w ↦ let (i, il, e) = get_or_mem places 0 w.1 in inl (i, il, e ∙ w.2)
      | inr none ↦
          inr (laid_out places s (replicate n 255) p (length places) (λ j m. none (get_or places j 0) (mem_get_or places 0 j m))
          ∙ get_or-replicate {A = ℕ} n p 255 0 l)
    ]

    -- a message fits it exactly when its word has the symbols
    pub fits_has : (s : List ℕ) → Message s → (v : List ℕ) → Fits word_from (broken s) v ↔ (symbols_of v ≡ s)
    fits_has s hs v = (
      λ h. ext_get_or 0 (symbols_of v) s (length_symbols places (word_from v) ∙ chosen.many ∙ sym hs.len) (λ i l.
          let il : i < length places = omega (arith, length_symbols places (word_from v)) in
          let small = hs.small i (omega (arith, chosen.many)) in
          symbols_at_lem places (word_from v) i il
          ∙ h.at (get_or places i 0) (rw (long_broken s) (chosen.below i il))
          (λ z. omega (arith, sym (broken_at s i il) ∙ z, small, (sizes q over.curve).symbols))
          ∙ broken_at s i il),
      λ e. record {
        at = λ p l d. elim (placed_or_missing s p (omega (arith, long_broken s))) [
          | inr z ↦ absurd (d z)
          | inl w ↦ rw (← w.2) (sym (symbols_at_lem places (word_from v) w.0 w.1) ∙ ap (λ (u : List ℕ). get_or u w.0 0) e ∙ sym (broken_at s w.0 w.1))
        ];
      },
    )

    abbrev pub reading_with : List ℕ → Reading
    reading_with s = reading (q * q) (size q m) word_from (broken s)

    reads_one : (s v : List ℕ) → (reading_with s ≡ message v) ↔ Alone (Fitting (q * q) (size q m) word_from (broken s)) v
    unfolding reading
    reads_one s v =
        reads_message (q * q) (two_symbols q over.curve) (Fitting (q * q) (size q m) word_from (broken s))
        (fitting (q * q) (size q m) word_from (broken s)) (fitting_list (q * q) (size q m) word_from (broken s)) v

    -- recovery reads a message exactly where it alone has the symbols
    pub reads_has : (s : List ℕ) → Message s → (v : List ℕ) → (reading_with s ≡ message v) ↔ Alone (Has s) v
    reads_has s hs v = (
      λ e. let a = (reads_one s v).0 e in
          record {
            has = (a.has.vector, (fits_has s hs v).0 a.has.fits);
            only = λ w k. a.only w (record { vector = k.0; fits = (fits_has s hs w).1 k.1 });
          },
      λ a. (reads_one s v).1 (record {
        has = record { vector = a.has.0; fits = (fits_has s hs v).1 a.has.1 };
        only = λ w k. a.only w (k.vector, (fits_has s hs w).0 k.fits);
      }),
    )

    -- ---- the test

    pub fixing_of_test : m < n → T (is_information_set q columns m places) → Fixing
    unfolding is_information_set codewords
    fixing_of_test order t v w hv hw e =
        let word : (u : List ℕ) → Message u → Mem (word_from u) (map word_from (all (q * q) (size q m))) = λ u hu. Memᴰ.map word_from (mem_all (q * q) (size q m) u hu) in
        let row = of_all_of (λ a. all_of (λ b. not (same_list (symbols_at places a) (symbols_at places b)) || same_list a b) (map word_from (all (q * q) (size q m))))
        (map word_from (all (q * q) (size q m))) t (word_from v) (word v hv) in
        let pair = of_all_of (λ b. not (same_list (symbols_of v) (symbols_at places b)) || same_list (word_from v) b) (map word_from (all (q * q) (size q m))) row (word_from w) (word w hw) in
        word_injective order v w hv hw
        (of_same_list (word_from v) (word_from w) (implied (same_list (symbols_of v) (symbols_of w)) (same_list (word_from v) (word_from w)) pair (to_same_list (symbols_of v) (symbols_of w) e)))

    pub test_of_fixing : Fixing → T (is_information_set q columns m places)
    unfolding is_information_set codewords
    test_of_fixing h =
        let words = map word_from (all (q * q) (size q m)) in
        to_all_of (λ a. all_of (λ b. not (same_list (symbols_at places a) (symbols_at places b)) || same_list a b) words) words (λ a i.
        to_all_of (λ b. not (same_list (symbols_at places a) (symbols_at places b)) || same_list a b) words (λ b j.
        implies (same_list (symbols_at places a) (symbols_at places b)) (same_list a b) (λ s.
        let (v, iv, ev) = Memᴰ.of_map word_from (all (q * q) (size q m)) i in
        let (w, iw, ew) = Memᴰ.of_map word_from (all (q * q) (size q m)) j in
        to_same_list a b (sym ev ∙ ap word_from (h v w (of_mem_all (q * q) (size q m) v iv) (of_mem_all (q * q) (size q m) w iw)
        (rw (ev, ew) (of_same_list (symbols_at places a) (symbols_at places b) s))) ∙ ew))))

    -- ---- two codewords that agree on all of the places

    pub not_fixing : m < n → TwoAgree q columns m places → Fixing → ⊥
    not_fixing order two h = two.different (ap word_from (h two.one two.other two.one_message two.other_message two.agree))

    -- there are such two, or the places are fixing
    pub two_or_fixing : m < n → TwoAgree q columns m places ⊎ Fixing
    two_or_fixing order =
        elim (find (λ (v : List ℕ). (w : List ℕ) × Mem w messages × Pair v w) (λ v. (w : List ℕ) → Mem w messages → Pair v w → ⊥) row messages) [
          | inl f ↦
              let (v, i, rest) = f in
              let (w, j, p) = rest in
              inl (record {
                one = v;
                other = w;
                one_message = of_mem_all (q * q) (size q m) v i;
                other_message = of_mem_all (q * q) (size q m) w j;
                different = λ e. p.1 (word_injective order v w (of_mem_all (q * q) (size q m) v i) (of_mem_all (q * q) (size q m) w j) e);
                agree = p.0;
              })
          | inr none ↦ inr (λ v w hv hw e. elim (List-discrete ℕ_discrete v w) [
            | yes s ↦ s
            | no d ↦ absurd (none v (mem_all (q * q) (size q m) v hv) w (mem_all (q * q) (size q m) w hw) (e, d))
          ])
        ]
      where
        messages : List (List ℕ)
        messages = all (q * q) (size q m)

        Pair : List ℕ → List ℕ → Type 0
        Pair v w = (symbols_of v ≡ symbols_of w) × (v ≡ w → ⊥)

        test : (v w : List ℕ) → Pair v w ⊎ (Pair v w → ⊥)
        test v w = elim (List-discrete ℕ_discrete v w) [
          | yes e ↦ inr (λ p. p.1 e)
          | no d ↦ elim (List-discrete ℕ_discrete (symbols_of v) (symbols_of w)) [ yes s ↦ inl (s, d) | no c ↦ inr (λ p. c p.0) ]
        ]

        row : (v : List ℕ) → ((w : List ℕ) × Mem w messages × Pair v w) ⊎ ((w : List ℕ) → Mem w messages → Pair v w → ⊥)
        row v = find (Pair v) (λ w. Pair v w → ⊥) (test v) messages
