-- WHY THE MENDER IS EXACT. Let v be a message whose word c differs from the word r in at most t places, and s = t + g.
-- (a) Some f of order s, not 0, is 0 at those places; so f·r = f·c is a word of order m + s. (b) Every f whose product with r is a word of
-- order m + s is 0 at those places. (c) Such an f, not 0, has at most s zeros, and v alone fits r with its places missing where f is 0.
-- Assumes nothing.
use mathlib.Core.Bool.{Bool, not}
use mathlib.Core.List.{List}
use mathlib.Core.Path.{◌≡◌, sym, ap, ◌∙◌, subst}
use Prim.Native.Nat.{ℕ, ◌+◌, ◌*◌, ◌≤◌, ◌<◌}
use native.Mathlib.Decide.{ℕ_discrete}
use native.Mathlib.Omega.{arith}
use lib.Dec.{T, eqb, eqb→eq, T_not}
use lib.ListN.{length, get_or}
use Rattle.field.specs.Plus.{plus}
use Rattle.field.proofs.Plus.{plus_self, eq_of_plus_zero}
use Rattle.field.proofs.FieldLaws.{times_zero, zero_times, zero_of_times}
use Rattle.field.proofs.Fields.{field_of}
use Rattle.field.proofs.Curves.{sizes, two_symbols, short_curve}
use Rattle.poly.specs.Lists.{count, below}
use Rattle.poly.specs.Messages.{Vector}
use Rattle.poly.specs.Inner.Linear.{entry, dot}
use Rattle.poly.proofs.Lists.{get_or_mem}
use Rattle.poly.proofs.Homogeneous.{nonzero_solution}
use Rattle.points.specs.Series.{columns_of}
use Rattle.points.proofs.Series.{full_columns, full_places}
use Rattle.code.specs.Terms.{size}
use Rattle.code.specs.Word.{word_of}
use Rattle.code.specs.Fitting.{fitting}
use Rattle.code.specs.Recovered.{message, reading}
use Rattle.code.specs.Inner.Rows.{row_of}
use Rattle.code.proofs.Facts.{facts}
use Rattle.code.proofs.Fitting.{Fits}
use Rattle.code.proofs.Readings.{Fitting, fitting_list, reads_message, reading_message}
use Rattle.code.proofs.Rows.{word_dot}
use Rattle.mend.specs.Mended.{radius, differs_at}
use Rattle.mend.specs.Inner.Locating.{symbol_at, reach, Mendable, Near, Product, Locator, Erased}
use Rattle.mend.proofs.Counts.{to_eqb, to_differs, of_not_differs, places, length_places, nodup_places, mem_places, of_mem_places, count_else, count_else_two, differing_count}
use Rattle.mend.proofs.Dimensions.{radius_lt}
use Rattle.mend.proofs.Symbols.{of_size, symbol_lt, product_of, zero_at, few_zeros}

module _ (q series m : ℕ) (word : List ℕ) (ok : Mendable q series m word) where
  abbrev word_from : List ℕ → List ℕ
  word_from = word_of q (columns_of q series) m

  -- v's word has another symbol at p
  abbrev pub Wrong : List ℕ → ℕ → Type 0
  Wrong v p = get_or word p 0 ≡ symbol_at q series m v p → ⊥

  abbrev wrong_at : List ℕ → ℕ → Bool
  wrong_at v = differs_at word (word_from v)

  few_wrong : (v : List ℕ) → Near q series m word v → count (wrong_at v) (below (q * q * q)) ≤ radius q m
  few_wrong v h = omega (arith, h.within, differing_count word (word_from v) (q * q * q) ok.long)

  -- ---- NEVER TWO

  pub never_two : (v w : List ℕ) → Near q series m word v → Near q series m word w → v ≡ w
  never_two v w hv hw =
      (facts q series m (short_curve q ok.curve)).agreement v w hv.vector hw.vector (places same (q * q * q)) (nodup_places same (q * q * q))
      (omega (
        arith,
        length_places same (q * q * q),
        few_wrong v hv,
        few_wrong w hw,
        count_else_two (wrong_at v) (wrong_at w) same (q * q * q) (λ p l a b.
            to_eqb (symbol_at q series m v p) (symbol_at q series m w p) (sym (of_not_differs (get_or word p 0) (symbol_at q series m v p) a)
            ∙ of_not_differs (get_or word p 0) (symbol_at q series m w p) b)),
      ))
      (λ p k. let a = of_mem_places same (q * q * q) p k in (a.0, eqb→eq (symbol_at q series m v p) (symbol_at q series m w p) a.1))
    where
      same : ℕ → Bool
      same p = eqb (symbol_at q series m v p) (symbol_at q series m w p)

  -- ---- (a) THERE IS ONE

  module _ (v : List ℕ) (h : Near q series m word v) where
    abbrev wrong : List ℕ
    wrong = places (wrong_at v) (q * q * q)

    solution : (f : List ℕ) × Vector (field_of q).size (size q (reach q m)) f
        × ((i : ℕ) → i < length wrong → dot (field_of q) (size q (reach q m)) (row_of q (columns_of q series) (reach q m) (get_or wrong i 0)) (entry f) ≡ 0)
        × ((i : ℕ) × (i < size q (reach q m)) × (entry f i ≡ 0 → ⊥))
    solution =
        nonzero_solution (field_of q) (length wrong) (size q (reach q m)) (λ i. row_of q (columns_of q series) (reach q m) (get_or wrong i 0))
        (omega (arith, length_places (wrong_at v) (q * q * q), few_wrong v h, radius_lt q (short_curve q ok.curve) m))

    vanishes : (p : ℕ) → p < q * q * q → Wrong v p → symbol_at q series (reach q m) solution.0 p ≡ 0
    vanishes p l d =
        let (i, il, e) = get_or_mem wrong 0 (mem_places (wrong_at v) (q * q * q) p l (to_differs (get_or word p 0) (symbol_at q series m v p) d)) in
        let curve = short_curve q ok.curve in
        word_dot q (columns_of q series) (full_columns q series curve) (reach q m) solution.0 p (omega (arith, full_places q series curve))
        ∙ subst (λ (x : ℕ). dot (field_of q) (size q (reach q m)) (row_of q (columns_of q series) (reach q m) x) (entry solution.0) ≡ 0) e
        (solution.2 i il)

    pub found : List ℕ
    found = solution.0

    pub found_locates : Locator q series m word found
    unfolding found
    found_locates =
        let (e, he, at) = product_of q series (short_curve q ok.curve) m (reach q m) v solution.0 in
        record {
          vector = of_size q (short_curve q ok.curve) (size q (reach q m)) solution.0 solution.1;
          place = solution.3.0;
          some = solution.3.2;
          product = e;
          is = record { vector = he; is = λ p l. at p l ∙ equal p l (ℕ_discrete (get_or word p 0) (symbol_at q series m v p)) };
        }
      where
        equal : (p : ℕ) → p < q * q * q → Dec (get_or word p 0 ≡ symbol_at q series m v p)
            → (field_of q).times (symbol_at q series m v p) (symbol_at q series (reach q m) solution.0 p)
            ≡ (field_of q).times (symbol_at q series (reach q m) solution.0 p) (get_or word p 0)
        equal p l (yes e) =
            (field_of q).times_comm (symbol_at q series m v p) (symbol_at q series (reach q m) solution.0 p)
            ∙ ap ((field_of q).times (symbol_at q series (reach q m) solution.0 p)) (sym e)
        equal p l (no d) =
            let z : symbol_at q series (reach q m) solution.0 p ≡ 0 = vanishes p l d in
            ap ((field_of q).times (symbol_at q series m v p)) z ∙ times_zero (field_of q) (symbol_at q series m v p)
            ∙ sym (zero_times (field_of q) (get_or word p 0)) ∙ ap (λ (x : ℕ). (field_of q).times x (get_or word p 0)) (sym z)

  -- ---- (b) EACH IS 0 WHERE THE WORD IS WRONG

  module _ (v : List ℕ) (h : Near q series m word v) (f g : List ℕ) (is : Product q series m (reach q m) word f g) where
    right : ℕ → Bool
    right p = eqb (get_or word p 0) (symbol_at q series m v p)

    -- f·r and f·c are words of the same polynomial
    same_product : (p : ℕ) → p < q * q * q
        → (field_of q).times (symbol_at q series (reach q m) f p) (get_or word p 0)
        ≡ (field_of q).times (symbol_at q series (reach q m) f p) (symbol_at q series m v p)
    unfolding right
    same_product p l =
        let (e, he, at) = product_of q series (short_curve q ok.curve) m (reach q m) v f in
        let one : g ≡ e = (facts q series (m + reach q m) (short_curve q ok.curve)).agreement g e is.vector he (places right (q * q * q))
        (nodup_places right (q * q * q))
        (omega (
          arith,
          length_places right (q * q * q),
          few_wrong v h,
          count_else (wrong_at v) right (q * q * q)
              (λ x xl n. to_eqb (get_or word x 0) (symbol_at q series m v x) (of_not_differs (get_or word x 0) (symbol_at q series m v x) n)),
        ))
        (λ x k.
        let a = of_mem_places right (q * q * q) x k in (
          a.0,
          is.is x a.0 ∙ ap ((field_of q).times (symbol_at q series (reach q m) f x)) (eqb→eq (get_or word x 0) (symbol_at q series m v x) a.1)
              ∙ (field_of q).times_comm (symbol_at q series (reach q m) f x) (symbol_at q series m v x) ∙ sym (at x a.0),
        )) in
        sym (is.is p l) ∙ ap (λ (x : List ℕ). symbol_at q series (m + reach q m) x p) one ∙ at p l
        ∙ (field_of q).times_comm (symbol_at q series m v p) (symbol_at q series (reach q m) f p)

    pub locates : (p : ℕ) → p < q * q * q → Wrong v p → symbol_at q series (reach q m) f p ≡ 0
    locates p l d =
        let F = field_of q in
        let r = get_or word p 0 in
        let c = symbol_at q series m v p in
        let x = symbol_at q series (reach q m) f p in
        let small : r < F.size = omega (arith, ok.symbols p l, (sizes q (short_curve q ok.curve)).size) in
        zero_of_times F (plus r c) x (F.plus_lt r c small (symbol_lt q series (short_curve q ok.curve) m v p l)) (λ z. d (eq_of_plus_zero r c z))
        (symbol_lt q series (short_curve q ok.curve) (reach q m) f p l)
        (F.times_comm (plus r c) x ∙ F.times_plus x r c ∙ ap (λ (y : ℕ). plus y (F.times x c)) (same_product p l) ∙ plus_self (F.times x c))

  -- ---- (c) AND WHAT IS LEFT OF THE WORD IS READ

  module _ (f broken : List ℕ) (loc : Locator q series m word f) (er : Erased q series (reach q m) word f broken) where
    -- a place that is not missing is one where f is not 0
    there : (p : ℕ) → p < q * q * q → (get_or broken p 0 ≡ 255 → ⊥) → symbol_at q series (reach q m) f p ≡ 0 → ⊥
    there p l n z = n (er.missing p l z)

    -- and the other way
    symbol_there : (p : ℕ) → p < q * q * q → (symbol_at q series (reach q m) f p ≡ 0 → ⊥) → get_or broken p 0 ≡ 255 → ⊥
    symbol_there p l n e =
        omega (arith, er.kept p l n, ok.symbols p l, (sizes q (short_curve q ok.curve)).symbols)

    near_fits : (v : List ℕ) → Near q series m word v → Fits word_from broken v
    near_fits v h = record { at = λ p l n. go p (omega (arith, er.long)) n }
      where
        go : (p : ℕ) → p < q * q * q → (get_or broken p 0 ≡ 255 → ⊥) → symbol_at q series m v p ≡ get_or broken p 0
        go p l n =
            let k = er.kept p l (there p l n) in
            elim (ℕ_discrete (get_or word p 0) (symbol_at q series m v p)) [
              | yes e ↦ sym e ∙ sym k
              | no d ↦ absurd (there p l n (locates v h f loc.product loc.is p l d))
            ]

    -- two messages that fit are the same: they agree at the n - s places where f is not 0
    pub fit_alone : (v w : List ℕ) → Vector (q * q) (size q m) v → Vector (q * q) (size q m) w
        → Fits word_from broken v → Fits word_from broken w → v ≡ w
    fit_alone v w hv hw fv fw =
        (facts q series m (short_curve q ok.curve)).agreement v w hv hw (places same (q * q * q)) (nodup_places same (q * q * q))
        (omega (
          arith,
          length_places same (q * q * q),
          few_zeros q series (short_curve q ok.curve) (reach q m) f loc.vector loc.place loc.some,
          count_else (zero_at q series (short_curve q ok.curve) (reach q m) f) same (q * q * q)
              (λ p l n. to_eqb (symbol_at q series m v p) (symbol_at q series m w p) (agreed p l (nonzero p n))),
        ))
        (λ p k. let a = of_mem_places same (q * q * q) p k in (a.0, eqb→eq (symbol_at q series m v p) (symbol_at q series m w p) a.1))
      where
        same : ℕ → Bool
        same p = eqb (symbol_at q series m v p) (symbol_at q series m w p)

        nonzero : (p : ℕ) → T (not (zero_at q series (short_curve q ok.curve) (reach q m) f p)) → symbol_at q series (reach q m) f p ≡ 0 → ⊥
        nonzero p t z = T_not (eqb (symbol_at q series (reach q m) f p) 0) t (to_eqb (symbol_at q series (reach q m) f p) 0 z)

        agreed : (p : ℕ) → p < q * q * q → (symbol_at q series (reach q m) f p ≡ 0 → ⊥) → symbol_at q series m v p ≡ symbol_at q series m w p
        agreed p l n =
            let here : p < length broken = omega (arith, er.long) in
            fv.at p here (symbol_there p l n) ∙ sym (fw.at p here (symbol_there p l n))

    pub near_read : (v : List ℕ) → Near q series m word v → reading (q * q) (size q m) word_from broken ≡ message v
    near_read v h =
        reading_message (q * q) (size q m) word_from broken (two_symbols q (short_curve q ok.curve)) v h.vector (near_fits v h)
        (λ w hw fw. fit_alone w v hw h.vector fw (near_fits v h))

    pub read_vector : (v : List ℕ) → reading (q * q) (size q m) word_from broken ≡ message v → Vector (q * q) (size q m) v
    unfolding reading
    read_vector v e =
        ((reads_message (q * q) (two_symbols q (short_curve q ok.curve)) (Fitting (q * q) (size q m) word_from broken) (fitting (q * q) (size q m) word_from broken)
        (fitting_list (q * q) (size q m) word_from broken) v).0 e).has.vector

  -- where there is no such f, no message is near
  pub none_near : ((f : List ℕ) → Locator q series m word f → ⊥) → (v : List ℕ) → Near q series m word v → ⊥
  none_near none v h = none (found v h) (found_locates v h)
