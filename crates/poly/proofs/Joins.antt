-- The join by halves: what is asked of each half and given by it, and the whole.
-- Assumes nothing.
use mathlib.Core.Path.{◌≡◌, sym, ap, ap₂, ◌∙◌, subst}
use mathlib.Core.List.{List, ◌++◌, append-nil}
use Prim.Native.Nat.{ℕ, ◌+◌, ◌-◌, ◌*◌, ◌≤◌, ◌<◌}
use native.Mathlib.Nat.{le_of_lt, mul-add, mul-le-mul_right}
use native.Mathlib.Decide.{dec_lt}
use native.Mathlib.Omega.{arith}
use lib.ListN.{length, get_or, take, drop, length-take, length-drop, length-append, take-append-drop, get_or-eq_default}
use lib.Seq.{length-take-le, take_at, drop_at, drop-length, get_or-take}
use borrow.Rule.Slice.PartMut.{put_mid}
use Rattle.field.specs.Plus.{plus}
use Rattle.field.specs.Field.{Field}
use Rattle.poly.specs.Inner.Ranges.{Below, part}
use Rattle.poly.specs.Inner.Polynomials.{value, product, vanishing}
use Rattle.poly.specs.Inner.Interpolation.{interleaved, lagrange_sum, half, coefficient_count, Node, Padded, Joinable, Halves, Combined, Joined}
use Rattle.poly.proofs.Parts.{part_rest, length_part, part_at, below_part, below_take, below_drop, below_append}
use Rattle.poly.proofs.Values.{value_cong}
use Rattle.poly.proofs.Vanishings.{vanishing_degree, vanishing_value}
use Rattle.poly.proofs.Interleaving.{place_lt, interleaved_take, interleaved_drop}
use Rattle.poly.proofs.LagrangeSums.{lagrange_sum_cong, lagrange_sum_halves, lagrange_sum_one}
use Rattle.poly.proofs.Halves.{block_in}

-- two parts of a list
below_halves : (q n : ℕ) (l : List ℕ) → Below q (take n l) → Below q (drop n l) → Below q l
below_halves q n l a b = subst (Below q) (take-append-drop n l) (below_append q (take n l) (drop n l) a b)

module _ (F : Field) where
  -- one column is joined as it is
  pub joined_one : (w : ℕ) (columns rows : List ℕ) → Joinable F w columns rows → length columns ≡ 1 → Joined F w columns rows rows
  joined_one w columns rows p one = record {
    below = p.work_below;
    is = λ j x jw.
        value_cong F (length columns) (interleaved w rows j) (interleaved 16 rows j) x
        (λ i b. let z : i ≡ 0 = omega arith in ap (λ (u : ℕ). get_or rows (u + j) 0) (first i z))
        ∙ lagrange_sum_one F columns (interleaved 16 rows j) x one;
    padded = λ b t k m n.
        let z : b ≡ 0 = omega (arith, p.narrow, ap (λ (c : ℕ). w * c) one) in
        ap (λ (u : ℕ). get_or rows (16 * u + t) 0) z
        ∙ p.zeros 0 t (omega arith) (omega (arith, ap (λ (c : ℕ). w * c) one, ap (λ (u : ℕ). 16 * u) z)) m;
  }
    where
      first : (i : ℕ) → i ≡ 0 → w * i ≡ 16 * i
      first i z = omega (arith, ap (λ (u : ℕ). w * u) z)

  module _ (w : ℕ) (columns rows : List ℕ) (p : Joinable F w columns rows) (two : 2 ≤ length columns) where
    abbrev h : ℕ
    h = half columns

    low : 1 ≤ h
    low = omega arith

    high : h < length columns
    high = omega arith

    split : 16 * length columns ≡ 16 * h + 16 * (length columns - h)
    split = let up : length columns ≡ h + (length columns - h) = omega arith in ap (λ (n : ℕ). 16 * n) up ∙ mul-add 16 h (length columns - h)

    pub rows_le : 16 * h ≤ length rows
    rows_le = omega (arith, p.long, split)

    left_long : length (take (16 * h) rows) ≡ 16 * h
    left_long = length-take-le (16 * h) rows rows_le

    right_long : length (drop (16 * h) rows) ≡ 16 * (length columns - h)
    right_long = length-drop (16 * h) rows ∙ omega (arith, p.long, split)

    first_columns : length (take h columns) ≡ h
    first_columns = length-take-le h columns (le_of_lt high)

    pub left_asks : Joinable F w (take h columns) (take (16 * h) rows)
    left_asks = record {
      columns_below = below_take F.size columns h p.columns_below;
      work_below = below_take F.size rows (16 * h) p.work_below;
      few = omega (arith, first_columns, high, p.few);
      narrow = p.narrow;
      long = left_long ∙ ap (λ (n : ℕ). 16 * n) (sym first_columns);
      zeros = λ t j l b k.
          let i : t < h = omega (arith, first_columns) in
          get_or-take (16 * h) rows (16 * t + j) 0 (place_lt 16 t j h k i) ∙ p.zeros t j (omega (arith, high)) b k;
    }

    left_one : h ≡ 1 → Joined F w (take h columns) (take (16 * h) rows) (take (16 * h) rows)
    left_one e = joined_one w (take h columns) (take (16 * h) rows) left_asks (first_columns ∙ e)

    right_asks_of : (once : List ℕ) → drop (16 * h) once ≡ drop (16 * h) rows → Joinable F w (drop h columns) (drop (16 * h) once)
    right_asks_of once e = rw e
        (record {
          columns_below = below_drop F.size columns h p.columns_below;
          work_below = below_drop F.size rows (16 * h) p.work_below;
          few = omega (arith, length-drop h columns, p.few);
          narrow = p.narrow;
          long = right_long ∙ ap (λ (n : ℕ). 16 * n) (sym (length-drop h columns));
          zeros = λ t j l b k. interleaved_drop 16 rows j h t ∙ p.zeros (h + t) j (omega (arith, length-drop h columns)) b k;
        })

    -- the first half is joined, the other as it was
    pub record FirstJoined (once : List ℕ) : Type 0 where
      pub long : length once ≡ length rows
      pub first : Joined F w (take h columns) (take (16 * h) rows) (take (16 * h) once)
      pub rest : drop (16 * h) once ≡ drop (16 * h) rows

    -- the first rows have come back as ys, or there is one
    pub first_joined : (once ys : List ℕ) → length ys ≡ length (take (16 * h) rows) → once ≡ ys ++ drop (16 * h) rows
        → Joined F w (take h columns) (take (16 * h) rows) ys → FirstJoined once
    first_joined once ys ly e j =
        let l = ly ∙ left_long in
        record {
          long = ap length e ∙ length-append ys (drop (16 * h) rows) ∙ omega (arith, l, length-drop (16 * h) rows, rows_le);
          first =
              subst (Joined F w (take h columns) (take (16 * h) rows)) (sym (ap (take (16 * h)) e ∙ take_at ys (drop (16 * h) rows) (16 * h) l)) j;
          rest = ap (drop (16 * h)) e ∙ drop_at ys (drop (16 * h) rows) (16 * h) l;
        }

    pub first_alone : (once : List ℕ) → once ≡ rows → h ≤ 1 → FirstJoined once
    first_alone once e one = record {
      long = ap length e;
      first = rw e (left_one (omega (arith, low)));
      rest = ap (drop (16 * h)) e;
    }

    module _ (once : List ℕ) (o : FirstJoined once) where
      pub first_le : 16 * h ≤ length once
      first_le = omega (arith, o.long, rows_le)

      pub right_asks : Joinable F w (part columns h (length columns)) (part once (16 * h) (length once))
      right_asks = rw (part_rest columns h, part_rest once (16 * h)) (right_asks_of once o.rest)

      -- both halves are joined
      pub record BothJoined (twice : List ℕ) : Type 0 where
        pub long : length twice ≡ length rows
        pub first : Joined F w (take h columns) (take (16 * h) rows) (take (16 * h) twice)
        pub others : Joined F w (drop h columns) (drop (16 * h) rows) (drop (16 * h) twice)

      -- the other rows have come back as zs, or there is one
      pub both_joined : (twice zs : List ℕ) → length zs ≡ length (part once (16 * h) (length once))
          → twice ≡ put_mid (16 * h) (length once - 16 * h) once zs
          → Joined F w (part columns h (length columns)) (part once (16 * h) (length once)) zs → BothJoined twice
      both_joined twice zs lz e j =
          let back : twice ≡ take (16 * h) once ++ zs
          = e
          ∙ ap (λ (v : List ℕ). take (16 * h) once ++ (zs ++ v))
          (ap (λ (n : ℕ). drop n (drop (16 * h) once)) (sym (length-drop (16 * h) once)) ∙ drop-length (drop (16 * h) once))
          ∙ ap (λ (u : List ℕ). take (16 * h) once ++ u) (append-nil zs) in
          let front : length (take (16 * h) once) ≡ 16 * h = length-take-le (16 * h) once first_le in
          let given : Joined F w (drop h columns) (drop (16 * h) rows) zs
          = subst (λ (l : List ℕ). Joined F w l (drop (16 * h) rows) zs) (part_rest columns h)
          (subst (λ (l : List ℕ). Joined F w (part columns h (length columns)) l zs) (part_rest once (16 * h) ∙ o.rest) j) in
          record {
            long =
                ap length back
                ∙ length-append (take (16 * h) once) zs
                ∙ omega (arith, front, lz ∙ ap length (part_rest once (16 * h) ∙ o.rest), right_long, rows_le, p.long, split);
            first =
                subst (Joined F w (take h columns) (take (16 * h) rows))
                (sym (ap (take (16 * h)) back ∙ take_at (take (16 * h) once) zs (16 * h) front)) o.first;
            others =
                subst (Joined F w (drop h columns) (drop (16 * h) rows))
                (sym (ap (drop (16 * h)) back ∙ drop_at (take (16 * h) once) zs (16 * h) front)) given;
          }

      pub others_alone : (twice : List ℕ) → twice ≡ once → length columns ≤ h + 1 → BothJoined twice
      others_alone twice e one =
          let single : length (drop h columns) ≡ 1 = omega (arith, length-drop h columns, high) in
          record {
            long = ap length e ∙ o.long;
            first = rw e o.first;
            others = subst (λ (l : List ℕ). Joined F w (drop h columns) l (drop (16 * h) twice)) (ap (drop (16 * h)) e ∙ o.rest)
                (joined_one w (drop h columns) (drop (16 * h) twice) (right_asks_of twice (ap (drop (16 * h)) e ∙ o.rest)) single);
          }

      module _ (twice : List ℕ) (d : BothJoined twice) where
        at_first : (i : ℕ) → i < 16 * h → get_or twice i 0 ≡ get_or (take (16 * h) twice) i 0
        at_first i l = sym (get_or-take (16 * h) twice i 0 l)

        module _ (tree : List ℕ) (at mid end : ℕ) (node : Node F tree at columns) (small : Below F.size tree)
            (is_mid : mid ≡ at + coefficient_count columns) (is_end : end ≡ mid + coefficient_count columns) where
          abbrev k : ℕ
          k = coefficient_count columns

          abbrev f : List ℕ
          f = part tree at mid

          abbrev g : List ℕ
          g = part tree mid end

          f_at : (i : ℕ) → i < k → get_or f i 0 ≡ vanishing F (take h columns) i
          f_at i l = part_at tree at mid i (omega arith) ∙ node.first i l

          g_at : (i : ℕ) → i < k → get_or g i 0 ≡ vanishing F (drop h columns) i
          g_at i l =
              let e : mid + i ≡ at + (k + i) = omega arith in
              part_at tree mid end i (omega arith) ∙ ap (λ (x : ℕ). get_or tree x 0) e ∙ node.others i l

          others_padded : Padded (w * (length columns - h)) (drop (16 * h) twice)
          others_padded = subst (λ (n : ℕ). Padded (w * n) (drop (16 * h) twice)) (length-drop h columns) d.others.padded

          first_padded : Padded (w * h) (take (16 * h) twice)
          first_padded = subst (λ (n : ℕ). Padded (w * n) (take (16 * h) twice)) first_columns d.first.padded

          f_length : length f ≡ k
          f_length = length_part tree at mid (omega arith) (omega (arith, node.room)) ∙ omega arith

          g_length : length g ≡ k
          g_length = length_part tree mid end (omega arith) (omega (arith, node.room)) ∙ omega arith

          pub halves : Halves F w h (length columns) f g twice
          halves = record {
            some = low;
            more = high;
            even = omega arith;
            smaller = omega arith;
            few = p.few;
            narrow = p.narrow;
            long = d.long ∙ p.long;
            work_below = below_halves F.size (16 * h) twice d.first.below d.others.below;
            f_below = below_part F.size tree at mid small;
            g_below = below_part F.size tree mid end small;
            f_long = f_length;
            g_long = g_length;
            degree = λ i l. elim (dec_lt i k) [
              | yes m ↦ f_at i m ∙ vanishing_degree F (take h columns) i (omega (arith, first_columns))
              | no m ↦ get_or-eq_default f 0 {n = i} (omega (arith, f_length))
            ];
            first = λ b t l m n. at_first (16 * b + t) (omega (arith, block_in w h b p.narrow l)) ∙ first_padded b t l m n;
            others = others_padded;
          }

          pub joined : (out : List ℕ) → Combined F w h (length columns) f g twice out → Joined F w columns rows out
          joined out c = record { below = c.below; is = is; padded = c.padded }
            where
              narrow : w ≤ 16
              narrow = omega (arith, p.narrow)

              left : (j x : ℕ) → j < w → value F h (interleaved w twice j) x ≡ lagrange_sum F (take h columns) (interleaved 16 rows j) x
              left j x jw =
                  value_cong F h (interleaved w twice j) (interleaved w (take (16 * h) twice) j) x
                  (λ i l.
                  let m : w * i + j < w * h = place_lt w i j h jw l in
                  let n : w * h ≤ 16 * h = mul-le-mul_right h narrow in
                  at_first (w * i + j) (omega arith))
                  ∙ ap (λ (n : ℕ). value F n (interleaved w (take (16 * h) twice) j) x) (sym first_columns)
                  ∙ d.first.is j x jw
                  ∙ lagrange_sum_cong F (take h columns) (interleaved 16 (take (16 * h) rows) j) (interleaved 16 rows j) x
                  (λ t l. interleaved_take 16 rows j h t (omega (arith, p.narrow)) (omega (arith, first_columns)))

              right : (j x : ℕ) → j < w → value F (length columns - h) (interleaved w (drop (16 * h) twice) j) x
                  ≡ lagrange_sum F (drop h columns) (λ t. interleaved 16 rows j (h + t)) x
              right j x jw =
                  ap (λ (n : ℕ). value F n (interleaved w (drop (16 * h) twice) j) x) (sym (length-drop h columns))
                  ∙ d.others.is j x jw
                  ∙ lagrange_sum_cong F (drop h columns) (interleaved 16 (drop (16 * h) rows) j) (λ t. interleaved 16 rows j (h + t)) x
                  (λ t l. interleaved_drop 16 rows j h t)

              g_value : (x : ℕ) → value F k (λ i. get_or g i 0) x ≡ product F (drop h columns) x
              g_value x =
                  value_cong F k (λ i. get_or g i 0) (vanishing F (drop h columns)) x (λ i l. g_at i l)
                  ∙ vanishing_value F (drop h columns) k x (omega (arith, length-drop h columns))

              f_value : (x : ℕ) → value F k (λ i. get_or f i 0) x ≡ product F (take h columns) x
              f_value x =
                  value_cong F k (λ i. get_or f i 0) (vanishing F (take h columns)) x (λ i l. f_at i l)
                  ∙ vanishing_value F (take h columns) k x (omega (arith, first_columns))

              is : (j x : ℕ) → j < w → value F (length columns) (interleaved w out j) x ≡ lagrange_sum F columns (interleaved 16 rows j) x
              is j x jw =
                  c.is j x jw
                  ∙ ap₂ plus (ap₂ F.times (g_value x) (left j x jw)) (ap₂ F.times (f_value x) (right j x jw))
                  ∙ sym (lagrange_sum_halves F h columns (interleaved 16 rows j) x (le_of_lt high))

    pub left_falls : {t : ℕ} → length columns ≡ t → length (take h columns) < t
    left_falls e = omega (arith, length-take h columns, high)

    pub right_falls : {t : ℕ} → length columns ≡ t → length (part columns h (length columns)) < t
    right_falls e = omega (arith, ap length (part_rest columns h), length-drop h columns, low)
