-- The tree of the vanishing polynomials of the halves of the columns, as it is written: a node, then the tree of the first half, then that
-- of the other. Each has its own room, so that what is there already stays.
-- Assumes nothing.
use mathlib.Core.Path.{◌≡◌, refl, sym, ap, ◌∙◌, subst}
use mathlib.Core.List.{List, ◌++◌}
use Prim.Native.Nat.{ℕ, zero, suc, ◌+◌, ◌-◌, ◌*◌, ◌^◌, ◌≤◌, ◌<◌}
use native.Mathlib.Nat.{mul-suc, mul-zero, mul-le-mul_left, pow-suc, pow-zero}
use native.Mathlib.Decide.{dec_lt}
use native.Mathlib.Omega.{arith}
use lib.ListN.{length, get_or, take, drop, length-drop, get_or-append, get_or-eq_default}
use lib.Seq.{length-take-le, get_or-take}
use borrow.Rule.Slice.PartMut.{put_mid}
use Rattle.field.specs.Field.{Field}
use Rattle.field.proofs.FieldLaws.{zero_lt}
use Rattle.poly.specs.Inner.Ranges.{Below, part, put}
use Rattle.poly.specs.Inner.Polynomials.{vanishing, Vanishing}
use Rattle.poly.specs.Inner.Interpolation.{half, coefficient_count, Node, Levels, Tree, TreeRoom, Outside, SameOutside, VanishingTree}
use Rattle.poly.proofs.Parts.{length_part, part_rest, below_part, below_take, below_drop, below_append}
use Rattle.poly.proofs.Parts.{put_is, length_put, put_low, put_in, put_high, below_put}
use Rattle.poly.proofs.Entries.{zeros, below_zeros}
use Rattle.poly.proofs.Fronts.{lent_long, array_long}
use Rattle.poly.proofs.Vanishings.{vanishing_degree, vanishing_below}

-- ---- the room of a tree

module _ (c stride at long : ℕ) (room : TreeRoom c stride at long) (two : 2 ≤ c) where
  some_levels : 1 ≤ room.levels
  some_levels = go room.levels room.few
    where
      go : (n : ℕ) → c ≤ 2 ^ n → 1 ≤ n
      go zero few = absurd (omega (arith, pow-zero 2))
      go (suc n) few = omega arith

  pub node_room : at + 2 * c ≤ long
  node_room =
      let n = room.levels - 1 in
      let next : room.levels ≡ suc n = omega (arith, some_levels) in
      omega (arith, room.room, ap (λ (x : ℕ). stride * x) next ∙ mul-suc stride n)

  -- b of the columns, from `from` on, a stride further: they have one level fewer
  pub half_room : (b from : ℕ) → 2 * b ≤ c + 1 → from + 2 * b ≤ at + stride + 2 * c → TreeRoom b stride from long
  half_room b from small fits =
      let n = room.levels - 1 in
      let next : room.levels ≡ suc n = omega (arith, some_levels) in
      record {
        levels = n;
        few = omega (arith, room.few, ap (λ (x : ℕ). 2 ^ x) next ∙ pow-suc 2 n);
        wide = omega (arith, room.wide);
        room = omega (arith, room.room, ap (λ (x : ℕ). stride * x) next ∙ mul-suc stride n);
        stride_small = room.stride_small;
        short = room.short;
      }

-- the rooms of the two halves are apart: number l of the first, r in it, and number m of the other
apart : (stride a b from l r m : ℕ) → 2 * a + 2 * b ≤ stride → r < 2 * a → Outside (from + 2 * a + stride * m) (2 * b) (from + stride * l + r)
apart stride a b from l r m wide inside low high = elim (dec_lt m l) [
  | yes h ↦ omega (arith, mul-suc stride m, mul-le-mul_left stride h)
  | no h ↦ omega (arith, before (omega arith))
]
  where
    before : l ≤ m → stride * l ≤ stride * m
    before h = mul-le-mul_left stride h

-- ---- the two halves of two columns or more

module _ (columns : List ℕ) (two : 2 ≤ length columns) where
  first_columns : length (take (half columns) columns) ≡ half columns
  first_columns = length-take-le (half columns) columns (omega arith)

  pub other_columns : length (part columns (half columns) (length columns)) ≡ length columns - half columns
  other_columns = ap length (part_rest columns (half columns)) ∙ length-drop (half columns) columns

  pub first_falls : {t : ℕ} → length columns ≡ t → length (take (half columns) columns) < t
  first_falls e = omega (arith, first_columns)

  pub others_fall : {t : ℕ} → length columns ≡ t → length (part columns (half columns) (length columns)) < t
  others_fall e = omega (arith, other_columns)

-- the room of the root
pub root_long : (columns : List ℕ) → length columns ≤ 16 → length (take (length columns + 1) (zeros 160)) ≡ length columns + 1
root_long columns few = lent_long 160 (length columns + 1) (omega arith)

module _ (F : Field) where
  -- ---- what other writing keeps

  module _ (tree tree' : List ℕ) (same : length tree' ≡ length tree) where
    moved : (i j : ℕ) → j ≡ i → get_or tree' i 0 ≡ get_or tree i 0 → get_or tree' j 0 ≡ get_or tree j 0
    moved i j e = subst (λ (x : ℕ). get_or tree' x 0 ≡ get_or tree x 0) (sym e)

    node_kept : (at : ℕ) (columns : List ℕ) → 2 ≤ length columns
        → ((r : ℕ) → r < 2 * length columns → get_or tree' (at + r) 0 ≡ get_or tree (at + r) 0)
        → Node F tree at columns → Node F tree' at columns
    node_kept at columns two kept node = record {
      room = omega (arith, node.room);
      first = λ i l. kept i (omega arith) ∙ node.first i l;
      others = λ i l. kept (coefficient_count columns + i) (omega arith) ∙ node.others i l;
    }

    levels_kept : (n stride at : ℕ) (columns : List ℕ)
        → ((l r : ℕ) → r < 2 * length columns → get_or tree' (at + stride * l + r) 0 ≡ get_or tree (at + stride * l + r) 0)
        → Levels n F stride tree at columns → Levels n F stride tree' at columns
    levels_kept zero stride at columns kept levels = tt
    levels_kept (suc n) stride at columns kept levels = λ two.
        let h = half columns in
        let first : length (take h columns) ≡ h = length-take-le h columns (omega arith) in (
          node_kept at columns two (λ r b. moved (at + stride * 0 + r) (at + r) (omega (arith, mul-zero stride)) (kept 0 r b)) (levels two).0,
          levels_kept n stride (at + stride) (take h columns)
              (λ l r b. moved (at + stride * suc l + r) (at + stride + stride * l + r) (omega (arith, mul-suc stride l)) (kept (suc l) r (omega arith)))
              (levels two).1,
          levels_kept n stride (at + stride + 2 * h) (drop h columns)
              (λ l r b. moved (at + stride * suc l + (2 * h + r)) (at + stride + 2 * h + stride * l + r) (omega (arith, mul-suc stride l))
              (kept (suc l) (2 * h + r) (omega (arith, length-drop h columns))))
              (levels two).2,
        )

  -- one column has no halves
  pub tree_one : (stride : ℕ) (tree : List ℕ) (at : ℕ) (columns : List ℕ) → length columns ≤ 1 → Tree F stride tree at columns
  tree_one stride tree at columns one zero = tt
  tree_one stride tree at columns one (suc n) = λ two. absurd (omega arith)

  -- ---- a node: ys and zs come back as the vanishing polynomials of the two halves

  -- what a half's polynomial needs, and what is there when both are written
  abbrev pub Asked : (columns out : List ℕ) → Type 0
  Asked columns out = Below F.size columns × (length columns < length out) × (length out ≤ 1024)

  abbrev pub Written : (columns tree : List ℕ) (at : ℕ) (out : List ℕ) → Type 0
  Written columns tree at out =
      (Node F out at columns × Below F.size out) × ((i : ℕ) → Outside at (2 * length columns) i → get_or out i 0 ≡ get_or tree i 0)

  module _ (columns tree : List ℕ) (at : ℕ) (two : 2 ≤ length columns) (fits : at + 2 * length columns ≤ length tree) where
    abbrev k : ℕ
    k = length columns - half columns + 1

    abbrev mid : ℕ
    mid = at + k

    abbrev end : ℕ
    end = mid + k

    first_room : length (part tree at mid) ≡ k
    first_room = length_part tree at mid (omega arith) (omega arith) ∙ omega arith

    pub first_asks : Below F.size columns → length tree ≤ 1024 → Asked (take (half columns) columns) (part tree at mid)
    first_asks small short = (
      below_take F.size columns (half columns) small,
      omega (arith, first_room, length-take-le (half columns) columns (omega arith)),
      omega (arith, first_room),
    )

    module _ (ys : List ℕ) (yl : length ys ≡ length (part tree at mid)) where
      abbrev once : List ℕ
      once = put tree at mid ys

      abbrev once_back : List ℕ
      once_back = put_mid at (mid - at) tree ys

      ys_long : length ys ≡ mid - at
      ys_long = yl ∙ first_room ∙ omega arith

      once_is : once_back ≡ once
      once_is = put_is tree at mid ys (omega arith)

      once_long : length once ≡ length tree
      once_long = length_put tree at mid ys (omega arith) (omega arith) ys_long

      end_fits : end ≤ length once
      end_fits = omega (arith, once_long)

      others_room : length (part once_back mid end) ≡ k
      others_room = ap (λ (l : List ℕ). length (part l mid end)) once_is ∙ length_part once mid end (omega arith) end_fits ∙ omega arith

      pub others_asks : Below F.size columns → length tree ≤ 1024 → Asked (part columns (half columns) (length columns)) (part once_back mid end)
      others_asks small short = (
        below_part F.size columns (half columns) (length columns) small,
        omega (arith, others_room, ap length (part_rest columns (half columns)), length-drop (half columns) columns),
        omega (arith, others_room),
      )

      module _ (zs : List ℕ) (zl : length zs ≡ length (part once_back mid end))
          (first : Vanishing F (take (half columns) columns) ys) (others : Vanishing F (part columns (half columns) (length columns)) zs) where
        abbrev twice : List ℕ
        twice = put once mid end zs

        zs_long : length zs ≡ end - mid
        zs_long = zl ∙ others_room ∙ omega arith

        twice_long : length twice ≡ length once
        twice_long = length_put once mid end zs (omega arith) end_fits zs_long

        others_are : Vanishing F (drop (half columns) columns) zs
        others_are = subst (λ (l : List ℕ). Vanishing F l zs) (part_rest columns (half columns)) others

        node_is : Node F twice at columns
        node_is = record {
          room = omega (arith, once_long, twice_long);
          first = λ i l.
              put_low once mid end zs (omega arith) end_fits zs_long (at + i) (omega arith)
              ∙ put_in tree at mid ys (omega arith) (omega arith) ys_long i (omega arith) ∙ first.is i;
          others = λ i l.
              let e : at + (coefficient_count columns + i) ≡ mid + i = omega arith in
              ap (λ (x : ℕ). get_or twice x 0) e ∙ put_in once mid end zs (omega arith) end_fits zs_long i (omega arith) ∙ others_are.is i;
        }

        node_outside : (i : ℕ) → Outside at (2 * length columns) i → get_or twice i 0 ≡ get_or tree i 0
        node_outside i o = elim (dec_lt i at) [
          | yes l ↦ put_low once mid end zs (omega arith) end_fits zs_long i (omega arith)
              ∙ put_low tree at mid ys (omega arith) (omega arith) ys_long i l
          | no l ↦ elim (dec_lt i (at + 2 * length columns)) [
            | yes b ↦ absurd (o (omega arith) b)
            | no b ↦ put_high once mid end zs (omega arith) end_fits zs_long i (omega arith)
                ∙ put_high tree at mid ys (omega arith) (omega arith) ys_long i (omega arith)
          ]
        ]

        twice_below : Below F.size tree → Below F.size twice
        twice_below small =
            below_put once mid end zs (omega arith) end_fits zs_long F.size
            (below_put tree at mid ys (omega arith) (omega arith) ys_long F.size small (vanishing_below F (take (half columns) columns) ys first))
            (vanishing_below F (drop (half columns) columns) zs others_are)

        pub node_written : Below F.size tree → Written columns tree at (put_mid mid (end - mid) once_back zs)
        node_written small =
            let is : put_mid mid (end - mid) once_back zs ≡ twice
            = ap (λ (l : List ℕ). put_mid mid (end - mid) l zs) once_is ∙ put_is once mid end zs (omega arith) in
            subst (Written columns tree at) (sym is) ((node_is, twice_below small), node_outside)

  -- ---- the tree of two columns or more: a node, the tree of the first half, that of the other

  module _ (columns tree : List ℕ) (stride at : ℕ) (two : 2 ≤ length columns) (room : TreeRoom (length columns) stride at (length tree)) where
    abbrev c : ℕ
    c = length columns

    abbrev h : ℕ
    h = half columns

    -- the node is there, and what isn't the tree's is as it was
    pub record WithNode (out : List ℕ) : Type 0 where
      pub long : length out ≡ length tree
      pub below : Below F.size out
      pub node : Node F out at columns
      pub outside : SameOutside stride at (2 * c) tree out

    -- the node has been written
    pub with_node : (out : List ℕ) → length out ≡ length tree → Written columns tree at out → WithNode out
    with_node out same w = record {
      long = same;
      below = w.0.1;
      node = w.0.0;
      outside = λ i o. w.1 i (λ low high. o 0 (omega (arith, mul-zero stride)) (omega (arith, mul-zero stride)));
    }

    -- numbers within the rooms of the levels after it have been written
    module _ (from n : ℕ) (low : at + stride ≤ from) (high : from + n ≤ at + stride + 2 * c) where
      with_node_still : (once twice : List ℕ) → WithNode once → length twice ≡ length once → Below F.size twice
          → SameOutside stride from n once twice → WithNode twice
      with_node_still once twice w same small kept = record {
        long = same ∙ w.long;
        below = small;
        node = node_kept once twice same at columns two (λ r b. kept (at + r) (λ l i j. omega (arith, room.wide))) w.node;
        outside = λ i o. kept i (λ l a b. o (suc l) (omega (arith, mul-suc stride l)) (omega (arith, mul-suc stride l))) ∙ w.outside i o;
      }

    -- the first half has its tree too
    pub record WithFirst (out : List ℕ) : Type 0 where
      pub with_node : WithNode out
      pub first : Tree F stride out (at + stride) (take h columns)

    pub left_room : (once : List ℕ) → WithNode once → TreeRoom (length (take h columns)) stride (at + stride) (length once)
    left_room once w = rw (w.long, first_columns columns two) (half_room c stride at (length tree) room two h (at + stride) (omega arith) (omega arith))

    pub with_first : (once twice : List ℕ) → WithNode once → length twice ≡ length once
        → Tree F stride twice (at + stride) (take h columns) × Below F.size twice
        → SameOutside stride (at + stride) (2 * length (take h columns)) once twice → WithFirst twice
    with_first once twice w same t kept = record {
      with_node =
          with_node_still (at + stride) (2 * length (take h columns)) (omega arith) (omega (arith, first_columns columns two)) once twice
          w same t.1 kept;
      first = t.0;
    }

    pub first_alone : (once : List ℕ) → WithNode once → h ≤ 1 → WithFirst once
    first_alone once w one = record { with_node = w; first = tree_one stride once (at + stride) (take h columns) (omega (arith, first_columns columns two)) }

    -- the whole
    abbrev pub Whole : List ℕ → Type 0
    Whole out = (Tree F stride out at columns × Below F.size out) × SameOutside stride at (2 * c) tree out

    pub right_room : (twice : List ℕ) → WithFirst twice → TreeRoom (length (part columns h c)) stride (at + stride + 2 * h) (length twice)
    right_room twice w =
        rw (w.with_node.long, other_columns columns two)
        (half_room c stride at (length tree) room two (c - h) (at + stride + 2 * h) (omega arith) (omega arith))

    whole : (out : List ℕ) → WithFirst out → Tree F stride out (at + stride + 2 * h) (drop h columns) → Whole out
    whole out w t = ((levels, w.with_node.below), w.with_node.outside)
      where
        levels : Tree F stride out at columns
        levels zero = tt
        levels (suc n) = λ _. (w.with_node.node, w.first n, t n)

    pub with_others : (twice out : List ℕ) → WithFirst twice → length out ≡ length twice
        → Tree F stride out (at + stride + 2 * h) (part columns h c) × Below F.size out
        → SameOutside stride (at + stride + 2 * h) (2 * length (part columns h c)) twice out → Whole out
    with_others twice out w same t kept =
        whole out
        (record {
          with_node =
              with_node_still (at + stride + 2 * h) (2 * length (part columns h c)) (omega arith) (omega (arith, other_columns columns two)) twice out
              w.with_node same t.1 kept;
          first = λ n. levels_kept twice out same n stride (at + stride) (take h columns)
              (λ l r b. kept (at + stride + stride * l + r)
              (λ m. rw (other_columns columns two)
              (apart stride h (c - h) (at + stride) l r m (omega (arith, room.wide)) (omega (arith, first_columns columns two)))))
              (w.first n);
        })
        (subst (Tree F stride out (at + stride + 2 * h)) (part_rest columns h) t.0)

    pub others_alone : (twice : List ℕ) → WithFirst twice → c ≤ h + 1 → Whole twice
    others_alone twice w one =
        whole twice w (tree_one stride twice (at + stride + 2 * h) (drop h columns) (omega (arith, length-drop h columns)))

  -- ---- the whole tree, in an array of 160 numbers: the polynomial of all columns, ys, and the tree of two columns or more

  module _ (columns : List ℕ) (few : length columns ≤ 16) where
    abbrev root : ℕ
    root = length columns + 1

    module _ (ys : List ℕ) (same : length ys ≡ length (take root (zeros 160))) (v : Vanishing F columns ys) where
      abbrev begun : List ℕ
      begun = ys ++ drop root (zeros 160)

      pub begun_long : length begun ≡ 160
      begun_long = sym (array_long 160 root (omega arith) ys same)

      pub begun_below : Below F.size begun
      begun_below =
          below_append F.size ys (drop root (zeros 160)) (vanishing_below F columns ys v)
          (below_drop F.size (zeros 160) root (below_zeros F.size 160 (zero_lt F)))

      pub begun_room : TreeRoom (length columns) (2 * length columns) root (length begun)
      begun_room = record {
        levels = 4;
        few = few;
        wide = omega arith;
        room = omega (arith, begun_long);
        stride_small = omega arith;
        short = omega (arith, begun_long);
      }

      whole_tree : (out : List ℕ) → length out ≡ length begun → Tree F (2 * length columns) out root columns → Below F.size out
          → ((i : ℕ) → i < root → get_or out i 0 ≡ get_or begun i 0) → VanishingTree F columns out × (length out ≡ 160)
      whole_tree out long tree small kept = (
        record {
          root = record { long = omega (arith, front); is = is };
          halves = tree;
          below = small;
          short = omega (arith, begun_long);
        },
        long ∙ begun_long,
      )
        where
          front : length (take root out) ≡ root
          front = length-take-le root out (omega (arith, begun_long))

          is : (i : ℕ) → get_or (take root out) i 0 ≡ vanishing F columns i
          is i = elim (dec_lt i root) [
            | yes l ↦ get_or-take root out i 0 l ∙ kept i l
                ∙ get_or-append ys (drop root (zeros 160)) 0 i (omega (arith, same, root_long columns few)) ∙ v.is i
            | no l ↦ get_or-eq_default (take root out) 0 {n = i} (omega (arith, front)) ∙ sym (vanishing_degree F columns i (omega arith))
          ]

      pub tree_of_more : (out : List ℕ) → length out ≡ length begun
          → (Tree F (2 * length columns) out root columns × Below F.size out)
          × SameOutside (2 * length columns) root (2 * length columns) begun out
          → VanishingTree F columns out × (length out ≡ 160)
      tree_of_more out long t = whole_tree out long t.0.0 t.0.1 (λ i l. t.1 i (λ m low high. omega arith))

      pub tree_of_one : length columns ≤ 1 → VanishingTree F columns begun × (length begun ≡ 160)
      tree_of_one one = whole_tree begun refl (tree_one (2 * length columns) begun root columns one) begun_below (λ i l. refl)
