-- The grid of a word: the one that takes the word's value at every point of the columns. Interpolation leaves it; a message has the word exactly
-- where its coefficients, laid out, are that grid; so the test of the weights says whether a message has the word, and the grid which.
-- Assumes nothing.
use mathlib.Core.Bool.{Bool, true, false, cond}
use mathlib.Core.List.Memᴰ.{head}
use mathlib.Core.List.Memᴰ.{not-nil}
use mathlib.Core.List.{List, [], ◌∷◌}
use mathlib.Core.Path.{◌≡◌, refl, sym, ap, ◌∙◌}
use Prim.Native.Nat.{ℕ, suc, ◌+◌, ◌*◌, ◌≤◌, ◌<◌}
use native.Mathlib.Nat.{mul-le-mul_right}
use native.Mathlib.Decide.{dec_lt}
use native.Mathlib.Omega.{arith}
use lib.ListN.{length, get_or, take}
use lib.Seq.{length-take-le, get_or-take}
use Rattle.field.proofs.Fields.{field_of}
use Rattle.field.proofs.FieldLaws.{zero_lt}
use Rattle.field.proofs.Curves.{sizes}
use Rattle.std.specs.Prelude.{Err}
use Rattle.field.specs.Outcomes.{Done}
use Rattle.field.specs.declared.outcome.Refusal.TheVariants.{NoMessage}
use Rattle.poly.specs.Messages.{Vector}
use Rattle.poly.specs.Sets.{ListOf}
use Rattle.poly.specs.Inner.Ranges.{Below}
use Rattle.poly.specs.Inner.Polynomials.{value}
use Rattle.poly.specs.Inner.Rows.{stored}
use Rattle.poly.specs.Inner.Interpolation.{interleaved, Joinable, Interpolated}
use Rattle.poly.proofs.Lists.{each_mem}
use Rattle.poly.proofs.Messages.{below_vector, vector_below}
use Rattle.poly.proofs.Values.{value_cong, value_lt}
use Rattle.poly.proofs.Writes.{writes_out}
use Rattle.poly.proofs.Multiples.{stored_in}
use Rattle.poly.proofs.Roots.{value_unique}
use Rattle.poly.proofs.Interleaving.{place_lt, interleaved_take}
use Rattle.poly.proofs.Interpolants.{at_column, interleaved_unique}
use Rattle.poly.proofs.Blocks.{blocks_ext}
use Rattle.poly.proofs.Parts.{below_take}
use Rattle.points.specs.Points.{ys_of}
use Rattle.points.specs.Inner.Columns.{column_y}
use Rattle.points.proofs.ColumnPoints.{length_ys}
use Rattle.points.proofs.Points.{nodup_ys}
use Rattle.code.specs.Terms.{weights, size}
use Rattle.code.specs.Word.{word_of}
use Rattle.code.specs.Inner.Grid.{entry_of, scatter, gather, order_at_most}
use Rattle.code.specs.Fitting.{fitting}
use Rattle.code.specs.Answers.{answered}
use Rattle.code.specs.Unencoded.{the_message}
use Rattle.code.specs.Inner.Readable.{WordOver, InterpolatedInY, grid_value, GridOf, GridInFront, read_over, grid_answer}
use Rattle.code.proofs.GridEntries.{length_scatter, length_gather, gather_scatter, gather_number}
use Rattle.code.proofs.GridLaw.{two_stages}
use Rattle.code.proofs.Order.{within_scatter, within_message}
use Rattle.code.proofs.WordColumns.{word_at, word_length}
use Rattle.code.proofs.Stages.{columns_below, symbols_scatter, ys_below}
use Rattle.code.proofs.Fitting.{Fits}
use Rattle.code.proofs.Readings.{Fitting, fitting_list, none_listed}

-- the coefficients of a grid of symbols are symbols
pub vector_gather : (q m b : ℕ) (grid : List ℕ) → Below b grid → Vector b (size q m) (gather q m grid)
vector_gather q m b grid h =
    record {
      len = length_gather q m grid;
      small = λ i l. rw (gather_number q m grid i l) (h (entry_of q (get_or (weights q m) i 0)));
    }

module _ (q : ℕ) (columns word : List ℕ) (w : WordOver q columns word) where
  -- the word is no longer than the rows of its columns
  pub word_fits : length word ≤ 16 * length columns
  word_fits =
      let l : q * length columns ≤ 16 * length columns = mul-le-mul_right (length columns) (omega (arith, (sizes q w.over.curve).high)) in
      omega (arith, w.long)

  -- what the first stage leaves is to be joined
  pub joinable : (rows : List ℕ) → length rows ≡ 16 * length columns → InterpolatedInY q columns word rows → Joinable (field_of q) q columns rows
  joinable rows long first =
      let z = sizes q w.over.curve in
      record {
        columns_below = columns_below q columns w.over;
        work_below = first.symbols;
        few = omega (arith, w.few, z.symbols);
        narrow = z.high;
        long = long;
        zeros = first.zeros;
      }

  -- interpolation in y, then in x, leaves it in the front of work
  pub grid_of : (rows work : List ℕ) → InterpolatedInY q columns word rows → length work ≡ 16 * length columns
      → Interpolated (field_of q) 16 q columns rows work
      → GridOf q columns word (take (length word) work)
  grid_of rows work first long second =
      record {
        long = length-take-le (length word) work (omega (arith, word_fits)) ∙ w.long;
        symbols = below_take (field_of q).size work (length word) second.below;
        is = λ t s a b. value_cong (field_of q) q (at_column (field_of q) q columns (take (length word) work) t) (λ j. get_or rows (16 * t + j) 0)
            (get_or (ys_of q (get_or columns t 0)) s 0)
            (λ j k. value_cong (field_of q) (length columns) (interleaved q (take (length word) work) j) (interleaved q work j) (get_or columns t 0)
            (λ i l. ap (λ (n : ℕ). interleaved q (take n work) j i) w.long ∙ interleaved_take q work j (length columns) i k l)
            ∙ second.is j t k a) ∙ first.is t s a b;
      }

  -- lists that are the same at the places of the grid
  same_value : (a b : List ℕ) → ((i : ℕ) → i < q * length columns → get_or a i 0 ≡ get_or b i 0) → (t s : ℕ)
      → grid_value q columns a t s ≡ grid_value q columns b t s
  same_value a b same t s =
      value_cong (field_of q) q (at_column (field_of q) q columns a t) (at_column (field_of q) q columns b t) (column_y q columns t s)
      (λ j k. value_cong (field_of q) (length columns) (interleaved q a j) (interleaved q b j) (get_or columns t 0)
      (λ i l. same (q * i + j) (place_lt q i j (length columns) k l)))

  -- it is copied into zeros
  pub grid_copied : (work blank grid : List ℕ) → GridOf q columns word (take (length word) work) → length word ≤ length blank
      → ((i : ℕ) → get_or blank i 0 ≡ 0) → grid ≡ stored (length word) work blank → GridInFront q columns word grid
  unfolding stored
  grid_copied work blank grid g room zero is_grid =
      record {
        symbols = λ i. elim (dec_lt i (length word)) [
          | yes l ↦ rw (front i l) (g.symbols i)
          | no d ↦ rw (after i (omega arith)) (zero_lt (field_of q))
        ];
        is = λ t s a b. same_value grid (take (length word) work) (λ i l. front i (omega (arith, w.long))) t s ∙ g.is t s a b;
        zeros = λ i l. after i (omega (arith, w.long));
      }
    where
      front : (i : ℕ) → i < length word → get_or grid i 0 ≡ get_or (take (length word) work) i 0
      front i l =
          ap (λ (x : List ℕ). get_or x i 0) is_grid ∙ stored_in (length word) work blank i l room ∙ sym (get_or-take (length word) work i 0 l)

      after : (i : ℕ) → length word ≤ i → get_or grid i 0 ≡ 0
      after i l = ap (λ (x : List ℕ). get_or x i 0) is_grid ∙ writes_out blank _ (length word) i l ∙ zero i

  -- and read again, from the front or, where there is no more, as a whole
  pub front_grid : (grid : List ℕ) → GridInFront q columns word grid → length word ≤ length grid → GridOf q columns word (take (length word) grid)
  front_grid grid g room =
      record {
        long = length-take-le (length word) grid room ∙ w.long;
        symbols = below_take (field_of q).size grid (length word) g.symbols;
        is = λ t s a b. same_value (take (length word) grid) grid (λ i l. get_or-take (length word) grid i 0 (omega (arith, w.long))) t s ∙ g.is t s a b;
      }

  pub whole_grid : (grid : List ℕ) → GridInFront q columns word grid → length grid ≡ q * length columns → GridOf q columns word grid
  whole_grid grid g long = record { long = long; symbols = g.symbols; is = g.is }

  -- there is no other
  pub grid_only : (a b : List ℕ) → GridOf q columns word a → GridOf q columns word b → a ≡ b
  grid_only a b ha hb =
      interleaved_unique (field_of q) q columns (columns_below q columns w.over) w.over.distinct a b
      (below_vector (field_of q).size (q * length columns) a ha.long ha.symbols)
      (below_vector (field_of q).size (q * length columns) b hb.long hb.symbols)
      (λ j t k l. same t l j k)
    where
      same : (t : ℕ) → t < length columns → (j : ℕ) → j < q → at_column (field_of q) q columns a t j ≡ at_column (field_of q) q columns b t j
      same t l =
          let x = get_or columns t 0 in
          let long = length_ys q w.over.curve x (w.over.small t l) in
          value_unique (field_of q) (ys_of q x) q (at_column (field_of q) q columns a t) (at_column (field_of q) q columns b t)
          (ys_below q w.over.curve x (w.over.small t l)) (nodup_ys q x)
          (λ j k. value_lt (field_of q) (length columns) (interleaved q a j) x) (λ j k. value_lt (field_of q) (length columns) (interleaved q b j) x)
          (omega arith)
          (each_mem (λ (y : ℕ). value (field_of q) q (at_column (field_of q) q columns a t) y
          ≡ value (field_of q) q (at_column (field_of q) q columns b t) y) 0 (ys_of q x)
          (λ s k. ha.is t s l (omega arith) ∙ sym (hb.is t s l (omega arith))))

  module _ (m : ℕ) (order : m < q * length columns) where
    pos : 0 < q
    pos = omega (arith, (sizes q w.over.curve).low)

    -- a message's value at a point is that of its grid
    laid_out : (v : List ℕ) (t s : ℕ) → t < length columns → s < q
        → get_or (word_of q columns m v) (q * t + s) 0 ≡ grid_value q columns (scatter q (q * length columns) m v) t s
    laid_out v t s a b =
        word_at q m w.over.curve v columns w.over.small t s a b
        ∙ two_stages q pos (length columns) (q * length columns) m v (get_or columns t 0) (get_or (ys_of q (get_or columns t 0)) s 0) order (omega arith)

    -- the grid of a message that has the word
    pub message_grid : (v : List ℕ) → Vector (q * q) (size q m) v → Fits (word_of q columns m) word v
        → GridOf q columns word (scatter q (q * length columns) m v)
    message_grid v hv h =
        record {
          long = length_scatter q (q * length columns) v (suc m);
          symbols = symbols_scatter q (q * length columns) v below (suc m);
          is = λ t s a b. sym (laid_out v t s a b) ∙ h.at (q * t + s) (omega (arith, w.long, place_lt q t s (length columns) b a))
              (whole (q * t + s));
        }
      where
        below : Below (field_of q).size v
        below = rw (sizes q w.over.curve).size (vector_below (q * q) (size q m) v
            (omega (arith, (sizes q w.over.curve).size, zero_lt (field_of q))) hv)

        whole : (p : ℕ) → get_or word p 0 ≡ 255 → ⊥
        whole p e = omega (arith, w.symbols p, (sizes q w.over.curve).size, (sizes q w.over.curve).symbols)

    -- two messages that have the word are the same
    pub message_only : (u v : List ℕ) → Fitting (q * q) (size q m) (word_of q columns m) word u
        → Fitting (q * q) (size q m) (word_of q columns m) word v → u ≡ v
    message_only u v hu hv =
        sym (gather_scatter q pos (q * length columns) m u hu.vector.len order)
        ∙ ap (gather q m)
        (grid_only (scatter q (q * length columns) m u) (scatter q (q * length columns) m v) (message_grid u hu.vector hu.fits)
        (message_grid v hv.vector hv.fits))
        ∙ gather_scatter q pos (q * length columns) m v hv.vector.len order

    -- a grid without heavy terms is that of a message, which has the word
    module _ (grid : List ℕ) (g : GridOf q columns word grid) where
      pub grid_word : order_at_most q m (length grid) grid ≡ true → word_of q columns m (gather q m grid) ≡ word
      grid_word e =
          blocks_ext q pos (length columns) (grid_value q columns grid) (word_of q columns m (gather q m grid)) word
          (word_length q m w.over.curve (gather q m grid) columns w.over.small) w.long
          (record { at = λ t s a b. laid_out (gather q m grid) t s a b ∙ ap (λ (l : List ℕ). grid_value q columns l t s) back })
          (record { at = λ t s a b. sym (g.is t s a b) })
        where
          back : scatter q (q * length columns) m (gather q m grid) ≡ grid
          back = within_message q pos (q * length columns) m grid g.long (ap (λ (n : ℕ). order_at_most q m n grid) (sym g.long) ∙ e)

      pub has_word : order_at_most q m (length grid) grid ≡ true → Fitting (q * q) (size q m) (word_of q columns m) word (gather q m grid)
      has_word e =
          record {
            vector = rw (← (sizes q w.over.curve).size) (vector_gather q m (field_of q).size grid g.symbols);
            fits = record { at = λ p l n. ap (λ (x : List ℕ). get_or x p 0) (grid_word e) };
          }

      -- a message that has the word is that of the grid
      laid_same : (v : List ℕ) → Fitting (q * q) (size q m) (word_of q columns m) word v → scatter q (q * length columns) m v ≡ grid
      laid_same v h = grid_only (scatter q (q * length columns) m v) grid (message_grid v h.vector h.fits) g

      pub only_gathered : (v : List ℕ) → Fitting (q * q) (size q m) (word_of q columns m) word v → v ≡ gather q m grid
      only_gathered v h = sym (gather_scatter q pos (q * length columns) m v h.vector.len order) ∙ ap (gather q m) (laid_same v h)

      pub only_within : (v : List ℕ) → Fitting (q * q) (size q m) (word_of q columns m) word v → order_at_most q m (length grid) grid ≡ true
      only_within v h =
          ap (λ (n : ℕ). order_at_most q m n grid) g.long
          ∙ ap (order_at_most q m (q * length columns)) (sym (laid_same v h)) ∙ within_scatter q pos (q * length columns) m v

-- ---- what is read

module _ (Fit : List ℕ → Type 0) (slice : List ℕ) where
  pub the_one : (l : List (List ℕ)) → ListOf Fit l → (v : List ℕ) → Fit v → ((u : List ℕ) → Fit u → u ≡ v) → the_message l slice ≡ answered Done v
  the_one [] h v a only = absurd (not-nil (h.whole v a))
  the_one (u ∷ rest) h v a only = ap (answered Done) (only u (h.sound u (head refl)))

  pub the_none : (l : List (List ℕ)) → ListOf Fit l → ((u : List ℕ) → Fit u → ⊥) → the_message l slice ≡ answered (Err NoMessage) slice
  the_none l h none = ap (λ (l : List (List ℕ)). the_message l slice) (none_listed Fit l h none)

module _ (q : ℕ) (columns word : List ℕ) (w : WordOver q columns word) (m : ℕ) (order : m < q * length columns) (grid : List ℕ)
    (g : GridOf q columns word grid)
    (slice : List ℕ) where
  pub read_within : order_at_most q m (length grid) grid ≡ true → read_over q columns m word slice ≡ answered Done (gather q m grid)
  read_within e =
      the_one (Fitting (q * q) (size q m) (word_of q columns m) word) slice (fitting (q * q) (size q m) (word_of q columns m) word)
      (fitting_list (q * q) (size q m) (word_of q columns m) word) (gather q m grid)
      (has_word q columns word w m order grid g e) (only_gathered q columns word w m order grid g)

  pub read_beyond : order_at_most q m (length grid) grid ≡ false → read_over q columns m word slice ≡ answered (Err NoMessage) slice
  read_beyond e =
      the_none (Fitting (q * q) (size q m) (word_of q columns m) word) slice (fitting (q * q) (size q m) (word_of q columns m) word)
      (fitting_list (q * q) (size q m) (word_of q columns m) word)
      (λ v h. let z : ◌≡◌ {A = Bool} true false = sym (only_within q columns word w m order grid g v h) ∙ e in let o : ◌≡◌ {A = ℕ} 0 1 = cc in
      omega arith)

  -- what is read of the grid is what is read of the word
  pub read_answer : read_over q columns m word slice ≡ grid_answer q m grid slice
  read_answer = go (order_at_most q m (length grid) grid) refl
    where
      go : (b : Bool) → order_at_most q m (length grid) grid ≡ b → read_over q columns m word slice ≡ grid_answer q m grid slice
      go true e = read_within e ∙ sym (ap (λ (x : Bool). cond x (answered Done (gather q m grid)) (answered (Err NoMessage) slice)) e)
      go false e = read_beyond e ∙ sym (ap (λ (x : Bool). cond x (answered Done (gather q m grid)) (answered (Err NoMessage) slice)) e)
