-- What the functions that bring symbols in ask and give.
use Rattle.std.specs.Prelude.{Bool, true, false, not, ◌&&◌, ◌||◌, Option, Some, None, is_none, Err, cond, List, ◌++◌, ◌⊎◌, ◌≡◌, ℕ, ◌+◌, ◌-◌, ◌*◌, ◌≤◌, ◌<◌, eqb, ltb, length, get_or, take, replicate}
use Rattle.std.specs.Option.{option_eq}
use Rattle.field.specs.Outcomes.{Outcome, Done}
use Rattle.field.specs.declared.outcome.Refusal.TheVariants.{NoMessage, Several}
use Rattle.field.proofs.Fields.{field_of}
use Rattle.poly.specs.Messages.{Vector}
use Rattle.poly.specs.Inner.Linear.{entry}
use Rattle.linear.specs.Inner.Systems.{flat, rank, WellFormed}
use Rattle.code.specs.Terms.{size}
use Rattle.equations.specs.Inner.Collecting.{FitsBelow, Collected}
use Rattle.job.specs.declared.bringing.Progress.{Progress}
use Rattle.job.specs.declared.Job.{Job}
use Rattle.job.specs.declared.Reply.{Reply}
use Rattle.job.specs.declared.Reply.TheVariants.{NoneFits, Leaves, Finished}
use Rattle.job.specs.Symbols.{arrived_in}
use Rattle.job.specs.Opened.{open_checks}
use Rattle.job.specs.Sound.{Standing}

-- from p₀, with b₀ symbols brought in, to p, with b of them, at most the budget
pub record Counted (word : List ℕ) (budget p₀ b₀ p b : ℕ) : Type 0 where
  pub onward : p₀ ≤ p
  pub within : p ≤ length word
  pub few : b ≤ budget
  pub counted : arrived_in (take p₀ word) + b ≡ arrived_in (take p word) + b₀

-- all places are behind, or the budget is used up and a symbol follows
abbrev pub Stopped : List ℕ → ℕ → ℕ → ℕ → Type 0
Stopped word budget p b = (p ≡ length word) ⊎ ((p < length word) × (get_or word p 0 ≡ 255 → ⊥) × (b ≡ budget))

-- work is a system with r rows
pub record Ready (q m : ℕ) (work : List ℕ) (r : ℕ) : Type 0 where
  pub formed : WellFormed (field_of q) 64 (size q m) work
  pub ranked : r ≡ rank (size q m) (flat 64 (size q m) work)

-- from work₀, which may hold the equations of the symbols below p₀, to work, which then holds those below p
pub record Collecting (q : ℕ) (columns : List ℕ) (m : ℕ) (word work₀ : List ℕ) (p₀ r₀ : ℕ) (work : List ℕ) (p r : ℕ) : Type 0 where
  pub ready : Ready q m work r
  pub collected : Collected q columns m word work₀ p₀ r₀ → Collected q columns m word work p r

-- how it ends: with a clash; or with complete rows, or where the count stops
abbrev pub Collects : ℕ → List ℕ → ℕ → List ℕ → ℕ → List ℕ → ℕ → ℕ → List ℕ → ℕ → Option ℕ → ℕ → Type 0
Collects q columns m word budget work₀ p₀ r₀ work p None b =
    Collected q columns m word work₀ p₀ r₀ → (v : ℕ → ℕ) → FitsBelow q columns m word p v → ⊥
Collects q columns m word budget work₀ p₀ r₀ work p (Some r) b =
    Collecting q columns m word work₀ p₀ r₀ work p r × ((r ≡ size q m) ⊎ Stopped word budget p b)

-- the symbols from p₀ to p are those of whole, and the rows stay, unless there is a clash, and then there was one, or one of them differs
abbrev pub Compared : List ℕ → List ℕ → ℕ → Option ℕ → ℕ → Option ℕ → Type 0
Compared word whole p₀ r₀ p None =
    (r₀ ≡ None) ⊎ ((i : ℕ) × (p₀ ≤ i) × (i < p) × (get_or word i 0 ≡ 255 → ⊥) × (get_or whole i 0 ≡ get_or word i 0 → ⊥))
Compared word whole p₀ r₀ p (Some r) =
    (r₀ ≡ Some r) × ((i : ℕ) → p₀ ≤ i → i < p → (get_or word i 0 ≡ 255 → ⊥) → get_or whole i 0 ≡ get_or word i 0)

-- what a job of any bytes is tested for: after a clash nothing is read of it
abbrev pub Usable : ℕ → ℕ → List ℕ → List ℕ → Bool → Bool → Type 0
Usable q m work candidate complete true = Unit {0}
Usable q m work candidate true false = Vector (field_of q).size (size q m) candidate
Usable q m work candidate false false = WellFormed (field_of q) 64 (size q m) work

-- what is asked of a job of any bytes before it is carried on
pub record Tested (q series m : ℕ) (places : List ℕ) (next : ℕ) (work candidate : List ℕ) (complete clash : Bool) : Type 0 where
  pub passes : open_checks q series m (take (q * q * q) places) ≡ Done
  pub within : next ≤ q * q * q
  pub usable : Usable q m work (take (size q m) candidate) complete clash

-- a job of q, the series, m and the word of which nothing has been brought in
pub record Fresh (q series m : ℕ) (word : List ℕ) (j : Job) : Type 0 where
  pub curve : j.q ≡ q
  pub listed : j.series ≡ series
  pub order : j.m ≡ m
  pub places : j.places ≡ word ++ replicate (64 - length word) 255
  pub area : length j.work ≡ 4096
  pub zeros : (i : ℕ) → entry j.work i ≡ 0
  pub next : j.next ≡ 0
  pub complete : j.complete ≡ false
  pub clash : j.clash ≡ false

-- whether the rows that `bring` leaves, none after a clash, are complete
abbrev pub is_complete : ℕ → Option ℕ → Bool
is_complete k rows = option_eq eqb rows (Some k)

-- and whether they count as complete after the call: after the clash that it finds, if they were, or if the system has all k rows
abbrev pub complete_after : ℕ → Bool → Bool → ℕ → Option ℕ → Bool
complete_after k complete clash rank None = not clash && (complete || eqb rank k)
complete_after k complete clash rank (Some rows) = eqb rows k

-- the reply by them, while symbols remain and at the end
abbrev pub working_by : ℕ → Option ℕ → Reply
working_by k None = NoneFits
working_by k (Some r) = Leaves (k - r)

abbrev pub finished_by : ℕ → Option ℕ → Outcome
finished_by k None = Err NoMessage
finished_by k (Some r) = cond (ltb r k) (Err (Several (k - r))) Done

-- by what `bring` leaves, k and n: the reply
unfoldable pub reply_by : ℕ → ℕ → Progress → Reply
reply_by k n r = cond (ltb r.next n) (working_by k r.rank) (Finished (finished_by k r.rank))

pub record Brings (q series m : ℕ) (word : List ℕ) (budget : ℕ) (work₀ candidate₀ whole₀ : List ℕ) (p₀ : ℕ) (complete₀ clash₀ : Bool)
    (work candidate whole : List ℕ) (r : Progress) : Type 0 where
  pub counts : Counted word budget p₀ 0 r.next r.brought
  pub stops : Stopped word budget r.next r.brought
  -- without a clash: at most k rows, and with k of them a message
  pub rows : (n : ℕ) → r.rank ≡ Some n → n ≤ size q m
  pub message : r.rank ≡ Some (size q m) → Vector (field_of q).size (size q m) candidate
  pub fewer : (n : ℕ) → r.rank ≡ Some n → n < size q m → n ≡ rank (size q m) (flat 64 (size q m) work)
  pub stands : Standing q series m word work₀ candidate₀ whole₀ p₀ complete₀ clash₀
      → Standing q series m word work candidate whole r.next (is_complete (size q m) r.rank) (is_none r.rank)
