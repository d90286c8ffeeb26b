-- `linear::vectors::times_z` meets its contract: block by block.
-- Assumes nothing.
use mathlib.Core.List.{List}
use mathlib.Core.Path.{◌≡◌, ap, ◌∙◌, subst}
use Prim.Native.Nat.{ℕ, ◌+◌, ◌*◌, ◌≤◌}
use native.Mathlib.Omega.{arith}
use lib.ListN.{length, get_or}
use Rattle.field.proofs.Fields.{field_of}
use Rattle.poly.specs.Inner.Linear.{entry}
use Rattle.poly.proofs.Fillings.{Filled, filled_turn, filled_writes}
use Rattle.poly.proofs.LaneLaws.{length_lanes, lanes_at, lanes_below}
use Rattle.linear.proofs.vectors.times_z.Goals as goal
use Rattle.linear.proofs.vectors.times_z.Goals.{In-loop-i}

-- a block is within both lists
fits : (c : goal.In-loop-i) → (16 * c.loop-i.i + 16 ≤ length c.loop-i.dst) × (16 * c.loop-i.i + 16 ≤ length c.args.src.now)
fits c =
    let e : 16 * c.loop-i.i + 16 ≤ length c.args.src.now = omega (arith, c.loop-i-test.true) in
    (omega (arith, c.loop-i.auto.dst, c.requires.1), e)

pub times_z-b-requires : goal.times_z-b-requires
times_z-b-requires c =
    rw c.take-a.ensures (lanes_below _ (field_of c.args.q).size (λ t k. c.requires.2 (16 * c.loop-i.i + t)))

pub loop-i-preserved : goal.loop-i-preserved
loop-i-preserved c =
    let a = c.args in
    let l = c.loop-i in
    let r = c.times_z-b in
    let u = c.take-a in
    let next : 16 * (l.i + 1) ≡ 16 * l.i + 16 = omega arith in
    rw next
    (filled_turn 0 _ a.dst.now l.dst (16 * l.i) (16 * l.i) l.invariant (omega arith) (fits (goal.at.loop-i-preserved c).In-loop-i).0 _ _
    (omega (arith, ap length r.ensures ∙ length_lanes _)) c.copy.ensures
    (λ t k. ap (λ (x : List ℕ). get_or x t 0) r.ensures ∙ lanes_at _ t k
    ∙ ap ((field_of a.q).times 2) (ap (λ (x : List ℕ). get_or x t 0) u.ensures ∙ lanes_at _ t k)))

pub returns : goal.returns
returns c =
    let a = c.args in
    let l = c.loop-i in
    let n = length a.src.now in
    let e : 16 * l.i ≡ n = omega (arith, l.auto.i-end, c.loop-i-test.false, c.requires.0) in
    filled_writes n _ a.dst.now l.dst (omega (arith, c.requires.1))
    (subst (λ (x : ℕ). Filled 0 (λ e. (field_of a.q).times 2 (entry a.src.now e)) a.dst.now l.dst x) e l.invariant)
