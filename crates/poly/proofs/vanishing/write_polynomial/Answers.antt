-- `vanishing::write_polynomial` meets its contract. The loop's invariant: out vanishes at the columns from t on. Assumes nothing.
use mathlib.Core.List.{List}
use mathlib.Core.Path.{◌≡◌, sym, ◌∙◌, subst}
use Prim.Native.Nat.{ℕ}
use native.Mathlib.Omega.{arith}
use lib.ListN.{length, set, drop, length-set}
use Rattle.field.proofs.Fields.{field_of}
use Rattle.poly.specs.Inner.Polynomials.{Vanishing}
use Rattle.poly.proofs.Vanishings.{vanishing_none, vanishing_more, vanishing_below}
use Rattle.poly.proofs.vanishing.write_polynomial.Goals as goal
use Rattle.poly.proofs.vanishing.write_polynomial.Goals.{In-loop-t}

-- in the loop, out is as long as it was
long : (c : goal.In-loop-t) → length c.loop-t.out ≡ length c.args.out.now
long c = c.loop-t.auto.out ∙ length-set {A = ℕ} c.fill.new.self 0 1 ∙ c.fill.auto.self

pub loop-t-init : goal.loop-t-init
loop-t-init c =
    let columns = c.args.columns.now in
    subst (λ (l : List ℕ). Vanishing (field_of c.args.q) (drop (length columns) columns) (set l 0 1)) (sym (c.fill.ensures.after (λ y h. h)))
    (vanishing_none (field_of c.args.q) columns (length c.args.out.now) (omega (arith, c.requires.1)))

pub times_linear-requires : goal.times_linear-requires
times_linear-requires c = (
  omega (arith, long (goal.at.times_linear-requires c).In-loop-t, c.requires.1),
  c.requires.0 _,
  vanishing_below (field_of c.args.q) _ _ c.loop-t.invariant,
  c.requires.3,
)

pub loop-t-preserved : goal.loop-t-preserved
loop-t-preserved c =
    let l = c.loop-t in
    subst (Vanishing (field_of c.args.q) _) (sym c.times_linear.ensures)
    (vanishing_more (field_of c.args.q) c.args.columns.now l.out l.t c.loop-t-test.true l.auto.t
    (omega (arith, long (goal.at.loop-t-preserved c).In-loop-t, c.requires.1)) l.invariant)
