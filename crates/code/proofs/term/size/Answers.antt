-- `code::term::size` meets its contract: from 2g - 1 on by the genus, and before by the rows.
-- Assumes nothing.
use mathlib.Core.Path.{◌≡◌, sym, ap, ◌∙◌}
use Prim.Native.Nat.{◌+◌, ◌-◌, ◌*◌, ◌≤◌, ◌<◌}
use native.Mathlib.Nat.{mul-le-mul, mod-lt, mul-le-mul_left}
use native.Mathlib.Omega.{arith}
use Rattle.field.specs.declared.curve.Curve.{Curve}
use Rattle.field.proofs.Curves.{sizes}
use Rattle.code.proofs.Weights.{curve_pos, twice_genus, size_from_genus, low_row, low_size}
use Rattle.code.proofs.term.size.Goals as goal
use Rattle.code.proofs.term.size.Goals.{After-at-curve, After-divide-d}

-- 2g is q (q - 1)
genus : (c : goal.After-at-curve) → let q = c.args.q in
    (2 * c.at-curve.result.genus ≡ q * (q - 1)) × (1 < q * (q - 1)) × (q * (q - 1) ≤ 64)
genus c =
    let q = c.args.q in
    let z = sizes q c.requires in
    let less : q - 1 ≤ q = omega arith in
    let more : 1 ≤ q - 1 = omega (arith, z.low) in (
      ap (λ (v : Curve). 2 * v.genus) c.at-curve.ensures ∙ twice_genus q (curve_pos q c.requires),
      omega (arith, mul-le-mul_left q more, z.low),
      omega (arith, mul-le-mul_left q less, z.symbols),
    )

-- the row of m, for an m before 2g - 1
row : (c : goal.After-divide-d) → let q = c.args.q in let a = c.divide-d.result.whole in
    (a < q) × (a * (a + 1) ≤ 72) × (c.divide-d.result.rest < q)
row c =
    let q = c.args.q in
    let d = c.divide-d.ensures in
    let z = sizes q c.requires in
    let g = genus (goal.at.After-divide-d c).After-at-curve in
    let l : c.divide-d.result.whole < q =
    omega (arith, d.0, low_row q (curve_pos q c.requires) c.args.m (omega (arith, c.if-curve-m.false, g.0, g.1))) in
    let few : c.divide-d.result.whole ≤ 8 = omega (arith, l, z.high) in
    let more : c.divide-d.result.whole + 1 ≤ 9 = omega arith in
    (l, omega (arith, mul-le-mul few more), omega (arith, d.1, mod-lt c.args.m (curve_pos q c.requires)))

pub returns-then-curve-m : goal.returns-then-curve-m
returns-then-curve-m c =
    let q = c.args.q in
    let g = genus (goal.at.returns-then-curve-m c).After-at-curve in
    let t = c.if-curve-m.true in
    let e = size_from_genus q (curve_pos q c.requires) c.args.m (omega (arith, t, g.0, g.1)) in
    omega (arith, e, t, g.0, g.1, ap (λ (v : Curve). v.genus) c.at-curve.ensures)

pub returns-then-d : goal.returns-then-d
returns-then-d c =
    let q = c.args.q in
    let d = c.divide-d.ensures in
    sym ((low_size q (curve_pos q c.requires) c.args.m _ _ d.0 d.1 (row (goal.at.returns-then-d c).After-divide-d).0).0
    (omega (arith, c.if-d.true)))

pub returns-else-d : goal.returns-else-d
returns-else-d c =
    let q = c.args.q in
    let d = c.divide-d.ensures in
    sym ((low_size q (curve_pos q c.requires) c.args.m _ _ d.0 d.1 (row (goal.at.returns-else-d c).After-divide-d).0).1
    c.if-d.false)
