-- `show` is safe: a call brings in no more symbols than a byte holds.
use Rattle.std.proofs.Common.{◌*◌, ◌≤◌, ◌≡◌, length}
use Rattle.progress.proofs.show.Given as goal

abbrev pub invariant-loop : goal.invariant-loop
invariant-loop g l = (length l.message ≡ 32) × (l.symbols ≤ 255 * l.counter)
