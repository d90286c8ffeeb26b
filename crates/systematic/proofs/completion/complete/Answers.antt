-- `systematic::completion::complete` meets its contract: either way has the same.
-- Assumes nothing.
use native.Mathlib.Omega.{arith}
use Rattle.systematic.proofs.Completions.{size_short}
use Rattle.systematic.proofs.completion.complete.Goals as goal

-- src/completion.rt:100:8
pub overflow_mul-k : goal.overflow_mul-k
overflow_mul-k c = omega (arith, c.size-k.ensures, size_short _ _ _ _ c.requires.0 c.requires.1)
