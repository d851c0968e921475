-- Each byte before stands where it may. Assumes nothing.
use mathlib.Core.Path.{◌≡◌}
use mathlib.Core.Bool.{true}
use Rattle.base.specs.Loops.{every}
use Rattle.patch_text.specs.Steps.{placed_at}
use Rattle.patch_text.proofs.read.lettered.Given as goal

abbrev pub invariant-loop-k : goal.invariant-loop-k
invariant-loop-k l = every l.k (placed_at l.text l.w) ≡ true
