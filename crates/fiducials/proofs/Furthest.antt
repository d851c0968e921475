-- `pick` names the candidate that lies furthest out, and the first of equals. Assumes nothing.
use Prim.Native.Nat.{ℕ, zero, suc, ◌≤◌, ◌<◌}
use native.Mathlib.Omega.{arith}
use Rattle.frame.specs.declared.Point.{Point}
use Rattle.base.specs.Loops.{turns}
use Rattle.fiducials.specs.declared.pick.Corner.{Corner}
use Rattle.fiducials.specs.Corners.{pick_step, pick}
use Rattle.fiducials.proofs.Picks.{Number, Best}
use Rattle.fiducials.proofs.OneMore.{one_more}

module _ (c : Corner) (p : ℕ → Point) (N : ℕ) (number : (i : ℕ) → i < N → Number c (p i)) where
  picked : (n : ℕ) → n ≤ N → Best c p n (turns n (pick_step c p) 0)
  unfolding turns
  picked zero l = record { none_further = λ i h. absurd (omega arith); first = λ i h. absurd (omega arith) }
  picked (suc n) l = one_more c p N number n (turns n (pick_step c p) 0) (omega arith) (picked n (omega arith))

  -- no other lies further out, and each earlier one lies less far out
  pub pick_best : Best c p N (pick c p N)
  unfolding pick
  pick_best = picked N (omega arith)
