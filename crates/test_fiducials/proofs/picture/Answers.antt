-- The part of the capture that is lent has the length that the picture needs.
use Rattle.std.proofs.Common.{ℕ, ◌≡◌, ◌≤◌, length, take, sym, subst, ◌∙◌}
use lib.ListN.{replicate, length-replicate}
use lib.Seq.{length-take-le}
use Rattle.test_fiducials.proofs.picture.Goals as goal

taken : (m n v : ℕ) → n ≤ m → length (take n (replicate m v)) ≡ n
taken m n v h = length-take-le n (replicate m v) (subst (λ z. n ≤ z) (sym (length-replicate m v)) h)

pub find-requires : goal.find-requires
find-requires c = (c.requires.0, c.requires.1, taken 195075 c.size-n.result 255 c.size-n.ensures.1 ∙ c.size-n.ensures.0)
