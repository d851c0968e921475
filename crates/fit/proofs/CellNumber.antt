-- The number of a sampled cell. Assumes nothing.
use Prim.Native.Nat.{ℕ, ◌+◌, ◌*◌}
use Rattle.frame.specs.Frame.{cols}
use Rattle.frame.specs.declared.FrameSpec.{FrameSpec}

-- of the x-th of the y-th sampled row
abbrev pub number_of : FrameSpec → ℕ → ℕ → ℕ
number_of f x y = 3 * y * cols f + 3 * x
