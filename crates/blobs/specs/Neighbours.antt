-- The neighbours of a pixel as the code hands them on: those that `sides`, `visit_left` and the others name, each where
-- the mask has it. Assumes nothing.
use Rattle.std.specs.Prelude.{ℕ, ◌+◌, ◌-◌, ◌%◌, Option, Some, None, cond, List, leb, ltb}
use Rattle.blobs.specs.declared.neighbours.Neighbours.{Neighbours}
use Rattle.blobs.specs.Patches.{light}
use Rattle.blobs.specs.Stack.{Marking, visit}

-- left of the pixel p, right of it, over it and under it, in a mask of n pixels, w to a row
unfoldable pub around : ℕ → ℕ → ℕ → Neighbours
around n w p =
    record {
      left = cond (ltb 0 (p % w)) (Some (p - 1)) None;
      right = cond (ltb (p % w + 1) w) (Some (p + 1)) None;
      up = cond (leb w p) (Some (p - w)) None;
      down = cond (ltb (p + w) n) (Some (p + w)) None;
    }

-- a visit to a pixel that may not be there
unfoldable pub visit_to : List ℕ → Option ℕ → Marking → Marking
visit_to m None a = a
visit_to m (Some q) a = visit m q a

-- what a side counts, towards a pixel that may not be there
unfoldable pub side_to : List ℕ → Option ℕ → ℕ
side_to m None = 1
side_to m (Some q) = light m q
