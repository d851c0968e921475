-- The areas of a look as they are lent. Assumes nothing.
use Rattle.std.specs.Prelude.{◌≡◌}
use Rattle.candidates.specs.Areas.{Areas, areas}
use Rattle.candidates.specs.declared.WorkAreas.{WorkAreas}

-- what they hold
abbrev pub areas_of : WorkAreas → Areas
areas_of w =
    areas w.luma.now w.integral.now w.mask.now w.seen.now w.waiting.now w.patches.now w.candidates.now w.blob_index.now

-- a call leaves the same areas in their places, so that what they hold afterwards is what its caller's areas hold
pub record SameAreas (a b : WorkAreas) : Type 0 where
  pub luma : a.luma.ghost_name ≡ b.luma.ghost_name
  pub integral : a.integral.ghost_name ≡ b.integral.ghost_name
  pub mask : a.mask.ghost_name ≡ b.mask.ghost_name
  pub seen : a.seen.ghost_name ≡ b.seen.ghost_name
  pub waiting : a.waiting.ghost_name ≡ b.waiting.ghost_name
  pub patches : a.patches.ghost_name ≡ b.patches.ghost_name
  pub candidates : a.candidates.ghost_name ≡ b.candidates.ghost_name
  pub blob_index : a.blob_index.ghost_name ≡ b.blob_index.ghost_name
