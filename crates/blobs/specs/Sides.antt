-- What a patch's outline counts, by the meaning of touching (requirements, 24). proofs/Sides shows what is stated.
-- Assumes nothing.
use Rattle.std.specs.Prelude.{ℕ, ◌+◌, ◌<◌, ◌≡◌, List, length}
use Rattle.blobs.specs.Patches.{Dark, Touch, Joined, total, Marks, one, sides}

-- [24.2] a pixel has four sides, and those that do not count face a dark pixel: c counts the dark pixels that share an
-- edge with p
abbrev pub SidesByTouch : Type 0
SidesByTouch =
    (m : List ℕ) (w p : ℕ) (c : ℕ → ℕ) → 0 < w → Marks c (λ q. Touch w p q × Dark m q)
    → sides m w p + total one c (length m) ≡ 4

-- [24.2] .. and for a pixel p of the patch of a these are pixels of that patch, so that a side counts exactly where no
-- pixel of the patch is on its other side: c counts those that share an edge with p
abbrev pub SidesOfPatch : Type 0
SidesOfPatch =
    (m : List ℕ) (w a p : ℕ) (c : ℕ → ℕ) → 0 < w → Joined m w a p → Marks c (λ q. Touch w p q × Joined m w a q)
    → sides m w p + total one c (length m) ≡ 4
