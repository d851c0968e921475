-- What is lent for labelling a mask. Assumes nothing.
use Rattle.std.specs.Prelude.{ℕ, List}

pub record PatchAreas : Type 0 where
  -- the visited marks
  pub seen : List ℕ
  pub waiting : List ℕ
  -- record_length numbers a record
  pub patches : List ℕ

-- the areas in the order in which a call is handed them
abbrev pub patch_areas : List ℕ → List ℕ → List ℕ → PatchAreas
patch_areas seen waiting patches = record { seen = seen; waiting = waiting; patches = patches }
