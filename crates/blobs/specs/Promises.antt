-- What `label_blobs` does. Assumes nothing.
use Rattle.std.specs.Prelude.{ℕ, ◌+◌, ◌*◌, ◌/◌, ◌≤◌, ◌≡◌, not, ◌||◌, List, [], ◌∷◌, Result, Ok, Err, ltb, eqb, length}
use Rattle.frame.specs.Refusals.{Check, check, lowest_of, sides_wrong}
use Rattle.frame.specs.declared.refusals.Refusal.{Refusal}
use Rattle.frame.specs.declared.refusals.Refusal.TheVariants.{CaptureWrong, AreaShort}
use Rattle.blobs.specs.Patches.{record_length}
use Rattle.blobs.specs.Areas.{PatchAreas}
use Rattle.blobs.specs.Labels.{Labels}
use Rattle.blobs.specs.declared.Labelled.{Labelled}

-- the tests of the public patch list, of a mask w by h, by lengths. [2.2, 7.2] 2: a side is outside its limit, or the
-- mask's length is wrong; [2.3, 3.1] 3: fewer than w·h marks or waiting entries, or than ⌈w·h/2⌉ patch records
unfoldable pub patch_tests : ℕ → ℕ → ℕ → ℕ → ℕ → ℕ → List Check
patch_tests w h mask seen waiting patches =
    check CaptureWrong (sides_wrong w h || not (eqb mask (w * h)))
    ∷ check AreaShort (ltb seen (w * h) || (ltb waiting (w * h) || ltb patches (record_length * ((w * h + 1) / 2))))
    ∷ []

-- .. of a mask m and the areas that are lent
abbrev pub label_tests : List ℕ → ℕ → ℕ → PatchAreas → List Check
label_tests m w h a = patch_tests w h (length m) (length a.seen) (length a.waiting) (length a.patches)

-- what an answer tells: no patch, and no pixel that waited, where it is refused
abbrev pub labelled : Result Labelled Refusal → Labelled
labelled (Ok l) = l
labelled (Err r) = record { patches = 0; waited = 0 }

-- ---- the public patch list of a mask m, w by h: the areas at entry and at exit, the answer's number, n records, and
-- the most pixels that waited
pub record Labelling (m : List ℕ) (w h : ℕ) (before after : PatchAreas) (number n waited : ℕ) : Type 0 where
  pub given : number ≡ lowest_of (label_tests m w h before)
  pub accepted : lowest_of (label_tests m w h before) ≡ 0 → Labels m w h before after n waited
  -- [2.17] refused: no memory is touched
  pub untouched : 1 ≤ lowest_of (label_tests m w h before) → (after ≡ before) × (n ≡ 0) × (waited ≡ 0)
