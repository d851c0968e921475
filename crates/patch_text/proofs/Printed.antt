-- The printed example (requirements, 15.2; M7), and M8, as texts: the definitions give exactly these bytes. Assumes nothing.
use mathlib.Core.Path.{◌≡◌, refl}
use mathlib.Core.List.{[], ◌∷◌}
use Rattle.base.specs.Loops.{table, by_row}
use Rattle.blobs.specs.Patches.{patch_at}
use Rattle.blobs.proofs.Masks.{mask7, list7, mask8, list8}
use Rattle.patch_text.specs.Text.{letter, byte_at, mask_text, spelled, decimal, field, record_line, record_lines, patch_text}

-- `#.#`, `.#.`, `##.`
pub reads7 : mask_text 3 3 mask7 ≡ 35 ∷ 46 ∷ 35 ∷ 10 ∷ 46 ∷ 35 ∷ 46 ∷ 10 ∷ 35 ∷ 35 ∷ 46 ∷ 10 ∷ []
unfolding mask_text table by_row byte_at letter
reads7 = refl

-- `3 3 3`, `1 0 0 0 0 0 0 4`, `1 2 0 2 0 2 0 4`, `3 2 5 0 1 1 2 8`
pub prints7 : patch_text 3 3 (table (patch_at list7) 3)
    ≡ 51 ∷ 32 ∷ 51 ∷ 32 ∷ 51 ∷ 10
    ∷ 49 ∷ 32 ∷ 48 ∷ 32 ∷ 48 ∷ 32 ∷ 48 ∷ 32 ∷ 48 ∷ 32 ∷ 48 ∷ 32 ∷ 48 ∷ 32 ∷ 52 ∷ 10
    ∷ 49 ∷ 32 ∷ 50 ∷ 32 ∷ 48 ∷ 32 ∷ 50 ∷ 32 ∷ 48 ∷ 32 ∷ 50 ∷ 32 ∷ 48 ∷ 32 ∷ 52 ∷ 10
    ∷ 51 ∷ 32 ∷ 50 ∷ 32 ∷ 53 ∷ 32 ∷ 48 ∷ 32 ∷ 49 ∷ 32 ∷ 49 ∷ 32 ∷ 50 ∷ 32 ∷ 56 ∷ 10 ∷ []
unfolding patch_text field decimal spelled record_lines record_line table patch_at
prints7 = refl

pub reads8 : mask_text 3 3 mask8 ≡ 35 ∷ 46 ∷ 35 ∷ 10 ∷ 35 ∷ 46 ∷ 35 ∷ 10 ∷ 35 ∷ 35 ∷ 35 ∷ 10 ∷ []
unfolding mask_text table by_row byte_at letter
reads8 = refl

-- `3 3 1`, `7 7 8 0 0 2 2 16`
pub prints8 : patch_text 3 3 (table (patch_at list8) 1)
    ≡ 51 ∷ 32 ∷ 51 ∷ 32 ∷ 49 ∷ 10
    ∷ 55 ∷ 32 ∷ 55 ∷ 32 ∷ 56 ∷ 32 ∷ 48 ∷ 32 ∷ 48 ∷ 32 ∷ 50 ∷ 32 ∷ 50 ∷ 32 ∷ 49 ∷ 54 ∷ 10 ∷ []
unfolding patch_text field decimal spelled record_lines record_line table patch_at
prints8 = refl
