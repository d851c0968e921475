-- [14.5] the marked examples M1 to M12 are one theorem over the meanings; [15.1] each field has the example that it
-- stands for, over the definitions that the public functions' contracts cite.
-- proofs/Marked has the proof. Assumes nothing.
use Rattle.std.specs.Prelude.{◌≡◌, true, false, List, [], ◌∷◌, ℕ, eqb, Float, Result, Ok, Err}
use Rattle.std.specs.Float.Ieee.{neg, lt}
use Rattle.base.specs.Loops.{table}
use Rattle.float.specs.Floats.{◌⊖◌, ◌⊘◌, f64, d64, round_of}
use Rattle.frame.specs.Refusals.{answer_for}
use Rattle.frame.specs.declared.FrameSpec.{FrameSpec}
use Rattle.frame.specs.declared.Point.{Point}
use Rattle.frame.specs.declared.Quad.{Quad}
use Rattle.frame.specs.declared.refusals.Refusal.{Refusal}
use Rattle.frame.specs.declared.refusals.Refusal.TheVariants.{NoLayout}
use Rattle.markers.specs.Promises.{cell_tests, layout_tests}
use Rattle.markers.specs.Layout.{marker_size, quiet_zone, margin_for, marker_centers}
use Rattle.blobs.specs.Areas.{PatchAreas}
use Rattle.blobs.specs.Labels.{Labels}
use Rattle.blobs.specs.Patches.{patch_at, PatchList}
use Rattle.blobs.specs.declared.Blob.{Blob}
use Rattle.candidates.specs.Ring.{share_of, enough}
use Rattle.candidates.specs.declared.Tally.{Tally}
use Rattle.radial.specs.Lens.{radial, new_lens}

abbrev pub frame : ℕ → ℕ → ℕ → ℕ → FrameSpec
frame width height cell margin = record { width = width; height = height; cell = cell; margin = margin }

abbrev pub at : ℕ → ℕ → Point
at x y = record { x = f64 x; y = f64 y }

-- what `marker_centers` answers
abbrev pub centers : FrameSpec → Result Quad Refusal
centers f = answer_for (layout_tests f) (marker_centers f)

-- `#.#`, `.#.`, `##.`
abbrev pub mask7 : List ℕ
mask7 = 1 ∷ 0 ∷ 1 ∷ 0 ∷ 1 ∷ 0 ∷ 1 ∷ 1 ∷ 0 ∷ []

-- .. and its records as `patches` prints them
abbrev pub list7 : List ℕ
list7 =
    1 ∷ 0 ∷ 0 ∷ 0 ∷ 0 ∷ 0 ∷ 0 ∷ 4 ∷ 1 ∷ 2 ∷ 0 ∷ 2 ∷ 0 ∷ 2 ∷ 0 ∷ 4 ∷ 3 ∷ 2 ∷ 5 ∷ 0 ∷ 1 ∷ 1 ∷ 2 ∷ 8 ∷ []

-- `#.#`, `#.#`, `###`
abbrev pub mask8 : List ℕ
mask8 = 1 ∷ 0 ∷ 1 ∷ 1 ∷ 0 ∷ 1 ∷ 1 ∷ 1 ∷ 1 ∷ []

abbrev pub list8 : List ℕ
list8 = 7 ∷ 7 ∷ 8 ∷ 0 ∷ 0 ∷ 2 ∷ 2 ∷ 16 ∷ []

-- what `label_blobs` leaves of a mask m, three by three: just these records, whatever the areas held
abbrev pub Labelled : List ℕ → List Blob → Type 0
Labelled m blobs =
    (a b : PatchAreas) (n waited : ℕ) → Labels m 3 3 a b n waited → table (patch_at b.patches) n ≡ blobs

abbrev pub blob : ℕ → ℕ → ℕ → ℕ → ℕ → ℕ → ℕ → ℕ → Blob
blob area sx sy x0 y0 x1 y1 outline =
    record { area = area; sx = sx; sy = sy; x0 = x0; y0 = y0; x1 = x1; y1 = y1; outline = outline }

-- of the probes made, so many agreed
abbrev pub Agreed : ℕ → ℕ → Tally → Type 0
Agreed hits made s = (s.hits ≡ hits) × (s.made ≡ made)

-- there are dark and light probes, with means not below 30 apart
abbrev pub Apart : Tally → Type 0
Apart s =
    (eqb s.darks 0 ≡ false)
    × (eqb s.lights 0 ≡ false)
    × (lt (s.light_sum ⊘ f64 s.lights ⊖ s.dark_sum ⊘ f64 s.darks) (f64 30) ≡ false)

pub record Marked : Type 0 where
  -- M1 cell 9: 72, 12, 96 (`marker_size`, `quiet_zone`, `margin_for`)
  pub m1 :
      (answer_for (cell_tests 9) (marker_size 9) ≡ Ok 72)
      × (answer_for (cell_tests 9) (quiet_zone 9) ≡ Ok 12)
      × (answer_for (cell_tests 9) (margin_for 9) ≡ Ok 96)
  -- M2 cell 10: 80, 13, 106
  pub m2 :
      (answer_for (cell_tests 10) (marker_size 10) ≡ Ok 80)
      × (answer_for (cell_tests 10) (quiet_zone 10) ≡ Ok 13)
      × (answer_for (cell_tests 10) (margin_for 10) ≡ Ok 106)
  -- M3 cell 13: 96, 16, 128
  pub m3 :
      (answer_for (cell_tests 13) (marker_size 13) ≡ Ok 96)
      × (answer_for (cell_tests 13) (quiet_zone 13) ≡ Ok 16)
      × (answer_for (cell_tests 13) (margin_for 13) ≡ Ok 128)
  -- M4 frame 192 by 192, cell 1, margin 48: centres 24 and 168
  pub m4 : centers (frame 192 192 1 48)
      ≡ Ok (record { tl = at 24 24; tr = at 168 24; br = at 168 168; bl = at 24 168 })
  -- M5 margin 47, M6 width 191: refusal 5
  pub m5 : centers (frame 192 192 1 47) ≡ Err NoLayout
  pub m6 : centers (frame 191 192 1 48) ≡ Err NoLayout
  -- M7 the mask of [15.2]: its list, by the meaning of a patch, with the first pixels 0, 2 and 4, and no other; [24.4]
  -- "the lines end in 4, 4 and 8"
  pub m7 : PatchList mask7 3 list7 list7 3 (0 ∷ 2 ∷ 4 ∷ []) × Labelled mask7 (blob 1 0 0 0 0 0 0 4
      ∷ blob 1 2 0 2 0 2 0 4 ∷ blob 3 2 5 0 1 1 2 8 ∷ [])
  -- M8 `#.#`, `#.#`, `###`: one record 7 7 8 0 0 2 2; [24.4] "M8's record ends in 16"
  pub m8 : PatchList mask8 3 list8 list8 1 (0 ∷ []) × Labelled mask8 (blob 7 7 8 0 0 2 2 16 ∷ [])
  -- M9 14 of 17 probes pass, 13 do not
  pub m9 :
      ((s : Tally) → Agreed 14 17 s → Apart s → enough (share_of s) ≡ true)
      × ((s : Tally) → Agreed 13 17 s → enough (share_of s) ≡ false)
  -- M10 7 of 9 do not
  pub m10 : (s : Tally) → Agreed 7 9 s → enough (share_of s) ≡ false
  -- M11 capture 60 by 80: norm 50
  pub m11 : (k : Float) → (new_lens 60 80 k ≡ Ok (radial 60 80 k)) × ((radial 60 80 k).norm ≡ f64 50)
  -- M12 round(2.5) = 3, round(−0.5) = −1
  pub m12 : (round_of (d64 25 10) ≡ f64 3) × (round_of (neg (d64 5 10)) ≡ neg (f64 1))
