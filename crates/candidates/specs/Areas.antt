-- What is lent for a look at the picture, and refusal 3. Assumes nothing.
use Rattle.std.specs.Prelude.{ℕ, ◌+◌, ◌*◌, ◌/◌, Bool, false, ◌||◌, List, [], ◌∷◌, ltb, length, Float}
use Rattle.frame.specs.Image.{Image}
use Rattle.frame.specs.Refusals.{Check, check, frame_outside, capture_wrong, capture_small}
use Rattle.markers.specs.Layout.{no_layout}
use Rattle.blobs.specs.Patches.{record_length}
use Rattle.candidates.specs.Ring.{candidate_length}
use Rattle.candidates.specs.declared.Lengths.{Lengths}
use Rattle.frame.specs.declared.FrameSpec.{FrameSpec}
use Rattle.frame.specs.declared.refusals.Refusal.TheVariants.{FrameOutside, CaptureWrong, AreaShort, CanonicalWrong, NoLayout, CaptureSmall}

-- ---- what is lent

-- the planes and lists of a look at the picture
pub record Areas : Type 0 where
  pub luma : List Float
  pub integral : List Float
  pub mask : List ℕ
  -- the visited marks
  pub seen : List ℕ
  pub waiting : List ℕ
  -- record_length numbers a record
  pub patches : List ℕ
  -- four floats a record, and the patch's place beside them
  pub candidates : List Float
  pub blob_index : List ℕ

-- the areas in the order in which a call is handed them
abbrev pub areas : List Float → List Float → List ℕ → List ℕ → List ℕ → List ℕ → List Float → List ℕ → Areas
areas luma integral mask seen waiting patches candidates places =
    record {
      luma = luma;
      integral = integral;
      mask = mask;
      seen = seen;
      waiting = waiting;
      patches = patches;
      candidates = candidates;
      blob_index = places;
    }

abbrev pub lengths_of : Areas → Lengths
lengths_of a =
    record {
      luma = length a.luma;
      integral = length a.integral;
      mask = length a.mask;
      seen = length a.seen;
      waiting = length a.waiting;
      patches = length a.patches;
      candidates = length a.candidates;
      blob_index = length a.blob_index;
    }

-- [3.1] the smallest lengths: luma, mask, visited marks and waiting list w·h entries each; integral (w+1)·(h+1); patch
-- records ⌈w·h/2⌉; candidate records ⌊w·h/32⌋
abbrev pub pixels : Image → ℕ
pixels img = img.w * img.h

abbrev pub integral_length : Image → ℕ
integral_length img = (img.w + 1) * (img.h + 1)

unfoldable pub smallest : ℕ → ℕ → Lengths
smallest w h =
    record {
      luma = w * h;
      integral = (w + 1) * (h + 1);
      mask = w * h;
      seen = w * h;
      waiting = w * h;
      patches = record_length * ((w * h + 1) / 2);
      candidates = candidate_length * (w * h / 32);
      blob_index = w * h / 32;
    }

-- [2.3] 3: a work area is too short; l against the smallest lengths s
unfoldable pub shorter : Lengths → Lengths → Bool
shorter l s =
    ltb l.luma s.luma
    || ltb l.integral s.integral
    || ltb l.mask s.mask
    || ltb l.seen s.seen
    || ltb l.waiting s.waiting
    || ltb l.patches s.patches
    || ltb l.candidates s.candidates
    || ltb l.blob_index s.blob_index

abbrev pub area_short : Image → Areas → Bool
area_short img a = shorter (lengths_of a) (smallest img.w img.h)

-- ---- [2.1 to 2.6, 2.12, 2.13] the tests of a call on a picture, each call's by what it is handed. short: a work area
-- of the call is too short; wrong: its canonical image is not of the right length, false where it is handed none
unfoldable pub picture_tests : Image → FrameSpec → Bool → Bool → List Check
picture_tests img f short wrong =
    check FrameOutside (frame_outside f)
    ∷ check CaptureWrong (capture_wrong img)
    ∷ check AreaShort short
    ∷ check CanonicalWrong wrong
    ∷ check NoLayout (no_layout f)
    ∷ check CaptureSmall (capture_small img)
    ∷ []

-- `fiducial_candidates`, `detect_fiducials`
abbrev pub look_tests : Image → FrameSpec → Areas → List Check
look_tests img f a = picture_tests img f (area_short img a) false
