-- The counts of a lens search (requirements, 26): their sums, what these mean, and that nothing is kept by them.
-- Assumes nothing.
use Rattle.std.specs.Prelude.{ℕ, zero, suc, ◌+◌, ◌<◌, ◌≤◌, ◌≡◌, Bool, true, cond, T, Float}
use Rattle.std.specs.Float.Ieee.{neg}
use Rattle.base.specs.Loops.{turns}
use Rattle.float.specs.Floats.{f64}
use Rattle.frame.specs.Image.{Image}
use Rattle.frame.specs.declared.FrameSpec.{FrameSpec}
use Rattle.frame.specs.declared.Quad.{Quad}
use Rattle.fit.specs.Fits.{fits_for, fit_for}
use Rattle.search.specs.Stages.{k_max, entries, k_at, fresh, outcome_of, staged, begun, on_kept, searched, second_center}
use Rattle.search.specs.Stages.{last_center}
use Rattle.search.specs.declared.Stage.{Stage}

-- ---- by equation

-- c 0 + c 1 + .. + c (n - 1)
unfoldable pub total : (ℕ → ℕ) → ℕ → ℕ
total c zero = 0
total c (suc n) = total c n + c n

-- [26.2] what stage j around a centre adds to the trials tried
unfoldable pub different : ℕ → Float → ℕ
different j center = total (fresh j center) (entries j)

-- [26.3] .. and to the homographies: the entries that have one, by the same rule
unfoldable pub mapped : Image → FrameSpec → Quad → ℕ → Float → ℕ
mapped img f q j center =
    total (λ i. cond (fits_for img.w img.h f q (k_at j center i)) (fresh j center i) 0) (entries j)

-- ---- by meaning

-- [26.2] "the number of different k": the chosen ones of n entries have `count` different terms. As many of them
-- represent all: no two of these have the same term, and each chosen entry has the term of one
pub record Different (term : ℕ → Float) (chosen : ℕ → Bool) (n count : ℕ) : Type 0 where
  pub representative : ℕ → ℕ
  pub within : (i : ℕ) → i < count → (representative i < n) × T (chosen (representative i))
  pub apart : (i l : ℕ) → i < l → l < count → term (representative i) ≡ term (representative l) → ⊥
  pub every : (e : ℕ) → e < n → T (chosen e) → (i : ℕ) × (i < count) × (term (representative i) ≡ term e)

-- [26.2] "the number": there is one only
abbrev pub OneNumber : Type 0
OneNumber =
    (term : ℕ → Float) (chosen : ℕ → Bool) (n count count' : ℕ)
    → Different term chosen n count → Different term chosen n count' → count ≡ count'

-- [26.2] the different k of stage j around a centre; [26.3] and those with a homography
pub record StageCounts (img : Image) (f : FrameSpec) (q : Quad) (j : ℕ) (center : Float) : Type 0 where
  pub tried : Different (k_at j center) (λ i. true) (entries j) (different j center)
  pub homographies : Different (k_at j center) (λ i. fits_for img.w img.h f q (k_at j center i)) (entries j)
      (mapped img f q j center)

-- the counts of a search that keeps a trial
pub record Counts (img : Image) (f : FrameSpec) (q : Quad) (tried homographies : ℕ) : Type 0 where
  -- [26.2] "for each stage, the number of different k after clamping, added over the three"; [26.3] and the homographies
  pub tried_is : tried ≡ different 0 (f64 0) + different 1 (second_center img f q) + different 2 (last_center img f q)
  pub mapped_is : homographies ≡ mapped img f q 0 (f64 0) + mapped img f q 1 (second_center img f q)
      + mapped img f q 2 (last_center img f q)
  -- .. and what these six numbers mean
  pub first : StageCounts img f q 0 (f64 0)
  pub second : StageCounts img f q 1 (second_center img f q)
  pub third : StageCounts img f q 2 (last_center img f q)
  -- [26.4] "the first stage never repeats a term"
  pub first_all : different 0 (f64 0) ≡ entries 0
  -- [26.5] "and the others try at least one"
  pub second_some : 1 ≤ different 1 (second_center img f q)
  pub third_some : 1 ≤ different 2 (last_center img f q)
  -- [26.6] "so an accepted fit has from 43 to 78 trials"
  pub tried_held : (43 ≤ tried) × (tried ≤ 78)

-- [26.6] "and 78 is no longer fixed": around either end of the range the second stage tries 11 different k and the
-- third 9, which makes 61 with the 41 of the first
abbrev pub EndsRepeat : Type 0
EndsRepeat =
    ((different 1 (neg k_max) ≡ 11) × (different 2 (neg k_max) ≡ 9)) × ((different 1 k_max ≡ 11) × (different 2 k_max ≡ 9))

-- ---- [26.7] "which fit is kept must not move"

-- the stages where entry i of stage j around a centre adds c j center i to the counts: 1 each before order 10
abbrev pub stage_by : (ℕ → Float → ℕ → ℕ) → Image → FrameSpec → Quad → ℕ → Float → ℕ → ℕ → Stage
stage_by c img f q j center tried homographies =
    turns (entries j) (λ i s.
    staged (c j center i) (outcome_of img f q (k_at j center i)) (fit_for img.w img.h f q (k_at j center i)) s)
    (begun tried homographies)

abbrev pub next_by : (ℕ → Float → ℕ → ℕ) → Image → FrameSpec → Quad → ℕ → Stage → Stage
next_by c img f q j s = on_kept s.kept s (stage_by c img f q j s.fit.radial.k s.tried s.homographies)

unfoldable pub searched_by : (ℕ → Float → ℕ → ℕ) → Image → FrameSpec → Quad → Stage
searched_by c img f q = next_by c img f q 2 (next_by c img f q 1 (stage_by c img f q 0 (f64 0) 0 0))

-- whatever is counted, the search keeps the same trial
abbrev pub KeptAlone : Type 0
KeptAlone =
    (c : ℕ → Float → ℕ → ℕ) (img : Image) (f : FrameSpec) (q : Quad)
    → ((searched_by c img f q).kept ≡ (searched img f q).kept) × ((searched_by c img f q).fit ≡ (searched img f q).fit)
