-- The lens search a trial at a time: a state, and one turn of it. proofs/Turning shows that turns from the beginning
-- come to `searched`. Assumes nothing.
use Rattle.std.specs.Prelude.{◌+◌, ◌<◌, true, false, cond, ◌&&◌, ltb, Float}
use Rattle.float.specs.Floats.{f64}
use Rattle.frame.specs.Image.{Image}
use Rattle.fit.specs.Grid.{grade_of}
use Rattle.search.specs.Stages.{entries, trial_step, begun, keeps}
use Rattle.fit.specs.Fits.{fits_for, fit_for, no_fit}
use Rattle.search.specs.declared.Trial.{Trial}
use Rattle.search.specs.declared.Outcome.TheVariants.{NoHomography, Graded}
use Rattle.frame.specs.declared.FrameSpec.{FrameSpec}
use Rattle.frame.specs.declared.Quad.{Quad}
use Rattle.search.specs.declared.Stage.{Stage}
use Rattle.search.specs.declared.Search.{Search}

-- [12.2] a trial: its k, the homography that this gives, and the grid score of the two
unfoldable pub trial_of : Image → FrameSpec → Quad → Float → Trial
trial_of img f q k =
    let t = fit_for img.w img.h f q k in
    cond (fits_for img.w img.h f q k) (record {
      outcome = Graded (grade_of img f t);
      fit = t;
    }) (record { outcome = NoHomography; fit = no_fit })

-- before the first trial
unfoldable pub beginning : Search
beginning = record { number = 0; entry = 0; center = f64 0; stage = begun 0 0; ended = false }

-- s after an entry that left its stage as t: the next entry; after the last one the next stage, around the k kept;
-- the end after the third stage, and after one that keeps none
unfoldable pub advanced : Search → Stage → Search
advanced s t =
    cond (ltb (s.entry + 1) (entries s.number))
    (record { number = s.number; entry = s.entry + 1; center = s.center; stage = t; ended = false })
    (cond (keeps t.kept && ltb s.number 2)
    (record {
      number = s.number + 1;
      entry = 0;
      center = t.fit.radial.k;
      stage = begun t.tried t.homographies;
      ended = false;
    })
    (record { number = s.number; entry = s.entry; center = s.center; stage = t; ended = true }))

-- one trial; nothing once the search has ended
unfoldable pub turn_of : Image → FrameSpec → Quad → Search → Search
turn_of img f q s = cond s.ended s (advanced s (trial_step img f q s.number s.center s.entry s.stage))

-- what a turn requires of a state, so that its counts do not wrap
pub record Counting (s : Search) : Type 0 where
  pub number_held : s.number < 3
  pub entry_held : s.entry < 41
  pub tried_held : s.stage.tried < 4294967295
  pub homographies_held : s.stage.homographies < 4294967295
