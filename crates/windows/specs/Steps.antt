-- The walk over the list: what the functions behind `patch_windows` require and leave. Assumes nothing.
use Rattle.std.specs.Prelude.{ℕ, ◌+◌, ◌*◌, ◌≤◌, ◌≡◌, true, cond, List, Option, Some, None, ltb, length, replicate}
use Rattle.std.specs.Option.{option_or, option_map}
use Rattle.base.specs.Loops.{turns, filled}
use Rattle.blobs.specs.Patches.{record_length}
use Rattle.windows.specs.Rectangles.{rectangle_length, rectangle_at, box_at, every_rectangle, touches, distance}
use Rattle.windows.specs.Windows.{most_windows, window_length}
use Rattle.windows.specs.declared.Rectangle.{Rectangle}
use Rattle.windows.specs.declared.Window.{Window}
use Rattle.windows.specs.declared.tally.Near.{Near}
use Rattle.windows.specs.declared.tally.Tally.{Tally}

-- what passes the tests but for the patches' boxes
pub record Fitting (patches : List ℕ) (n : ℕ) (windows : List ℕ) (k answers : ℕ) : Type 0 where
  pub held : window_length * k ≤ answers
  pub handed : rectangle_length * k ≤ length windows
  pub listed : record_length * n ≤ length patches
  pub few : k ≤ most_windows
  pub rectangles : every_rectangle windows k ≡ true

-- ---- the tally of a rectangle

abbrev pub near : ℕ → ℕ → Near
near j d = record { patch = j; distance = d }

-- the nearest, once the patch of m is looked at after it: it has to be nearer
unfoldable pub nearer : Option Near → Near → Option Near
nearer None m = Some m
nearer (Some o) m = cond (ltb m.distance o.distance) (Some m) (Some o)

-- once patch j, whose box is b, has been looked at
unfoldable pub met : Rectangle → Rectangle → ℕ → Tally → Tally
met r b j t =
    record {
      count = t.count + cond (touches r b) 1 0;
      first = option_or t.first (cond (touches r b) (Some j) None);
      nearest = nearer t.nearest (near j (distance r b));
    }

-- before any
abbrev pub no_tally : Tally
no_tally = record { count = 0; first = None; nearest = None }

-- after the first n patches, whose boxes are t 0, t 1, ..
unfoldable pub tally_of : (ℕ → Rectangle) → ℕ → Rectangle → Tally
tally_of t n r = turns n (λ j. met r (t j) j) no_tally

-- the answer that a tally holds
abbrev pub window_in : Tally → Window
window_in t = record { count = t.count; first = t.first; nearest = option_map (λ m. m.patch) t.nearest }

-- ---- the tallies of all rectangles, of which k are asked for, over n patches
unfoldable pub tallies : List ℕ → ℕ → List ℕ → ℕ → List Tally
tallies patches n windows k =
    filled (λ i. tally_of (box_at patches) n (rectangle_at windows i)) k (replicate most_windows no_tally)
