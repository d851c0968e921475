-- `page::rows::row_at` meets its contract. Assumes nothing.
use Prim.Native.Nat.{◌+◌, ◌*◌}
use mathlib.Core.Path.{ap}
use lib.ListN.{get_or}
use Rattle.candidates.specs.Ring.{candidate_at, center_at}
use lib.Ieee.{Float, nan}
use Rattle.frame.specs.declared.Point.{Point}
use Rattle.page.specs.Text.{row_at}
use Rattle.page.specs.declared.Row.{Row}
use Rattle.page.proofs.rows.row_at.Goals as goal

abbrev row : Point → Float → Float → Row
row p size score = record { x = p.x; y = p.y; size = size; score = score }

pub returns : goal.returns
unfolding row_at candidate_at center_at
returns c =
    let s = c.args in
    ap (λ (p : Point). row p (get_or s.candidates.now (4 * s.i + 3) nan) (get_or s.candidates.now (4 * s.i + 2) nan))
    c.center_at-center.ensures
