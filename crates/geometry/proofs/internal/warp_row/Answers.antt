-- `geometry::internal::warp_row` meets its contract. Assumes nothing.
use native.Mathlib.Omega.{arith}
use Prim.Native.Nat.{◌+◌}
use Rattle.base.proofs.Plane.{filled_begin, filled_end}
use Rattle.base.proofs.Turns.{turns_begin, turns_end}
use Rattle.view.specs.Views.{picture}
use Rattle.geometry.specs.Warp.{row_beyond}
use Rattle.geometry.proofs.Beyond.{count_most, count_one}
use Rattle.geometry.proofs.Rows.{pixel_stored}
use Rattle.geometry.proofs.internal.warp_row.Goals as goal

pub loop-x-init : goal.loop-x-init
loop-x-init c = record { written = filled_end _ _ _ _ (filled_begin _ _) (omega arith); counted = turns_begin _ _ }

pub overflow_add-count : goal.overflow_add-count
overflow_add-count c =
    let a = c.args in
    let l = c.loop-x in
    let img = picture a.capture in
    record {
      fits = omega (
        arith,
        count_one img a.fit a.y l.x c.pixel-s.ensures.1 l.invariant.counted,
        count_most img a.fit a.y (l.x + 1),
      );
    }

pub loop-x-preserved : goal.loop-x-preserved
loop-x-preserved c =
    let l = c.loop-x in
    let a = c.args in
    let img = picture a.capture in
    record {
      written = pixel_stored img a.fit a.y l.x a.row.now c.pixel-s.result.colour c.pixel-s.ensures.0 l.invariant.written;
      counted = count_one img a.fit a.y l.x c.pixel-s.ensures.1 l.invariant.counted;
    }

pub returns : goal.returns
unfolding row_beyond
returns c = (turns_end _ _ _ _ c.loop-x.invariant.counted (omega arith), filled_end _ _ _ _ c.loop-x.invariant.written (omega arith))
