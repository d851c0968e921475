-- `frame::CheckedFrame::rows` meets its contract. Assumes nothing.
use Prim.Native.Nat.{◌/◌}
use mathlib.Core.Path.{ap}
use Rattle.frame.specs.Frame.{rows}
use Rattle.frame.proofs.checked.CheckedFrame.rows.Goals as goal

pub returns : goal.returns
unfolding rows
returns c = ap (λ z. z / c.args.self.spec.cell) c.saturating_sub.ensures
