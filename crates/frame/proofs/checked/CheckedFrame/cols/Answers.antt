-- `frame::CheckedFrame::cols` meets its contract. Assumes nothing.
use Prim.Native.Nat.{◌/◌}
use mathlib.Core.Path.{ap}
use Rattle.frame.specs.Frame.{cols}
use Rattle.frame.proofs.checked.CheckedFrame.cols.Goals as goal

pub returns : goal.returns
unfolding cols
returns c = ap (λ z. z / c.args.self.spec.cell) c.saturating_sub.ensures
