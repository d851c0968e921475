-- `CheckedFrame::new` meets its contract: what passes the test is within its limits. Assumes nothing.
use Rattle.frame.proofs.Held.{frame_held}
use Rattle.frame.proofs.checked.CheckedFrame.new.Goals as goal

pub invariant_of-result : goal.invariant_of-result
invariant_of-result c = record { held = frame_held _ (cc) }
