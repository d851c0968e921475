-- `RgbImage::new` meets its contract: what passes the test is within its limits. Assumes nothing.
use Rattle.frame.proofs.Held.{capture_held}
use Rattle.view.proofs.RgbImage.new.Goals as goal

pub new-requires : goal.new-requires
new-requires c = capture_held _ (cc)
