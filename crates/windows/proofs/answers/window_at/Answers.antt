-- `windows::answers::window_at` meets its contract. Assumes nothing.
use Rattle.windows.specs.Windows.{window_at}
use Rattle.windows.proofs.answers.window_at.Goals as goal

pub returns : goal.returns
unfolding window_at
returns c = cc
