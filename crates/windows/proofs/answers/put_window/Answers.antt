-- `windows::answers::put_window` meets its contract. Assumes nothing.
use Rattle.windows.specs.Windows.{window_numbers}
use Rattle.windows.proofs.answers.put_window.Goals as goal

pub returns : goal.returns
unfolding window_numbers
returns c = cc
