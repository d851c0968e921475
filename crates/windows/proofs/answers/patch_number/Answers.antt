-- `windows::answers::patch_number` meets its contract. Assumes nothing.
use Rattle.windows.specs.Windows.{patch_number}
use Rattle.windows.proofs.answers.patch_number.Goals as goal

pub returns-in-Some : goal.returns-in-Some
unfolding patch_number
returns-in-Some c = rw c.in-Some.is

pub returns-in-None : goal.returns-in-None
unfolding patch_number
returns-in-None c = rw c.in-None.is
