-- `fiducials::pick::key` meets its contract. Assumes nothing.
use Rattle.fiducials.specs.Answers.{key_of}
use Rattle.fiducials.proofs.pick.key.Goals as goal

pub returns-in-TL : goal.returns-in-TL
unfolding key_of
returns-in-TL c = rw c.in-TL.is

pub returns-in-TR : goal.returns-in-TR
unfolding key_of
returns-in-TR c = rw c.in-TR.is

pub returns-in-BR : goal.returns-in-BR
unfolding key_of
returns-in-BR c = rw c.in-BR.is

pub returns-in-BL : goal.returns-in-BL
unfolding key_of
returns-in-BL c = rw c.in-BL.is
