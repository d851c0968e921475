-- `book::reader::read_list` meets its contract. Assumes nothing.
use native.Mathlib.Omega.{arith}
use Rattle.base.proofs.Plane.{filled_begin, filled_step, filled_end}
use Rattle.book.proofs.reader.read_list.Goals as goal

pub loop-i-init : goal.loop-i-init
loop-i-init g c = λ f h. filled_begin _ _

pub loop-i-preserved : goal.loop-i-preserved
loop-i-preserved g c = λ f h. let l = c.loop-i in filled_step _ _ l.i _ (l.invariant f h) (h l.i _ (omega arith) c.entry.ensures)

pub returns : goal.returns
returns g c = λ f h. let l = c.loop-i in filled_end _ _ _ _ (l.invariant f h) (omega arith)
