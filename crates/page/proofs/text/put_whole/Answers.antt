-- `page::text::put_whole` meets its contract. Assumes nothing.
use native.Mathlib.Omega.{arith}
use Prim.Native.Nat.{◌-◌}
use lib.ListN.{length}
use Rattle.page.proofs.text.Written.{whole_written}
use Rattle.page.proofs.text.put_whole.Goals as goal

pub returns : goal.returns
returns c =
    let a = c.args in
    let l = a.area.now in
    whole_written l c.put_columns.new.area a.q c.letter.result a.after (length l - 2) (omega arith)
    c.put_columns.ensures c.letter.ensures
