-- `page::rows::row_printable` meets its contract. Assumes nothing.
use Rattle.page.specs.Promises.{row_printable}
use Rattle.page.proofs.rows.row_printable.Goals as goal

pub returns : goal.returns
unfolding row_printable
returns c = cc
