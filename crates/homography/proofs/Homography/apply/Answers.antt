-- `Homography::apply` meets its contract, from its callees'. Assumes nothing.
use Rattle.homography.proofs.Ends.{applied}
use Rattle.homography.proofs.Homography.apply.Goals as goal

pub returns : goal.returns
returns c =
    applied _ _ _ _ _ _ c.row_times-2.ensures c.row_times-3.ensures
    c.row_times.ensures c.divisor-w.ensures
