-- `searched` may call the search once its tests have passed.
use Rattle.std.proofs.Common.{◌∙◌, arith}
use lib.Seq.{length-take-le}
use Rattle.test_search.proofs.searched.Goals as goal

pub search-requires : goal.search-requires
search-requires c = length-take-le _ _ (omega arith) ∙ c.sampled_cells-n.ensures.0
