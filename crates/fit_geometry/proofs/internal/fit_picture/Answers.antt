-- `fit_geometry::internal::fit_picture` meets its contract. Assumes nothing.
use Rattle.fit_geometry.proofs.PastTests.{unsearched_is, searched_is}
use Rattle.fit_geometry.proofs.internal.fit_picture.Goals as goal

pub returns-in-Err-clause-past_tests : goal.returns-in-Err-clause-past_tests
returns-in-Err-clause-past_tests c = unsearched_is _ _ _ _ _ c.detect-found.ensures.past_tests c.in-Err.is c.unsearched.ensures

pub returns-in-Ok-clause-past_tests : goal.returns-in-Ok-clause-past_tests
returns-in-Ok-clause-past_tests c =
    let s = c.search_lent-stage.ensures in
    searched_is _ _ _ _ _ c.detect-found.ensures.past_tests _ c.in-Ok.is s.0 s.1 c.searched_fit.ensures
