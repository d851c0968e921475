-- `fiducials::detect_fiducials` meets its contract. Assumes nothing.
use mathlib.Core.Path.{sym}
use Rattle.candidates.proofs.Looks.{ready, ready_as}
use Rattle.candidates.proofs.Refusing.{by_lengths}
use Rattle.fiducials.proofs.Detects.{detection_refused, detection_found, past_tests_as}
use Rattle.fiducials.proofs.detect_fiducials.Goals as goal

pub returns-in-Err-clause-detection : goal.returns-in-Err-clause-detection
returns-in-Err-clause-detection c = detection_refused _ _ _ _ c.default.ensures (by_lengths _ _ _ _ c.lengths.ensures c.in-Err.ensures.number)

pub detect-requires : goal.detect-requires
detect-requires c =
    let t = c.in-Ok.ensures in
    ready_as t.value.0 t.value.1 (ready _ _ _ (sym (by_lengths _ _ _ _ c.lengths.ensures t.number)))

pub returns-in-Ok-clause-detection : goal.returns-in-Ok-clause-detection
returns-in-Ok-clause-detection c =
    let t = c.in-Ok.ensures in
    detection_found _ _ _ _ _ _ _ _ _ _ (sym (by_lengths _ _ _ _ c.lengths.ensures t.number))
    (past_tests_as t.value.0 t.value.1 c.detect.ensures.past_tests)
