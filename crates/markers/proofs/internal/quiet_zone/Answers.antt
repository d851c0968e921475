-- `markers::internal::quiet_zone` meets its contract. Assumes nothing.
use Prim.Native.Nat.{◌/◌}
use mathlib.Core.Path.{ap}
use Rattle.markers.specs.Layout.{quiet_zone}
use Rattle.markers.proofs.internal.quiet_zone.Goals as goal

pub returns : goal.returns
unfolding quiet_zone
returns c = ap (λ n. n / 6) c.marker_size.ensures
