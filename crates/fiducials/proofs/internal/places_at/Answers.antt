-- `fiducials::internal::places_at` meets its contract. Assumes nothing.
use Rattle.fiducials.specs.Answers.{places_at}
use Rattle.fiducials.proofs.internal.places_at.Goals as goal

pub returns : goal.returns
unfolding places_at
returns c =
    let e0 = c.place.ensures in
    let e1 = c.place-2.ensures in
    let e2 = c.place-3.ensures in
    let e3 = c.place-4.ensures in
    λ i. record { tl = e0 i; tr = e1 i; br = e2 i; bl = e3 i }
