-- `sampling::internal::sample` meets its contract. Assumes nothing.
use Rattle.sampling.specs.Reading.{sample_at}
use Rattle.sampling.proofs.internal.sample.Goals as goal

pub returns : goal.returns
unfolding sample_at
returns c = λ i. record { colour = c.reading.ensures i; inside = c.inside.ensures i }
