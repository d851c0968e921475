-- `blobs::visit::spread` meets its contract. Assumes nothing.
use mathlib.Core.Path.{ap, ◌∙◌}
use Rattle.blobs.specs.Neighbours.{visit_to}
use Rattle.blobs.proofs.Around.{all_inside, spread_to}
use Rattle.blobs.proofs.visit.spread.Goals as goal

pub visit-a-requires-clause-inside : goal.visit-a-requires-clause-inside
visit-a-requires-clause-inside c = ((all_inside c.around-near.result c.around-near.ensures c.requires.pixel.0).left, c.requires.pixel.0.small)

pub visit-b-requires-clause-inside : goal.visit-b-requires-clause-inside
visit-b-requires-clause-inside c = ((all_inside c.around-near.result c.around-near.ensures c.requires.pixel.0).right, c.requires.pixel.0.small)

pub visit-c-requires-clause-inside : goal.visit-c-requires-clause-inside
visit-c-requires-clause-inside c = ((all_inside c.around-near.result c.around-near.ensures c.requires.pixel.0).up, c.requires.pixel.0.small)

pub visit-requires-clause-inside : goal.visit-requires-clause-inside
visit-requires-clause-inside c = ((all_inside c.around-near.result c.around-near.ensures c.requires.pixel.0).down, c.requires.pixel.0.small)

pub returns : goal.returns
returns c =
    let a = c.args in
    let n = c.around-near.result in
    let to = visit_to a.mask.now in
    c.visit.ensures.visited
    ∙ ap (to n.down) (c.visit-c.ensures.visited ∙ ap (to n.up) (c.visit-b.ensures.visited ∙ ap (to n.right) c.visit-a.ensures.visited))
    ∙ spread_to _ _ _ _ n c.around-near.ensures
