-- Over a field the matrix of `from_points` takes each source to its own target, and the quotients of its lines are the target. Assumes nothing.
use mathlib.Core.Path.{refl, ap, ◌∙◌}
use Prim.Native.Nat.{ℕ}
use lib.ListN.{get_or}
use Rattle.homography.specs.Elimination.{entry, solution}
use Rattle.homography.specs.Equations.{equations_over, homography_over}
use Rattle.homography.specs.Homography.{line}
use Rattle.homography.specs.Rationals.{ℚ, exact, value_of}
use Rattle.homography.specs.Transform.{HomographyTakes, RationalHomographyTakes, QuotientsAre}
use Rattle.homography.proofs.Linear.{total_cong}
use Rattle.homography.proofs.Rationals.{rational_field}
use Rattle.homography.proofs.Transform.{transform_is, laid_out_by_rows}
use Rattle.homography.proofs.Elimination.{elimination_solves, over_product}

pub homography_takes : HomographyTakes
unfolding equations_over
homography_takes A N F num src dst e =
    let a = equations_over N num src dst in
    let m : ℕ → A = λ i. get_or (homography_over N num src dst) i N.outside in
    let h : ℕ → A = λ i. get_or (solution N a) i N.outside in
    let o = laid_out_by_rows A N num src dst in
    (transform_is A N F.ring num src dst m o.1).0
    (λ r l.
    total_cong N F.ring (λ j. N.times (entry N a r j) (m j)) (λ j. N.times (entry N a r j) (h j)) 8 (λ j i. ap (N.times (entry N a r j)) (o.0 j i))
    ∙ elimination_solves A N F a refl e r l)

pub rational_homography_takes : RationalHomographyTakes
rational_homography_takes prefers refuses h src dst e = homography_takes ℚ (exact prefers refuses) (rational_field prefers refuses h) value_of src dst e

pub quotients_are : QuotientsAre
quotients_are A N F num m p q t some =
    let w = line N m 2 (num p.x) (num p.y) in (
      ap (λ z. N.over z w) t.0 ∙ over_product N F w some (num q.x),
      ap (λ z. N.over z w) t.1 ∙ over_product N F w some (num q.y),
    )
