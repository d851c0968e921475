-- The keys of a passing patch's centre are numbers, so the pick is always the outermost patch. Assumes nothing.
use Prim.Native.Nat.{◌≤◌, ◌^◌}
use Rattle.blobs.specs.declared.Blob.{Blob}
use Rattle.frame.specs.declared.Point.{Point}
use Rattle.float.specs.Floats.{◌⊘◌, f64}
use Rattle.float.proofs.Numbers.{Finite, whole_small, whole_one, quotient_small, half_more, plus_number, minus_number}
use Rattle.candidates.specs.Ring.{center}
use Rattle.fiducials.specs.declared.pick.Corner.{Corner}
use Rattle.fiducials.specs.Corners.{key}
use Rattle.fiducials.specs.declared.pick.Corner.TheVariants.{TL, TR, BR, BL}
use Rattle.fiducials.proofs.Picks.{Number}

-- the centre of a patch with an area from 1 on, within 2 ^ 60
pub center_finite : (t : Blob) → 1 ≤ t.area → t.area ≤ 2 ^ 60 → t.sx ≤ 2 ^ 60 → t.sy ≤ 2 ^ 60 → Finite (center t).x × Finite (center t).y
unfolding center
center_finite t o a x y = (
  half_more (f64 t.sx ⊘ f64 t.area) (quotient_small (f64 t.sx) (f64 t.area) (whole_small t.sx x) (whole_one t.area o a)),
  half_more (f64 t.sy ⊘ f64 t.area) (quotient_small (f64 t.sy) (f64 t.area) (whole_small t.sy y) (whole_one t.area o a)),
)

pub key_number_lem : (c : Corner) (p : Point) → Finite p.x → Finite p.y → Number c p
unfolding key
key_number_lem TL p a b = plus_number p.x p.y a b
key_number_lem TR p a b = minus_number p.x p.y a b
key_number_lem BR p a b = plus_number p.x p.y a b
key_number_lem BL p a b = minus_number p.x p.y a b
