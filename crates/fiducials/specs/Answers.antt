-- What the functions behind `detect_fiducials` answer. Assumes nothing.
use Rattle.std.specs.Prelude.{ℕ, List, Float, get_or, Result, Ok, Err}
use Rattle.std.specs.Float.Ieee.{neg}
use Rattle.float.specs.Floats.{◌⊕◌, ◌⊖◌, f64}
use Rattle.frame.specs.Refusals.{answer_for}
use Rattle.frame.specs.declared.Point.{Point}
use Rattle.frame.specs.declared.Quad.{Quad}
use Rattle.frame.specs.declared.refusals.Refusal.{Refusal}
use Rattle.candidates.specs.Ring.{center_at}
use Rattle.fiducials.specs.Corners.{pick, corner_tests}
use Rattle.fiducials.specs.declared.Corners.{Corners}
use Rattle.fiducials.specs.declared.Places.{Places}
use Rattle.fiducials.specs.declared.pick.Corner.{Corner}
use Rattle.fiducials.specs.declared.pick.Corner.TheVariants.{TL, TR, BR, BL}

-- the keys of `detect_fiducials`, each to be least: those of TR and BR are negated there
unfoldable pub key_of : Corner → Point → Float
key_of TL p = p.x ⊕ p.y
key_of TR p = neg (p.x ⊖ p.y)
key_of BR p = neg (p.x ⊕ p.y)
key_of BL p = p.x ⊖ p.y

unfoldable pub quad_at : (ℕ → Point) → ℕ → ℕ → ℕ → ℕ → Quad
quad_at p tl tr br bl = record { tl = p tl; tr = p tr; br = p br; bl = p bl }

unfoldable pub places_at : List ℕ → ℕ → ℕ → ℕ → ℕ → Places
places_at l tl tr br bl = record { tl = get_or l tl 0; tr = get_or l tr 0; br = get_or l br 0; bl = get_or l bl 0 }

-- of k candidates with the records c and the places l
unfoldable pub corners_of : List Float → List ℕ → ℕ → ℕ → ℕ → Result Corners Refusal
corners_of c l w h k =
    let p = center_at c in
    let tl = pick TL p k in
    let tr = pick TR p k in
    let br = pick BR p k in
    let bl = pick BL p k in
    answer_for (corner_tests w h p k) (record { quad = quad_at p tl tr br bl; places = places_at l tl tr br bl })

-- ---- centres and places of an answer, and what stands for them where it is refused

unfoldable pub no_quad : Quad
no_quad =
    let p : Point = record { x = f64 0; y = f64 0 } in
    record { tl = p; tr = p; br = p; bl = p }

unfoldable pub no_places : Places
no_places = record { tl = 0; tr = 0; br = 0; bl = 0 }

abbrev pub quad_of : Result Corners Refusal → Quad
quad_of (Ok c) = c.quad
quad_of (Err r) = no_quad

abbrev pub places_of : Result Corners Refusal → Places
places_of (Ok c) = c.places
places_of (Err r) = no_places
