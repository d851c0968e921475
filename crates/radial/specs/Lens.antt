-- Radial (requirements, 10.4 and 10.5). Assumes nothing.
use Rattle.std.specs.Prelude.{cond, ℕ, zero, suc, Float, Result}
use Rattle.std.specs.Float.Ieee.{lt, eq}
use Rattle.float.specs.Floats.{◌⊕◌, ◌⊖◌, ◌⊗◌, ◌⊘◌, f64, tiny, abs_of, max_of}
use Rattle.float.specs.Root.{sqrt_of}
use Rattle.frame.specs.declared.Point.{Point}
use Rattle.frame.specs.Refusals.{answer_for, side_tests}
use Rattle.frame.specs.declared.refusals.Refusal.{Refusal}
use Rattle.radial.specs.declared.Radial.{Radial}

-- [10.4] the lens term k about the centre of a picture w by h; norm is half the diagonal, at least 1
unfoldable pub radial : ℕ → ℕ → Float → Radial
radial w h k =
    let cx = f64 w ⊘ f64 2 in
    let cy = f64 h ⊘ f64 2 in
    record { k = k; cx = cx; cy = cy; norm = max_of (sqrt_of (cx ⊗ cx ⊕ cy ⊗ cy)) (f64 1) }

-- `Radial::new`: the refusal of lone sides, and else the lens
unfoldable pub new_lens : ℕ → ℕ → Float → Result Radial Refusal
new_lens w h k = answer_for (side_tests w h) (radial w h k)

-- ---- where a point goes

-- pinhole point to observed point
unfoldable pub distort : Radial → Point → Point
distort l p =
    let dx = p.x ⊖ l.cx in
    let dy = p.y ⊖ l.cy in
    let r2 = (dx ⊗ dx ⊕ dy ⊗ dy) ⊘ (l.norm ⊗ l.norm) in
    let f = f64 1 ⊕ l.k ⊗ r2 in
    cond (eq l.k (f64 0)) p (record { x = l.cx ⊕ dx ⊗ f; y = l.cy ⊕ dy ⊗ f })

-- [10.5] Newton's steps on u + k·u³ = rd: at most six, left early when |dg| < 1e-12
unfoldable pub newton : ℕ → Float → Float → Float → Float
newton zero k rd u = u
newton (suc n) k rd u =
    let g = u ⊕ k ⊗ u ⊗ u ⊗ u ⊖ rd in
    let dg = f64 1 ⊕ f64 3 ⊗ k ⊗ u ⊗ u in
    cond (lt (abs_of dg) tiny) u (newton n k rd (u ⊖ g ⊘ dg))

-- [10.5] observed point to pinhole point: p itself when k = 0 or rd < 1e-12
unfoldable pub undistort : Radial → Point → Point
undistort l p =
    let dx = p.x ⊖ l.cx in
    let dy = p.y ⊖ l.cy in
    let rd = sqrt_of (dx ⊗ dx ⊕ dy ⊗ dy) ⊘ l.norm in
    let u = newton 6 l.k rd rd in
    let f = f64 1 ⊕ l.k ⊗ u ⊗ u in
    cond (eq l.k (f64 0)) p (cond (lt rd tiny) p (record { x = l.cx ⊕ dx ⊘ f; y = l.cy ⊕ dy ⊘ f }))
