-- Markers and their layout (requirements, 5). Assumes nothing.
use Rattle.std.specs.Prelude.{ℕ, ◌+◌, ◌*◌, ◌-◌, ◌/◌, min, max, Bool, cond, ◌||◌, ltb, Float, Option, Some, None}
use Rattle.float.specs.Floats.{◌⊕◌, ◌⊖◌, ◌⊘◌, f64}
use Rattle.frame.specs.declared.FrameSpec.{FrameSpec}
use Rattle.frame.specs.declared.Point.{Point}
use Rattle.frame.specs.declared.Quad.{Quad}
use Rattle.markers.specs.declared.internal.Markers.{Markers}

-- [5.1] marker = 8·cell held to 72..96
unfoldable pub marker_size : ℕ → ℕ
marker_size cell = max 72 (min 96 (8 * cell))

-- [5.1] quiet = marker/6, whole division
unfoldable pub quiet_zone : ℕ → ℕ
quiet_zone cell = marker_size cell / 6

-- [5.1] margin = marker + 2·quiet
unfoldable pub margin_for : ℕ → ℕ
margin_for cell = marker_size cell + 2 * quiet_zone cell

-- `frame_spec`: the margin is that for the cell (FrameSpec's own `new` has a margin of one cell: frame/specs/Frame)
unfoldable pub frame_spec : ℕ → ℕ → ℕ → FrameSpec
frame_spec width height cell = record { width = width; height = height; cell = cell; margin = margin_for cell }

-- [5.2] `marker_layout` takes m = margin − 2·quiet
unfoldable pub marker : FrameSpec → ℕ
marker f = f.margin - 2 * quiet_zone f.cell

-- [2.5, 5.2] .. and is None exactly when margin < 2·quiet, m < 24, or a side < 4·margin
unfoldable pub no_layout : FrameSpec → Bool
no_layout f =
    ltb f.margin (2 * quiet_zone f.cell) || ltb (marker f) 24 || ltb f.width (4 * f.margin)
    || ltb f.height (4 * f.margin)

-- the markers' top left corners: near is the quiet zone, far leaves room for the marker and the quiet zone
abbrev pub far : ℕ → ℕ → ℕ → Float
far side quiet m = f64 side ⊖ f64 quiet ⊖ f64 m

unfoldable pub origins : FrameSpec → Quad
origins f =
    let near = f64 (quiet_zone f.cell) in
    let farX = far f.width (quiet_zone f.cell) (marker f) in
    let farY = far f.height (quiet_zone f.cell) (marker f) in
    record {
      tl = record { x = near; y = near };
      tr = record { x = farX; y = near };
      br = record { x = farX; y = farY };
      bl = record { x = near; y = farY };
    }

-- `marker_layout`: the marker's side and the four corners, or None
unfoldable pub layout_of : FrameSpec → Option Markers
layout_of f = cond (no_layout f) None (Some (record { m = f64 (marker f); origins = origins f }))

-- [5.3] centres run TL, TR, BR, BL: half a marker further
abbrev pub moved : Float → Point → Point
moved d p = record { x = p.x ⊕ d; y = p.y ⊕ d }

unfoldable pub marker_centers : FrameSpec → Quad
marker_centers f =
    let half = f64 (marker f) ⊘ f64 2 in
    let o = origins f in
    record { tl = moved half o.tl; tr = moved half o.tr; br = moved half o.br; bl = moved half o.bl }
