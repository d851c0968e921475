-- FrameSpec (frame.rs; requirements, 5). Assumes nothing.
use Rattle.std.specs.Prelude.{ℕ, ◌+◌, ◌*◌, ◌-◌, ◌/◌}
use Rattle.frame.specs.declared.FrameSpec.{FrameSpec}

-- [5.4] `new` keeps the Rust's margin: one cell
unfoldable pub new_frame : ℕ → ℕ → ℕ → FrameSpec
new_frame width height cell = record { width = width; height = height; cell = cell; margin = cell }

-- [5.5] where a side is below 2·margin, `cols` or `rows` is 0: the difference of whole numbers stops at 0
unfoldable pub cols : FrameSpec → ℕ
cols f = (f.width - 2 * f.margin) / f.cell

unfoldable pub rows : FrameSpec → ℕ
rows f = (f.height - 2 * f.margin) / f.cell

-- `cell_origin`: the left column of the cells in column c, and the top row of those in row r
abbrev pub cell_x : FrameSpec → ℕ → ℕ
cell_x f c = f.margin + c * f.cell

abbrev pub cell_y : FrameSpec → ℕ → ℕ
cell_y f r = f.margin + r * f.cell
