-- Rectangles of pixels (requirements, 27): those handed in, and the boxes of patches. Assumes nothing.
use Rattle.std.specs.Prelude.{ℕ, ◌+◌, ◌*◌, ◌-◌, ◌≤◌, Bool, ◌&&◌, List, leb, get_or}
use Rattle.base.specs.Loops.{every}
use Rattle.blobs.specs.Patches.{patch_at}
use Rattle.windows.specs.declared.Rectangle.{Rectangle}

-- ---- in the lists

-- [27.1] a rectangle handed in is four numbers: x0, y0, x1, y1
abbrev pub rectangle_length : ℕ
rectangle_length = 4

unfoldable pub rectangle_at : List ℕ → ℕ → Rectangle
rectangle_at l i =
    let p = rectangle_length * i in
    record { x0 = get_or l p 0; y0 = get_or l (p + 1) 0; x1 = get_or l (p + 2) 0; y1 = get_or l (p + 3) 0 }

-- [7.3, 27.2] the box of patch j of a list
unfoldable pub box_at : List ℕ → ℕ → Rectangle
box_at l j =
    let b = patch_at l j in
    record { x0 = b.x0; y0 = b.y0; x1 = b.x1; y1 = b.y1 }

-- ---- [27.10] "with an end before its start or above 4,095": refused

-- neither is the case
pub record Valid (r : Rectangle) : Type 0 where
  pub x_rises : r.x0 ≤ r.x1
  pub y_rises : r.y0 ≤ r.y1
  pub x_held : r.x1 ≤ 4095
  pub y_held : r.y1 ≤ 4095

-- the same as a test
unfoldable pub valid : Rectangle → Bool
valid r = leb r.x0 r.x1 && leb r.y0 r.y1 && leb r.x1 4095 && leb r.y1 4095

-- of the first k rectangles
abbrev pub every_rectangle : List ℕ → ℕ → Bool
every_rectangle l k = every k (λ i. valid (rectangle_at l i))

-- of the first n boxes
abbrev pub every_box : List ℕ → ℕ → Bool
every_box l n = every n (λ j. valid (box_at l j))

-- ---- [27.2] "share a pixel"

-- [27.1] "with whole ends, both counted": the pixel in column x and row y belongs to r
pub record Within (r : Rectangle) (x y : ℕ) : Type 0 where
  pub x_start : r.x0 ≤ x
  pub x_end : x ≤ r.x1
  pub y_start : r.y0 ≤ y
  pub y_end : y ≤ r.y1

-- some pixel belongs to both
abbrev pub Shares : Rectangle → Rectangle → Type 0
Shares r b = (x : ℕ) × (y : ℕ) × Within r x y × Within b x y

-- the same as a test: neither ends before the other starts, in columns and in rows
unfoldable pub touches : Rectangle → Rectangle → Bool
touches r b = leb b.x0 r.x1 && leb r.x0 b.x1 && leb b.y0 r.y1 && leb r.y0 b.y1

-- ---- [27.4] "by squared distance in doubled whole numbers"

-- the difference of two numbers, the less from the greater
unfoldable pub apart : ℕ → ℕ → ℕ
apart a b = (a - b) + (b - a)

-- x0 + x1 is twice the middle column, and y0 + y1 twice the middle row
unfoldable pub distance : Rectangle → Rectangle → ℕ
distance r b =
    let dx = apart (r.x0 + r.x1) (b.x0 + b.x1) in
    let dy = apart (r.y0 + r.y1) (b.y0 + b.y1) in
    dx * dx + dy * dy
