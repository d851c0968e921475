-- Patches of dark pixels (requirements, 7). A mask is the list of its pixels in raster order, w to a row:
-- pixel p stands in column p % w and row p / w. Assumes nothing.
use Rattle.std.specs.Prelude.{ℕ, zero, suc, ◌+◌, ◌*◌, ◌-◌, ◌/◌, ◌%◌, ◌≤◌, ◌<◌, min, ◌≡◌, Bool, cond, List, ◌⊎◌, leb, ltb, length, get_or, set, drop}
use Rattle.blobs.specs.declared.Blob.{Blob}

-- [7.2] any nonzero byte is dark (past the mask's end nothing is)
abbrev pub Dark : List ℕ → ℕ → Type 0
Dark m q = get_or m q 0 ≡ 0 → ⊥

-- [7.1] p shares an edge with q: q is right of p, left of it, under it or over it
pub data Touch (w p q : ℕ) : Type 0 where
  right : q ≡ p + 1 → p % w + 1 < w → Touch w p q
  left : p ≡ q + 1 → q % w + 1 < w → Touch w p q
  under : q ≡ p + w → Touch w p q
  over : p ≡ q + w → Touch w p q

-- [7.1] two dark pixels belong together when a chain of dark pixels joins them
pub data Joined (m : List ℕ) (w p : ℕ) : ℕ → Type 0 where
  here : Dark m p → Joined m w p p
  step : {q r : ℕ} → Joined m w p q → Touch w q r → Dark m r → Joined m w p r

-- the sum of f over the first n pixels, each counted as often as c says
unfoldable pub total : (ℕ → ℕ) → (ℕ → ℕ) → ℕ → ℕ
total f c zero = 0
total f c (suc k) = total f c k + c k * f k

-- c counts once the pixels for which P holds, and the others not at all
abbrev pub Marks : (ℕ → ℕ) → (ℕ → Type 0) → Type 0
Marks c P = (q : ℕ) → ((c q ≡ 1) × P q) ⊎ ((c q ≡ 0) × (P q → ⊥))

-- v is the least (the greatest) value of f where P holds
abbrev pub Least : (ℕ → ℕ) → (ℕ → Type 0) → ℕ → Type 0
Least f P v = ((q : ℕ) → P q → v ≤ f q) × ((q : ℕ) × P q × (f q ≡ v))

abbrev pub Greatest : (ℕ → ℕ) → (ℕ → Type 0) → ℕ → Type 0
Greatest f P v = ((q : ℕ) → P q → f q ≤ v) × ((q : ℕ) × P q × (f q ≡ v))

abbrev pub one : ℕ → ℕ
one q = 1

abbrev pub column : ℕ → ℕ → ℕ
column w q = q % w

abbrev pub row : ℕ → ℕ → ℕ
row w q = q / w

-- 1 for a dark pixel, 0 for a light one
abbrev pub ink : List ℕ → ℕ → ℕ
ink m q = min (get_or m q 0) 1

-- .. and the other way round
unfoldable pub light : List ℕ → ℕ → ℕ
light m q = 1 - ink m q

-- a side towards the pixel q: 1 where q is light, or where the picture has no pixel there
unfoldable pub side : List ℕ → Bool → ℕ → ℕ
side m there q = cond there (light m q) 1

-- [24.2] how many sides of the pixel p "face a light pixel or the picture's border": left, right, upper, lower. Sides
-- says it by `Touch` and `Dark`
unfoldable pub sides : List ℕ → ℕ → ℕ → ℕ
sides m w p =
    side m (ltb 0 (p % w)) (p - 1) + side m (ltb (p % w + 1) w) (p + 1) + side m (leb w p) (p - w)
    + side m (ltb (p + w) (length m)) (p + w)

-- [7.1] a patch is a whole class; [7.3] its record has area, sum of x, sum of y and the box x0, y0, x1, y1; [24.1] it
-- "gains its outline". t is the record of the class of the pixel a
pub record PatchOf (m : List ℕ) (w a : ℕ) (t : Blob) : Type 0 where
  pub marks : ℕ → ℕ
  pub marked : Marks marks (Joined m w a)
  pub area_is : t.area ≡ total one marks (length m)
  pub sx_is : t.sx ≡ total (column w) marks (length m)
  pub sy_is : t.sy ≡ total (row w) marks (length m)
  pub x0_is : Least (column w) (Joined m w a) t.x0
  pub y0_is : Least (row w) (Joined m w a) t.y0
  pub x1_is : Greatest (column w) (Joined m w a) t.x1
  pub y1_is : Greatest (row w) (Joined m w a) t.y1
  -- [24.2] "the count of its pixel sides that face a light pixel or the picture's border"
  pub outline_is : t.outline ≡ total (sides m w) marks (length m)

-- p is the first pixel of its patch in raster order
abbrev pub First : List ℕ → ℕ → ℕ → Type 0
First m w p = Dark m p × ((q : ℕ) → Joined m w p q → p ≤ q)

-- [7.1, 22.2] n is the number of patches of m: firsts are their first pixels, each once, and every dark pixel belongs
-- to the patch of one of them
pub record PatchCount (m : List ℕ) (w n : ℕ) : Type 0 where
  pub firsts : List ℕ
  pub many : length firsts ≡ n
  pub first : (j : ℕ) → j < n → First m w (get_or firsts j 0)
  pub ordered : (i j : ℕ) → i < j → j < n → get_or firsts i 0 < get_or firsts j 0
  pub every : (q : ℕ) → Dark m q → (j : ℕ) × (j < n) × Joined m w (get_or firsts j 0) q

-- ---- the list: eight numbers a record; [24.3] the outline is the eighth

abbrev pub record_length : ℕ
record_length = 8

unfoldable pub patch_at : List ℕ → ℕ → Blob
patch_at l j =
    let i = record_length * j in
    record {
      area = get_or l i 0;
      sx = get_or l (i + 1) 0;
      sy = get_or l (i + 2) 0;
      x0 = get_or l (i + 3) 0;
      y0 = get_or l (i + 4) 0;
      x1 = get_or l (i + 5) 0;
      y1 = get_or l (i + 6) 0;
      outline = get_or l (i + 7) 0;
    }

-- the list with record j written
unfoldable pub stored : List ℕ → ℕ → Blob → List ℕ
stored l j b =
    let i = record_length * j in
    set (set (set (set (set (set (set (set l i b.area) (i + 1) b.sx) (i + 2) b.sy) (i + 3) b.x0) (i + 4)
    b.y0) (i + 5) b.x1) (i + 6) b.y1) (i + 7) b.outline

-- [7.5, 25.5] limits of the highest number of pixels waiting: 0 without dark pixels, otherwise from 1 to the largest
-- area. Which number it is Moments says
abbrev pub Waited : List ℕ → ℕ → ℕ → Type 0
Waited l n waited = ((n ≡ 0) × (waited ≡ 0)) ⊎ ((1 ≤ waited) × ((j : ℕ) × (j < n) × (waited ≤ (patch_at l j).area)))

-- the area l of records becomes l', with n records; firsts are the patches' first pixels
pub record PatchList (m : List ℕ) (w : ℕ) (l l' : List ℕ) (n : ℕ) (firsts : List ℕ) : Type 0 where
  pub many : length firsts ≡ n
  pub long : length l' ≡ length l
  -- [7.4] patches stand by their first raster pixel
  pub first : (j : ℕ) → j < n → First m w (get_or firsts j 0)
  pub ordered : (i j : ℕ) → i < j → j < n → get_or firsts i 0 < get_or firsts j 0
  -- [0.4, 7.3] each record is that of all the dark pixels joined edge to edge
  pub records : (j : ℕ) → j < n → PatchOf m w (get_or firsts j 0) (patch_at l' j)
  -- [0.7] every patch once
  pub every : (q : ℕ) → Dark m q → (j : ℕ) × (j < n) × Joined m w (get_or firsts j 0) q
  -- [0.7] their areas add up to the dark pixels
  pub areas : total (λ j. (patch_at l' j).area) one n ≡ total one (ink m) (length m)
  -- [24.5] "summed over all patches, outlines equal the number of dark pixel sides facing light or border, counted
  -- straight from the mask"
  pub outlines : total (λ j. (patch_at l' j).outline) one n ≡ total (sides m w) (ink m) (length m)
  -- [3.1] ⌈w·h/2⌉ patch records are enough
  pub few : 2 * n ≤ length m + 1
  -- [3.2] records past the last stay as they were
  pub rest : drop (record_length * n) l' ≡ drop (record_length * n) l
