-- The Rust's search for patches as functions on values (geometry.rs, `label_blobs`): of the pixels waiting the newest
-- is taken first; its neighbours go on left, right, up, down, where they are dark and not yet marked, and are marked
-- as they go on. So marks, records and the most pixels that wait are functions of the mask. What the records mean is
-- in Patches; that they are these records is proved (proofs/Floods, proofs/Scans). Assumes nothing.
use Rattle.std.specs.Prelude.{ℕ, zero, suc, ◌+◌, ◌-◌, ◌/◌, ◌%◌, min, max, cond, List, [], ◌∷◌, ◌++◌, leb, ltb, eqb, length, get_or, set, replicate}
use Rattle.base.specs.Loops.{turns}
use Rattle.blobs.specs.declared.Blob.{Blob}
use Rattle.blobs.specs.Patches.{sides}

-- the marks, and the pixels waiting, newest first
pub record Marking : Type 0 where
  pub seen : List ℕ
  pub waiting : List ℕ

abbrev pub marking : List ℕ → List ℕ → Marking
marking s k = record { seen = s; waiting = k }

-- the lowest t entries of the waiting list as a stack, newest first
unfoldable pub stack_of : List ℕ → ℕ → List ℕ
stack_of k zero = []
stack_of k (suc t) = get_or k t 0 ∷ stack_of k t

-- ---- the four neighbours

-- the pixel q goes on where it is dark and not yet marked
unfoldable pub visit : List ℕ → ℕ → Marking → Marking
visit m q a =
    cond (eqb (get_or m q 0) 0) a (cond (eqb (get_or a.seen q 0) 0) (marking (set a.seen q 1) (q ∷ a.waiting)) a)

-- the neighbours of p: left, right, up, down (the mask's length is that of whole rows of w)
unfoldable pub visit_left : List ℕ → ℕ → ℕ → Marking → Marking
visit_left m w p a = cond (ltb 0 (p % w)) (visit m (p - 1) a) a

unfoldable pub visit_right : List ℕ → ℕ → ℕ → Marking → Marking
visit_right m w p a = cond (ltb (p % w + 1) w) (visit m (p + 1) a) a

unfoldable pub visit_up : List ℕ → ℕ → ℕ → Marking → Marking
visit_up m w p a = cond (leb w p) (visit m (p - w) a) a

unfoldable pub visit_down : List ℕ → ℕ → ℕ → Marking → Marking
visit_down m w p a = cond (ltb (p + w) (length m)) (visit m (p + w) a) a

unfoldable pub spread : List ℕ → ℕ → ℕ → Marking → Marking
spread m w p a = visit_down m w p (visit_up m w p (visit_right m w p (visit_left m w p a)))

-- ---- one patch

-- a record with one pixel more, in column x and row y, with s sides that count
unfoldable pub grow : Blob → ℕ → ℕ → ℕ → Blob
grow b x y s =
    record {
      area = b.area + 1;
      sx = b.sx + x;
      sy = b.sy + y;
      x0 = min b.x0 x;
      y0 = min b.y0 y;
      x1 = max b.x1 x;
      y1 = max b.y1 y;
      outline = b.outline + s;
    }

-- the record as it runs, and the most pixels that have waited
pub record Flooding : Type 0 where
  pub seen : List ℕ
  pub waiting : List ℕ
  pub blob : Blob
  pub waited : ℕ

abbrev pub flooding : List ℕ → List ℕ → Blob → ℕ → Flooding
flooding s k b d = record { seen = s; waiting = k; blob = b; waited = d }

-- no pixel counted; the box starts at the pixel a (in the Rust at the ends of the number range: after a's own turn
-- the two are equal)
unfoldable pub no_blob : ℕ → ℕ → Blob
no_blob w a = record { area = 0; sx = 0; sy = 0; x0 = a % w; y0 = a / w; x1 = a % w; y1 = a / w; outline = 0 }

-- the pixel a is marked, and waits alone
unfoldable pub begun : ℕ → ℕ → List ℕ → Flooding
begun w a s = flooding (set s a 1) (a ∷ []) (no_blob w a) 1

-- a turn takes the newest pixel; nothing where none waits
unfoldable pub take : List ℕ → ℕ → Flooding → List ℕ → Flooding
take m w f [] = f
take m w f (p ∷ k) =
    let a = spread m w p (marking f.seen k) in
    flooding a.seen a.waiting (grow f.blob (p % w) (p / w) (sides m w p)) (max f.waited
    (length a.waiting))

unfoldable pub flood_step : List ℕ → ℕ → ℕ → Flooding → Flooding
flood_step m w i f = take m w f f.waiting

-- a pixel goes on once, so as many turns as pixels are enough
unfoldable pub flood : List ℕ → ℕ → ℕ → List ℕ → Flooding
flood m w a s = turns (length m) (flood_step m w) (begun w a s)

-- ---- all patches

-- the marks, the records so far, and the most pixels that have waited
pub record Scanned : Type 0 where
  pub seen : List ℕ
  pub blobs : List Blob
  pub waited : ℕ

abbrev pub scanned : List ℕ → List Blob → ℕ → Scanned
scanned s l d = record { seen = s; blobs = l; waited = d }

abbrev pub listed : Scanned → Flooding → Scanned
listed s f = scanned f.seen (s.blobs ++ (f.blob ∷ [])) (max s.waited f.waited)

-- the pixel i starts a patch where it is dark and not yet marked
unfoldable pub scan : List ℕ → ℕ → ℕ → Scanned → Scanned
scan m w i s = cond (eqb (get_or m i 0) 0) s (cond (eqb (get_or s.seen i 0) 0) (listed s (flood m w i s.seen)) s)

unfoldable pub unmarked : List ℕ → Scanned
unmarked m = scanned (replicate (length m) 0) [] 0

-- the pixels in raster order
unfoldable pub scan_all : List ℕ → ℕ → Scanned
scan_all m w = turns (length m) (scan m w) (unmarked m)

-- [25.1] the highest number of pixels waiting, of the mask alone. What it means is in Moments
abbrev pub waited_of : List ℕ → ℕ → ℕ
waited_of m w = (scan_all m w).waited
