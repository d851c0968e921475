-- The ring rule and the candidates (requirements, 8). m is the mask and luma the luma plane of a picture w
-- by h. Assumes nothing.
use Rattle.std.specs.Prelude.{ℕ, ◌+◌, ◌*◌, ◌-◌, ◌/◌, ◌<◌, min, ◌≡◌, Bool, true, false, cond, ◌&&◌, ◌||◌, List, [], ◌∷◌, ◌++◌, T, leb, ltb, eqb, length, get_or, drop, Float, Option, Some, None}
use Rattle.std.specs.Bool.{beq}
use Rattle.std.specs.Float.{nan}
use Rattle.std.specs.Float.Ieee.{lt, le}
use Rattle.float.specs.Floats.{◌⊕◌, ◌⊖◌, ◌⊗◌, ◌⊘◌, f64, d64, as_usize}
use Rattle.frame.specs.Image.{outside}
use Rattle.frame.specs.declared.Point.{Point}
use Rattle.blobs.specs.declared.Blob.{Blob}
use Rattle.candidates.specs.declared.Candidate.{Candidate}
use Rattle.candidates.specs.declared.Probe.{Probe}
use Rattle.candidates.specs.declared.Tally.{Tally}
use Rattle.candidates.specs.declared.Ring.{Ring}

-- the middle and the half width of a box along one side
abbrev pub middle : ℕ → ℕ → Float
middle lo hi = f64 (lo + hi) ⊘ f64 2

abbrev pub half_width : ℕ → ℕ → Float
half_width lo hi = f64 (hi - lo) ⊘ f64 2

-- the four probes at the fraction s of the half width
abbrev pub arms : Blob → Float → Bool → List Probe
arms t s dark =
    let cx = middle t.x0 t.x1 in
    let cy = middle t.y0 t.y1 in
    let dx = s ⊗ half_width t.x0 t.x1 in
    let dy = s ⊗ half_width t.y0 t.y1 in
    record { x = cx ⊕ dx; y = cy; dark = dark }
    ∷ record { x = cx ⊖ dx; y = cy; dark = dark }
    ∷ record { x = cx; y = cy ⊕ dy; dark = dark }
    ∷ record { x = cx; y = cy ⊖ dy; dark = dark }
    ∷ []

-- [8.2] seventeen probes as in `verify_bullseye`: the centre, then dot, white ring, black ring and quiet zone
unfoldable pub probes : Blob → List Probe
probes t =
    record { x = middle t.x0 t.x1; y = middle t.y0 t.y1; dark = true }
    ∷ arms t (d64 167 1000) true ++ arms t (d64 500 1000) false ++ arms t (d64 833 1000) true
    ++ arms t (d64 1167 1000) false

-- one probe, made at a pixel with the mask's entry e and the luma l
abbrev pub tallied : ℕ → Float → Bool → Tally → Tally
tallied e l dark s =
    let hit : ℕ = cond (beq (ltb 0 e) dark) 1 0 in
    cond dark
    (record {
      hits = s.hits + hit;
      made = s.made + 1;
      dark_sum = s.dark_sum ⊕ l;
      darks = s.darks + 1;
      light_sum = s.light_sum;
      lights = s.lights;
    })
    (record {
      hits = s.hits + hit;
      made = s.made + 1;
      dark_sum = s.dark_sum;
      darks = s.darks;
      light_sum = s.light_sum ⊕ l;
      lights = s.lights + 1;
    })

-- [8.2] those outside the picture are skipped
abbrev pub probe_step : List ℕ → List Float → ℕ → ℕ → Probe → Tally → Tally
probe_step m luma w h p s =
    let i = as_usize p.y * w + as_usize p.x in
    cond (outside w h p.x p.y) s (tallied (get_or m i 0) (get_or luma i nan) p.dark s)

unfoldable pub probed : List ℕ → List Float → ℕ → ℕ → List Probe → Tally → Tally
probed m luma w h [] s = s
probed m luma w h (p ∷ l) s = probed m luma w h l (probe_step m luma w h p s)

abbrev pub none_made : Tally
none_made = record { hits = 0; made = 0; dark_sum = f64 0; darks = 0; light_sum = f64 0; lights = 0 }

-- [8.3] fewer than 9 probes, or no dark or no light one, score 0; likewise light mean − dark mean below 30. Else it is
-- the share that agreed
unfoldable pub share_of : Tally → Float
share_of s =
    cond (ltb s.made 9 || eqb s.darks 0 || eqb s.lights 0) (f64 0)
    (cond (lt (s.light_sum ⊘ f64 s.lights ⊖ s.dark_sum ⊘ f64 s.darks) (f64 30)) (f64 0)
    (f64 s.hits ⊘ f64 s.made))

unfoldable pub ring_score : List ℕ → List Float → ℕ → ℕ → Blob → Float
ring_score m luma w h t = share_of (probed m luma w h (probes t) none_made)

-- [8.4] a score of at least 0.78 passes
unfoldable pub enough : Float → Bool
enough s = le (d64 78 100) s

-- the sides of a box, both ends counted
abbrev pub wide : Blob → ℕ
wide t = t.x1 - t.x0 + 1

abbrev pub high : Blob → ℕ
high t = t.y1 - t.y0 + 1

-- [8.1] area at least 32; box sides 10 to ⌊min(w,h)/4⌋; aspect 0.5 to 2.0 and fill 0.20 to 0.85, ends counted
unfoldable pub shaped : ℕ → ℕ → Blob → Bool
shaped w h t =
    let bw = f64 (wide t) in
    let bh = f64 (high t) in
    leb 32 t.area
    && (leb 10 (wide t) && leb (wide t) (min w h / 4))
    && (leb 10 (high t) && leb (high t) (min w h / 4))
    && (le (d64 5 10) (bw ⊘ bh) && le (bw ⊘ bh) (f64 2))
    && (le (d64 20 100) (f64 t.area ⊘ (bw ⊗ bh)) && le (f64 t.area ⊘ (bw ⊗ bh)) (d64 85 100))

-- [8.5] a patch passes the ring rule, and is a candidate, exactly when area, sides, aspect, fill and score all keep
-- these bounds
unfoldable pub passes : List ℕ → List Float → ℕ → ℕ → Blob → Bool
passes m luma w h t = shaped w h t && enough (ring_score m luma w h t)

-- [8.6] centre x is sum of x / area + 0.5, centre y likewise
unfoldable pub center : Blob → Point
center t = record { x = f64 t.sx ⊘ f64 t.area ⊕ d64 5 10; y = f64 t.sy ⊘ f64 t.area ⊕ d64 5 10 }

-- [8.6] size is half the sum of the box sides
unfoldable pub size_of : Blob → Float
size_of t = (f64 (wide t) ⊕ f64 (high t)) ⊘ f64 2

-- what `candidate_of` says of a patch: with centre, score and size where it passes
unfoldable pub ring_of : List ℕ → List Float → ℕ → ℕ → Blob → Option Ring
ring_of m luma w h t =
    let ring : Ring = record { center = center t; score = ring_score m luma w h t; size = size_of t } in
    cond (passes m luma w h t) (Some ring) None

-- [8.6] a candidate record, with its patch's place in the patch list from 0
unfoldable pub candidate_of : List ℕ → List Float → ℕ → ℕ → ℕ → Blob → Candidate
candidate_of m luma w h j t = record {
  center = center t;
  score = ring_score m luma w h t;
  size = size_of t;
  blob_index = j;
}

-- ---- the list: four floats a record, and the places beside them

abbrev pub candidate_length : ℕ
candidate_length = 4

unfoldable pub center_at : List Float → ℕ → Point
center_at c i = record { x = get_or c (candidate_length * i) nan; y = get_or c (candidate_length * i + 1) nan }

unfoldable pub candidate_at : List Float → List ℕ → ℕ → Candidate
candidate_at c places i =
    let j = candidate_length * i in
    record {
      center = center_at c i;
      score = get_or c (j + 2) nan;
      size = get_or c (j + 3) nan;
      blob_index = get_or places i 0;
    }

-- the areas c and p become c' and p', with k candidates among n patches t
pub record CandidateList (m : List ℕ) (luma : List Float) (w h : ℕ) (t : ℕ → Blob) (n : ℕ) (c : List Float)
    (p : List ℕ) (c' : List Float) (p' : List ℕ) (k : ℕ) : Type 0 where
  pub c_long : length c' ≡ length c
  pub p_long : length p' ≡ length p
  -- each is a patch of the list that passes
  pub listed : (i : ℕ) → i < k → get_or p' i 0 < n
  pub passing : (i : ℕ) → i < k → T (passes m luma w h (t (get_or p' i 0)))
  -- [8.7] candidates stand in patch order
  pub ordered : (i j : ℕ) → i < j → j < k → get_or p' i 0 < get_or p' j 0
  -- [2.18] all their records
  pub every : (j : ℕ) → j < n → T (passes m luma w h (t j)) → (i : ℕ) × (i < k) × (get_or p' i 0 ≡ j)
  pub records : (i : ℕ) → i < k → candidate_at c' p' i ≡ candidate_of m luma w h (get_or p' i 0) (t (get_or p' i 0))
  -- [3.2] records past the last stay as they were
  pub c_rest : drop (candidate_length * k) c' ≡ drop (candidate_length * k) c
  pub p_rest : drop k p' ≡ drop k p
