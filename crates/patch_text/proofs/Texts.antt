-- A text and the mask that it is. Assumes nothing.
use Prim.Native.Nat.{ℕ, zero, suc, ◌+◌, ◌-◌, ◌*◌, ◌/◌, ◌%◌, ◌≤◌, ◌<◌}
use native.Mathlib.Nat.{mod-lt, mod-eq_of_lt, div-add-mod', mul-le-mul, suc-mul, mul_comm, le_refl, add-zero, zero-mul}
use native.Mathlib.Decide.{dec_lt, ℕ_discrete}
use native.Mathlib.Omega.{arith}
use mathlib.Core.Path.{◌≡◌, refl, sym, ap, ap₂, ◌∙◌, subst}
use mathlib.Core.Bool.{true, false, cond, not, true≢false}
use mathlib.Core.List.{List, [], ◌∷◌, ◌++◌}
use mathlib.Core.Logic.{◌⊎◌, inl, inr, ⊎_elim}
use lib.Arith.{digits_div, digits_mod}
use lib.Dec.{eqb}
use lib.ListN.{length, get_or, length-append, get_or-append, get_or-eq_default}
use lib.Seq.{ext_get_or, get_or_at}
use borrow.Author.Tests.{eqb-true, eq-eqb, ne_eqb, le-leb}
use Rattle.base.specs.Loops.{table, by_row, every}
use Rattle.frame.specs.Refusals.{side, sides_wrong}
use Rattle.base.proofs.Pick.{pick_yes, pick_no, cond_elim}
use Rattle.base.proofs.Tests.{and_both, or_cases}
use Rattle.base.proofs.Every.{every_one, one_every}
use Rattle.base.proofs.Table.{table_at, length_table}
use Rattle.patch_text.specs.Text.{hash, dot, feed, letter, byte_at, mask_text, Reads}
use Rattle.patch_text.specs.Steps.{FirstFeed, closed_length, placed, placed_at, pixel_of, pixel_at}

-- ---- one byte
module _ (w : ℕ) (m : List ℕ) where
  abbrev byte : ℕ → ℕ
  byte k = by_row (w + 1) (byte_at w m) k

  pub byte_feed : (k : ℕ) → k % (w + 1) ≡ w → byte k ≡ feed
  unfolding by_row byte_at
  byte_feed k e = sym (pick_yes (eqb (k % (w + 1)) w) feed _ (eq-eqb (k % (w + 1)) w e))

  pub byte_letter : (k : ℕ) → (k % (w + 1) ≡ w → ⊥) → byte k ≡ letter (get_or m (k / (w + 1) * w + k % (w + 1)) 0)
  unfolding by_row byte_at
  byte_letter k o = sym (pick_no (eqb (k % (w + 1)) w) feed _ (ne_eqb (k % (w + 1)) w o))

letter_cases : (n : ℕ) → (letter n ≡ hash) ⊎ (letter n ≡ dot)
unfolding letter
letter_cases zero = inr refl
letter_cases (suc n) = inl refl

letter_not_feed : (n : ℕ) → letter n ≡ feed → ⊥
unfolding letter
letter_not_feed zero e = omega arith
letter_not_feed (suc n) e = omega arith

-- what `placed` says
placed_feed : (w x c : ℕ) → placed w x c ≡ true → x ≡ w → c ≡ feed
unfolding placed
placed_feed w x c e h = eqb-true c feed (pick_yes (eqb x w) (eqb c feed) _ (eq-eqb x w h) ∙ e)

placed_letter : (w x c : ℕ) → placed w x c ≡ true → (x ≡ w → ⊥) → (c ≡ hash) ⊎ (c ≡ dot)
unfolding placed
placed_letter w x c e o =
    ⊎_elim (λ t. inl (eqb-true c hash t)) (λ t. inr (eqb-true c dot t)) (or_cases (eqb c hash) (eqb c dot) (pick_no (eqb x w) (eqb c feed) _ (ne_eqb x w o) ∙ e))

feed_placed : (w x c : ℕ) → x ≡ w → c ≡ feed → placed w x c ≡ true
unfolding placed
feed_placed w x c h e = sym (pick_yes (eqb x w) (eqb c feed) _ (eq-eqb x w h)) ∙ eq-eqb c feed e

letter_placed : (w x n : ℕ) → (x ≡ w → ⊥) → placed w x (letter n) ≡ true
unfolding placed letter
letter_placed w x zero o = sym (pick_no (eqb x w) (eqb (letter zero) feed) _ (ne_eqb x w o))
letter_placed w x (suc n) o = sym (pick_no (eqb x w) (eqb (letter (suc n)) feed) _ (ne_eqb x w o))

-- the letter of a pixel that was read from a letter
pixel_letter : (c : ℕ) → (c ≡ hash) ⊎ (c ≡ dot) → c ≡ letter (pixel_of c)
unfolding letter pixel_of
pixel_letter c (inl e) = rw e
pixel_letter c (inr e) = rw e

-- ---- what a text that is a mask has
module _ {b : List ℕ} {w h : ℕ} {m : List ℕ} (r : Reads b w h m) where
  at_byte : (k : ℕ) → k < length b → get_or b k 0 ≡ by_row (w + 1) (byte_at w m) k
  unfolding mask_text
  at_byte k l = ⊎_elim whole lacks r.text
    where
      f : ℕ → ℕ
      f k = by_row (w + 1) (byte_at w m) k

      whole : b ≡ table (by_row (w + 1) (byte_at w m)) (h * (w + 1)) → get_or b k 0 ≡ by_row (w + 1) (byte_at w m) k
      whole e =
          ap (λ x. get_or x k 0) e
          ∙ table_at (by_row (w + 1) (byte_at w m)) (h * (w + 1)) k 0 (omega (arith, ap length e, length_table (by_row (w + 1) (byte_at w m)) (h * (w + 1))))

      lacks : b ++ (feed ∷ []) ≡ table (by_row (w + 1) (byte_at w m)) (h * (w + 1)) → get_or b k 0 ≡ by_row (w + 1) (byte_at w m) k
      lacks e =
          sym (get_or-append b (feed ∷ []) 0 k l)
          ∙ ap (λ x. get_or x k 0) e
          ∙ table_at (by_row (w + 1) (byte_at w m)) (h * (w + 1)) k 0
          (omega (arith, ap length e, length-append b (feed ∷ []), length_table (by_row (w + 1) (byte_at w m)) (h * (w + 1))))

  -- the length, with or without the last line feed
  sizes : (length b ≡ h * (w + 1)) ⊎ (length b + 1 ≡ h * (w + 1))
  unfolding mask_text
  sizes =
      ⊎_elim (λ e. inl (ap length e ∙ length_table (by_row (w + 1) (byte_at w m)) (h * (w + 1))))
      (λ e. inr (sym (length-append b (feed ∷ [])) ∙ ap length e ∙ length_table (by_row (w + 1) (byte_at w m)) (h * (w + 1)))) r.text

  line : w + 1 ≤ h * (w + 1)
  line = omega (arith, mul-le-mul r.high (le_refl (w + 1)))

  -- a text has at least its first line's letters
  long_line : w ≤ length b
  long_line = ⊎_elim (λ e. omega (arith, line)) (λ e. omega (arith, line)) sizes

  -- and at most 64 lines of 65 bytes
  pub not_long : length b ≤ 4160
  not_long = let p : h * (w + 1) ≤ 64 * 65 = mul-le-mul {m₂ = 65} r.low (omega (arith, r.narrow)) in ⊎_elim (λ e. omega arith) (λ e. omega arith) sizes

  first_letter : (k : ℕ) → k < w → get_or b k 0 ≡ feed → ⊥
  first_letter k l e =
      let x : k % (w + 1) ≡ k = mod-eq_of_lt (omega arith) in
      letter_not_feed _ (sym (byte_letter w m k (λ g. omega arith)) ∙ sym (at_byte k (omega (arith, long_line))) ∙ e)

  first_feed : w < length b → get_or b w 0 ≡ feed
  first_feed l = at_byte w l ∙ byte_feed w m w (mod-eq_of_lt (omega arith))

  -- the first line feed ends the first line
  pub first_is : (k : ℕ) → FirstFeed b k → k ≡ w
  first_is k f = go (dec_lt k w) (dec_lt w k)
    where
      go : Dec (k < w) → Dec (w < k) → k ≡ w
      go (yes l) d = absurd (first_letter k l (f.found (omega (arith, long_line))))
      go (no o) (yes l) = absurd (f.before w l (first_feed (omega (arith, f.within))))
      go (no o) (no p) = omega arith

  -- each byte stands where it may
  pub placed_all : (k : ℕ) → k < length b → placed_at b w k ≡ true
  unfolding placed_at
  placed_all k l = go (ℕ_discrete (k % (w + 1)) w)
    where
      go : Dec (k % (w + 1) ≡ w) → placed w (k % (w + 1)) (get_or b k 0) ≡ true
      go (yes e) = feed_placed w (k % (w + 1)) (get_or b k 0) e (at_byte k l ∙ byte_feed w m k e)
      go (no o) = ap (placed w (k % (w + 1))) (at_byte k l ∙ byte_letter w m k o) ∙ letter_placed w (k % (w + 1)) _ o

  some : 1 ≤ length b
  some = omega (arith, long_line, r.wide)

  -- its length with the last line feed
  pub closed_is : closed_length b ≡ h * (w + 1)
  unfolding closed_length
  closed_is = ⊎_elim whole lacks sizes
    where
      last : (c : ℕ) → c < w + 1 → length b ≡ (h - 1) * (w + 1) + (c + 1) → (length b - 1) % (w + 1) ≡ c
      last c l e = let g : length b - 1 ≡ (h - 1) * (w + 1) + c = omega arith in ap (λ x. x % (w + 1)) g ∙ digits_mod (h - 1) l

      rows : h * (w + 1) ≡ (h - 1) * (w + 1) + (w + 1)
      rows = ap (λ x. x * (w + 1)) (omega (arith, r.high)) ∙ suc-mul (h - 1) (w + 1)

      whole : length b ≡ h * (w + 1) → cond (eqb (get_or b (length b - 1) 0) feed) (length b) (length b + 1) ≡ h * (w + 1)
      whole e =
          let c : (length b - 1) % (w + 1) ≡ w = last w (omega arith) (e ∙ rows) in
          sym (pick_yes (eqb (get_or b (length b - 1) 0) feed) (length b) (length b + 1) (eq-eqb _ feed (at_byte (length b - 1) (omega (arith, some)) ∙ byte_feed w m (length b - 1) c))) ∙ e

      lacks : length b + 1 ≡ h * (w + 1) → cond (eqb (get_or b (length b - 1) 0) feed) (length b) (length b + 1) ≡ h * (w + 1)
      lacks e =
          let c : (length b - 1) % (w + 1) ≡ w - 1 = last (w - 1) (omega arith) (omega (arith, e, rows, r.wide)) in
          let o : (length b - 1) % (w + 1) ≡ w → ⊥ = λ g. omega (arith, r.wide) in
          sym (pick_no (eqb (get_or b (length b - 1) 0) feed) (length b) (length b + 1) (ne_eqb _ feed (λ g. letter_not_feed _
          (sym (byte_letter w m (length b - 1) o) ∙ sym (at_byte (length b - 1) (omega (arith, some))) ∙ g)))) ∙ e

-- ---- the mask that a text is
module _ (b : List ℕ) (w h : ℕ) (wide : 1 ≤ w) (narrow : w ≤ 64) (high : 1 ≤ h) (low : h ≤ 64) (whole : closed_length b
    ≡ h * (w + 1)) (right : (k : ℕ) → k < length b → placed_at b w k ≡ true) where
  abbrev pixels : List ℕ
  pixels = table (pixel_at b w) (w * h)

  -- the text with its last line feed, c, agrees with b and has a line feed at its end
  module _ (c : List ℕ) (long : length c ≡ h * (w + 1)) (same : (k : ℕ) → k < length b → get_or c k 0 ≡ get_or b k 0) (last : (k : ℕ)
      → length b ≤ k → k < length c → (get_or c k 0 ≡ feed) × (k + 1 ≡ h * (w + 1))) where
    rows : h * (w + 1) ≡ (h - 1) * (w + 1) + (w + 1)
    rows = ap (λ x. x * (w + 1)) (omega arith) ∙ suc-mul (h - 1) (w + 1)

    last_column_lem : (k : ℕ) → k + 1 ≡ h * (w + 1) → k % (w + 1) ≡ w
    last_column_lem k e = let g : k ≡ (h - 1) * (w + 1) + w = omega (arith, rows) in ap (λ x. x % (w + 1)) g ∙ digits_mod (h - 1) (omega arith)

    good : (k : ℕ) → k < length c → placed w (k % (w + 1)) (get_or c k 0) ≡ true
    good k l = go (dec_lt k (length b))
      where
        go : Dec (k < length b) → placed w (k % (w + 1)) (get_or c k 0) ≡ true
        go (yes y) = ap (placed w (k % (w + 1))) (same k y) ∙ unfold placed_at in right k y
        go (no o) = let x = last k (omega arith) l in feed_placed w (k % (w + 1)) (get_or c k 0) (last_column_lem k x.1) x.0

    -- a letter stands in b
    inside : (k : ℕ) → k < length c → (k % (w + 1) ≡ w → ⊥) → k < length b
    inside k l o = go (dec_lt k (length b))
      where
        go : Dec (k < length b) → k < length b
        go (yes y) = y
        go (no p) = absurd (o (last_column_lem k (last k (omega arith) l).1))

    -- and its pixel is read from it
    place : (x y : ℕ) → x < w → (y * w + x) / w * (w + 1) + (y * w + x) % w ≡ y * (w + 1) + x
    place x y l = ap (λ z. z * (w + 1) + (y * w + x) % w) (digits_div y l) ∙ ap (λ z. y * (w + 1) + z) (digits_mod y l)

    in_mask : (x y : ℕ) → x < w → y < h → y * w + x < w * h
    in_mask x y l g = omega (arith, mul-le-mul g (le_refl w), suc-mul y w, mul_comm h w)

    pixel : (k : ℕ) → k < length c → (k % (w + 1) ≡ w → ⊥) → get_or pixels (k / (w + 1) * w + k % (w + 1)) 0 ≡ pixel_of (get_or b k 0)
    unfolding pixel_at
    pixel k l o =
        let x : ℕ = k % (w + 1) in
        let y : ℕ = k / (w + 1) in
        let e : y * (w + 1) + x ≡ k = div-add-mod' k (w + 1) in
        let xl : x < w = omega (arith, mod-lt k {m = w + 1} (omega arith)) in
        let yl : y < h = row_of k (omega (arith, long)) in
        table_at (pixel_at b w) (w * h) (y * w + x) 0 (in_mask x y xl yl) ∙ ap (λ i. pixel_of (get_or b i 0)) (place x y xl ∙ e)
      where
        row_of : (k : ℕ) → k < h * (w + 1) → k / (w + 1) < h
        row_of k l = go (dec_lt (k / (w + 1)) h)
          where
            lower : (k / (w + 1) < h → ⊥) → h ≤ k / (w + 1)
            lower o = omega arith

            go : Dec (k / (w + 1) < h) → k / (w + 1) < h
            go (yes y) = y
            go (no o) = absurd (omega (arith, div-add-mod' k (w + 1), mul-le-mul (lower o) (le_refl (w + 1))))

    c_is : c ≡ mask_text w h pixels
    unfolding mask_text
    c_is =
        ext_get_or 0 c (table (by_row (w + 1) (byte_at w pixels)) (h * (w + 1))) (long ∙ sym (length_table (by_row (w + 1) (byte_at w pixels)) (h * (w + 1))))
        (λ k l. one k l (ℕ_discrete (k % (w + 1)) w) ∙ sym (table_at (by_row (w + 1) (byte_at w pixels)) (h * (w + 1)) k 0 (omega (arith, long))))
      where
        one : (k : ℕ) → k < length c → Dec (k % (w + 1) ≡ w) → get_or c k 0 ≡ by_row (w + 1) (byte_at w pixels) k
        one k l (yes e) = placed_feed w (k % (w + 1)) (get_or c k 0) (good k l) e ∙ sym (byte_feed w pixels k e)
        one k l (no o) =
            let i : k < length b = inside k l o in
            pixel_letter (get_or c k 0) (placed_letter w (k % (w + 1)) (get_or c k 0) (good k l) o)
            ∙ ap (λ z. letter (pixel_of z)) (same k i)
            ∙ ap letter (sym (pixel k l o))
            ∙ sym (byte_letter w pixels k o)

  flag : (q : ℕ) → get_or pixels q 0 ≤ 1
  unfolding pixel_at pixel_of
  flag q = go (dec_lt q (w * h))
    where
      go : Dec (q < w * h) → get_or pixels q 0 ≤ 1
      go (yes y) =
          subst (λ z. z ≤ 1) (sym (table_at (pixel_at b w) (w * h) q 0 y))
          (cond_elim (λ z. z ≤ 1) (eqb (get_or b (q / w * (w + 1) + q % w) 0) hash) 1 0 (λ e. omega arith) (λ e. omega arith))
      go (no o) = let z : get_or pixels q 0 ≡ 0 = get_or-eq_default pixels 0 (omega (arith, length_table (pixel_at b w) (w * h))) in omega arith

  text' : (b ≡ mask_text w h pixels) ⊎ (b ++ (feed ∷ []) ≡ mask_text w h pixels)
  unfolding closed_length
  text' = go (ℕ_discrete (get_or b (length b - 1) 0) feed)
    where
      added : length (b ++ (feed ∷ [])) ≡ length b + 1
      added = length-append b (feed ∷ [])

      go : Dec (get_or b (length b - 1) 0 ≡ feed) → (b ≡ mask_text w h pixels) ⊎ (b ++ (feed ∷ []) ≡ mask_text w h pixels)
      go (yes e) =
          let l : length b ≡ h * (w + 1) = pick_yes (eqb (get_or b (length b - 1) 0) feed) (length b) (length b + 1) (eq-eqb _ feed e) ∙ whole in
          inl (c_is b l (λ k x. refl) (λ k x y. absurd (omega arith)))
      go (no o) =
          let l : length b + 1 ≡ h * (w + 1) = pick_no (eqb (get_or b (length b - 1) 0) feed) (length b) (length b + 1) (ne_eqb _ feed o) ∙ whole in
          inr
          (c_is (b ++ (feed ∷ [])) (added ∙ l) (λ k x. get_or-append b (feed ∷ []) 0 k x)
          (λ k x y. let g : length b ≡ k = omega (arith, added) in (get_or_at b feed [] 0 k g, omega arith)))

  pub reads_is : Reads b w h pixels
  reads_is = record { wide = wide; narrow = narrow; high = high; low = low; long = length_table (pixel_at b w) (w * h); flags = flag; text = text' }

-- ---- the place of pixel i in the text
pub row_below : (i w h : ℕ) → 1 ≤ w → i < w * h → i / w < h
row_below i w h o l = go (dec_lt (i / w) h)
  where
    lower : (i / w < h → ⊥) → h ≤ i / w
    lower n = omega arith

    go : Dec (i / w < h) → i / w < h
    go (yes y) = y
    go (no n) = absurd (omega (arith, div-add-mod' i w, mul-le-mul (lower n) (le_refl w), mul_comm w h))

pub place_in : (i w h z : ℕ) → 1 ≤ w → w ≤ 64 → h ≤ 64 → h * (w + 1) ≤ z + 1 → i < w * h → (i / w * (w + 1) + i % w < z) × (i / w * (w + 1) ≤ 4160) × (i % w ≤ 64)
place_in i w h z o n p q l =
    let y : i / w < h = row_below i w h o l in
    let x : i % w < w = mod-lt i o in
    let r : suc (i / w) * (w + 1) ≤ h * (w + 1) = mul-le-mul y (le_refl (w + 1)) in
    let t : h * (w + 1) ≤ 64 * 65 = mul-le-mul {m₂ = 65} p (omega arith) in
    (omega (arith, suc-mul (i / w) (w + 1)), omega (arith, suc-mul (i / w) (w + 1)), omega arith)

-- ---- the size of a text, by its first line feed and its length

-- the text is no mask
abbrev pub NoMask : List ℕ → Type 0
NoMask b = (w h : ℕ) (m : List ℕ) → Reads b w h m → ⊥

closed_some : (b : List ℕ) → length b ≤ closed_length b
unfolding closed_length
closed_some b = cond_elim (λ z. length b ≤ z) (eqb (get_or b (length b - 1) 0) feed) (length b) (length b + 1) (λ e. omega arith) (λ e. omega arith)

module _ (b : List ℕ) (r : ℕ) (f : FirstFeed b r) where
  pub no_line : r ≡ 0 → NoMask b
  no_line e w h m x = omega (arith, first_is x r f, x.wide)

  pub wide_line : 64 < r → NoMask b
  wide_line l w h m x = omega (arith, first_is x r f, x.narrow)

  module _ (z : ℕ) (e : z ≡ closed_length b) where
    even : (w h : ℕ) (m : List ℕ) → Reads b w h m → z ≡ h * (r + 1) + 0
    even w h m x = e ∙ closed_is x ∙ ap (λ n. h * (n + 1)) (sym (first_is x r f)) ∙ sym (add-zero (h * (r + 1)))

    pub uneven : (z % (r + 1) ≡ 0 → ⊥) → NoMask b
    uneven o w h m x = o (ap (λ n. n % (r + 1)) (even w h m x) ∙ digits_mod h (omega arith))

    pub many_lines : 64 < z / (r + 1) → NoMask b
    many_lines l w h m x = let d : z / (r + 1) ≡ h = ap (λ n. n / (r + 1)) (even w h m x) ∙ digits_div h (omega arith) in omega (arith, x.low)

    pub unlettered : every (length b) (placed_at b r) ≡ false → NoMask b
    unlettered n w h m x =
        let t = one_every (placed_at b r) (length b) (λ k l. ap (λ i. placed_at b i k) (first_is x r f) ∙ placed_all x k l) in
        true≢false (sym t ∙ n)

    pub lettered_mask : 1 ≤ r → r ≤ 64 → z % (r + 1) ≡ 0 → z / (r + 1) ≤ 64 → every (length b) (placed_at b r) ≡ true
        → Reads b r (z / (r + 1)) (table (pixel_at b r) (r * (z / (r + 1))))
    lettered_mask a c d g t = reads_is b r (z / (r + 1)) a c high g (sym e ∙ whole) (λ k l. every_one (placed_at b r) (length b) t k l)
      where
        whole : z ≡ z / (r + 1) * (r + 1)
        whole = omega (arith, div-add-mod' z (r + 1))

        high : 1 ≤ z / (r + 1)
        high = go (dec_lt 0 (z / (r + 1)))
          where
            go : Dec (0 < z / (r + 1)) → 1 ≤ z / (r + 1)
            go (yes y) = y
            go (no o) =
                let q : z / (r + 1) ≡ 0 = omega arith in
                let n : z ≡ 0 = whole ∙ ap (λ i. i * (r + 1)) q ∙ zero-mul (r + 1) in
                absurd (omega (arith, closed_some b, f.within))

-- ---- what the program asks of a text that is a mask
pub reads_length : {b : List ℕ} {w h : ℕ} {m : List ℕ} → Reads b w h m → h * (w + 1) ≤ length b + 1
reads_length r = ⊎_elim (λ e. omega arith) (λ e. omega arith) (sizes r)

pub reads_area : {b : List ℕ} {w h : ℕ} {m : List ℕ} → Reads b w h m → w * h ≤ 4096
reads_area r = mul-le-mul {n₂ = 64} {m₂ = 64} r.narrow r.low

pub reads_sides : {b : List ℕ} {w h : ℕ} {m : List ℕ} → Reads b w h m → sides_wrong w h ≡ false
unfolding sides_wrong side
reads_sides {b} {w} {h} r =
    ap not
    (and_both _ _ (and_both _ _ (le-leb 1 w r.wide) (le-leb w 4096 (omega (arith, r.narrow)))) (and_both _ _ (le-leb 1 h r.high) (le-leb h 4096 (omega (arith, r.low)))))

-- ---- a text is one mask
letter_one : (a b : ℕ) → a ≤ 1 → b ≤ 1 → letter a ≡ letter b → a ≡ b
unfolding letter
letter_one zero zero h k e = refl
letter_one zero (suc b) h k e = absurd (omega arith)
letter_one (suc a) zero h k e = absurd (omega arith)
letter_one (suc a) (suc b) h k e = omega arith

module _ {b : List ℕ} {w h : ℕ} {m : List ℕ} (r : Reads b w h m) where
  its_feed : FirstFeed b w
  its_feed = record { within = long_line r; before = first_letter r; found = first_feed r }

  -- the letter of pixel q
  its_letter : (q : ℕ) → q < w * h → get_or b (q / w * (w + 1) + q % w) 0 ≡ letter (get_or m q 0)
  its_letter q l =
      let x : q % w < w = mod-lt q r.wide in
      let xl : q % w < w + 1 = omega arith in
      let k : ℕ = q / w * (w + 1) + q % w in
      let c : k % (w + 1) ≡ q % w = digits_mod (q / w) xl in
      let i : k < length b = (place_in q w h (length b) r.wide r.narrow r.low (reads_length r) l).0 in
      at_byte r k i
      ∙ byte_letter w m k (λ e. omega arith)
      ∙ ap (λ n. letter (get_or m n 0)) (ap₂ (λ y z. y * w + z) (digits_div (q / w) xl) c ∙ div-add-mod' q w)

pub reads_unique : {b : List ℕ} {w h w' h' : ℕ} {m m' : List ℕ} → Reads b w h m → Reads b w' h' m' → (w ≡ w') × (h ≡ h') × (m ≡ m')
reads_unique {b} {w} {h} {w'} {h'} {m} {m'} r s = (ew, eh, em)
  where
    ew : w ≡ w'
    ew = first_is s w (its_feed r)

    row_count : (h w : ℕ) → h * (w + 1) / (w + 1) ≡ h
    row_count h w = ap (λ n. n / (w + 1)) (sym (add-zero (h * (w + 1)))) ∙ digits_div h (omega arith)

    eh : h ≡ h'
    eh = sym (row_count h w) ∙ ap (λ n. n / (w + 1)) (sym (closed_is r) ∙ closed_is s) ∙ ap (λ n. h' * (w' + 1) / (n + 1)) ew ∙ row_count h' w'

    area : length m ≡ length m'
    area = r.long ∙ ap₂ ◌*◌ ew eh ∙ sym s.long

    em : m ≡ m'
    em =
        ext_get_or 0 m m' area
        (λ q l.
        letter_one (get_or m q 0) (get_or m' q 0) (r.flags q) (s.flags q)
        (sym (its_letter r q (omega (arith, r.long))) ∙ ap (λ n. get_or b (q / n * (n + 1) + q % n) 0) ew ∙ its_letter s q (omega (arith, s.long, area))))
