-- Pictures by their pixels: bytes that show the same colour everywhere are the same. Assumes nothing.
use mathlib.Core.Path.{◌≡◌, refl, sym, ap, ◌∙◌, subst}
use mathlib.Core.List.{List}
use Prim.Native.Nat.{ℕ, zero, suc, ◌+◌, ◌*◌, ◌/◌, ◌%◌, ◌≤◌, ◌<◌}
use native.Mathlib.Nat.{mul_assoc, mul_comm, mod-lt, div-add-mod', div-lt_iff_lt-mul}
use native.Mathlib.Omega.{arith}
use lib.Arith.{digits_div, digits_mod}
use lib.ListN.{length, get_or, set, length-set}
use lib.Seq.{get_or-set_same, get_or-set_other, ext_get_or}
use Rattle.base.specs.Loops.{filled, by_row}
use Rattle.base.proofs.Plane.{filled_at, length_filled, by_row_lem}
use Rattle.base.proofs.Arith.{row_in, product_le}
use Rattle.frame.specs.Image.{image, px, channel, byte_of, with_pixel}
use Rattle.frame.specs.declared.Rgb.{Rgb}

-- 3·w·h bytes are 3 for each pixel
pub bytes_of : (w h : ℕ) → 3 * w * h ≡ w * h * 3
bytes_of w h = mul_assoc 3 w h ∙ mul_comm 3 (w * h)

-- a picture's bytes are few
pub bytes_most : (w h : ℕ) → w ≤ 4096 → h ≤ 4096 → 3 * w * h ≤ 50331648
bytes_most w h a b = product_le (3 * w) h 12288 4096 (omega arith) b

-- the bytes of a pixel lie within
pub byte_in : (w h x y k : ℕ) → x < w → y < h → k < 3 → (y * w + x) * 3 + k < 3 * w * h
byte_in w h x y k a b d = omega (arith, row_in x y w h a b, bytes_of w h)

-- a place has one column and one row
pub place_column : (w x y x' y' : ℕ) → x < w → x' < w → y * w + x ≡ y' * w + x' → x ≡ x'
place_column w x y x' y' a b e = sym (digits_mod y a) ∙ ap (λ i. i % w) e ∙ digits_mod y' b

pub place_row : (w x y x' y' : ℕ) → x < w → x' < w → y * w + x ≡ y' * w + x' → y ≡ y'
place_row w x y x' y' a b e = sym (digits_div y a) ∙ ap (λ i. i / w) e ∙ digits_div y' b

-- a pixel's channels are its bytes
pub px_channel : (w h x y : ℕ) (l : List ℕ) (k : ℕ) → k < 3 → channel k (px (image w h l) x y) ≡ get_or l ((y * w + x) * 3 + k) 0
unfolding channel px
px_channel w h x y l zero a = let e : (y * w + x) * 3 ≡ (y * w + x) * 3 + 0 = omega arith in ap (λ i. get_or l i 0) e
px_channel w h x y l (suc zero) a = refl
px_channel w h x y l (suc (suc zero)) a = refl
px_channel w h x y l (suc (suc (suc k))) a = absurd (omega arith)

rgb_equal : (c d : Rgb) → c.r ≡ d.r → c.g ≡ d.g → c.b ≡ d.b → c ≡ d
rgb_equal c d p q s = λ i. record { r = p i; g = q i; b = s i }

-- a colour by its channels
pub by_channels : (c d : Rgb) → ((k : ℕ) → k < 3 → channel k c ≡ channel k d) → c ≡ d
unfolding channel
by_channels c d f = rgb_equal c d (f 0 (omega arith)) (f 1 (omega arith)) (f 2 (omega arith))

-- byte i of a pixel's place
pub byte_of_lem : (w : ℕ) (f : ℕ → ℕ → Rgb) (x y k : ℕ) → x < w → k < 3 → byte_of w f ((y * w + x) * 3 + k) ≡ channel k (f x y)
byte_of_lem w f x y k h b =
    ap (λ i. channel i (by_row w f (((y * w + x) * 3 + k) / 3))) (digits_mod (y * w + x) b)
    ∙ ap (λ i. channel k (by_row w f i)) (digits_div (y * w + x) b)
    ∙ ap (channel k) (by_row_lem f w x y h)

module _ (w h : ℕ) where
  -- the bytes b show f: the pixel in column x and row y has the colour f x y
  abbrev pub Shows : List ℕ → (ℕ → ℕ → Rgb) → Type 0
  Shows b f = (x y : ℕ) → x < w → y < h → px (image w h b) x y ≡ f x y

  -- bytes that show the same are the same
  pub same_bytes : (b d : List ℕ) → length b ≡ 3 * w * h → length d ≡ 3 * w * h → Shows b (px (image w h d)) → b ≡ d
  same_bytes b d p q s = ext_get_or 0 b d (p ∙ sym q) (λ i a. at i (subst (λ n. i < n) p a))
    where
      at : (i : ℕ) → i < 3 * w * h → get_or b i 0 ≡ get_or d i 0
      at i a =
          let j = i / 3 in
          let n : j < h * w = omega (arith, bytes_of w h, mul_comm w h) in
          let pos : 0 < w = positive w h j n in
          let x : j % w < w = mod-lt j pos in
          let y : j / w < h = (div-lt_iff_lt-mul pos).1 n in
          let e : (j / w * w + j % w) * 3 + i % 3 ≡ i = omega (arith, div-add-mod' j w) in
          let k : i % 3 < 3 = omega arith in
          ap (λ z. get_or b z 0) (sym e)
          ∙ sym (px_channel w h (j % w) (j / w) b (i % 3) k)
          ∙ ap (channel (i % 3)) (s (j % w) (j / w) x y)
          ∙ px_channel w h (j % w) (j / w) d (i % 3) k
          ∙ ap (λ z. get_or d z 0) e
        where
          positive : (w h j : ℕ) → j < h * w → 0 < w
          positive zero h j a = absurd (omega (arith, mul_comm h 0))
          positive (suc w) h j a = omega arith

  -- a whole picture by a function shows it
  pub filled_shows : (f : ℕ → ℕ → Rgb) (l : List ℕ) → length l ≡ 3 * w * h → Shows (filled (byte_of w f) (3 * w * h) l) f
  filled_shows f l e x y a b =
      by_channels _ _ (λ k d. px_channel w h x y (filled (byte_of w f) (3 * w * h) l) k d
      ∙ filled_at (byte_of w f) l (3 * w * h) ((y * w + x) * 3 + k) 0 (byte_in w h x y k a b d) (omega arith)
      ∙ byte_of_lem w f x y k a d)

  -- and is the only one that does
  pub shows_filled : (f : ℕ → ℕ → Rgb) (l b : List ℕ) → length l ≡ 3 * w * h → length b ≡ 3 * w * h → Shows b f → b ≡ filled (byte_of w f) (3 * w * h) l
  shows_filled f l b p q s =
      same_bytes b (filled (byte_of w f) (3 * w * h) l) q (length_filled (byte_of w f) l (3 * w * h) ∙ p)
      (λ x y a d. s x y a d ∙ sym (filled_shows f l p x y a d))

  -- ---- one pixel set

  pub length_pixel : (l : List ℕ) (x y : ℕ) (c : Rgb) → length (with_pixel (image w h l) x y c) ≡ length l
  unfolding with_pixel
  length_pixel l x y c = simp length-set

  module _ (l : List ℕ) (x y : ℕ) (c : Rgb) (fits : length l ≡ 3 * w * h) (hx : x < w) (hy : y < h) where
    pub pixel_same : px (image w h (with_pixel (image w h l) x y c)) x y ≡ c
    unfolding px with_pixel
    pixel_same =
        let i = (y * w + x) * 3 in
        let b0 = set l i c.r in
        let b1 = set b0 (i + 1) c.g in
        let n0 : i < length l = omega (arith, byte_in w h x y 0 hx hy (omega arith)) in
        let n1 : i + 1 < length b0 = simp length-set (omega (arith, byte_in w h x y 1 hx hy (omega arith))) in
        let n2 : i + 2 < length b1 = simp length-set (omega (arith, byte_in w h x y 2 hx hy (omega arith))) in
        rgb_equal _ _
        (get_or-set_other b1 (i + 2) i c.b 0 (λ e. omega arith) ∙ get_or-set_other b0 (i + 1) i c.g 0 (λ e. omega arith) ∙ get_or-set_same l i c.r 0 n0)
        (get_or-set_other b1 (i + 2) (i + 1) c.b 0 (λ e. omega arith) ∙ get_or-set_same b0 (i + 1) c.g 0 n1)
        (get_or-set_same b1 (i + 2) c.b 0 n2)

    pub pixel_other : (x' y' : ℕ) → x' < w → (x' ≡ x → y' ≡ y → ⊥) → px (image w h (with_pixel (image w h l) x y c)) x' y' ≡ px (image w h l) x' y'
    unfolding px with_pixel
    pixel_other x' y' a n =
        let i = (y * w + x) * 3 in
        let j = (y' * w + x') * 3 in
        let away : y' * w + x' ≡ y * w + x → ⊥ = λ e. n (place_column w x' y' x y a hx e) (place_row w x' y' x y a hx e) in
        let far : (k m : ℕ) → k < 3 → m < 3 → j + k ≡ i + m → ⊥ = λ k m p q e. away (omega arith) in
        rgb_equal _ _ (kept j (λ m q e. far 0 m (omega arith) q (omega arith))) (kept (j + 1) (λ m q e. far 1 m (omega arith) q e)) (kept (j + 2) (λ m q e. far 2 m (omega arith) q e))
      where
        kept : (z : ℕ) → ((m : ℕ) → m < 3 → z ≡ (y * w + x) * 3 + m → ⊥) → get_or (set (set (set l ((y * w + x) * 3) c.r) ((y * w + x) * 3
            + 1) c.g) ((y * w + x) * 3 + 2) c.b) z 0 ≡ get_or l z 0
        kept z f =
            let i = (y * w + x) * 3 in
            let b0 = set l i c.r in
            get_or-set_other (set b0 (i + 1) c.g) (i + 2) z c.b 0 (f 2 (omega arith))
            ∙ get_or-set_other b0 (i + 1) z c.g 0 (f 1 (omega arith))
            ∙ get_or-set_other l i z c.r 0 (λ e. f 0 (omega arith) (omega arith))
