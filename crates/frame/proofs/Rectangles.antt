-- Rectangles of one colour, row by row and pixel by pixel. Assumes nothing.
use mathlib.Core.Path.{◌≡◌, ap, ◌∙◌}
use mathlib.Core.Bool.{true, cond, ◌&&◌, ◌||◌}
use mathlib.Core.List.{List}
use mathlib.Core.Logic.{⊎_elim}
use Prim.Native.Nat.{ℕ, ◌+◌, ◌*◌, ◌-◌, ◌≤◌, ◌<◌}
use native.Mathlib.Omega.{arith}
use lib.Dec.{leb, ltb, eqb}
use lib.ListN.{length}
use borrow.Author.Tests.{leb-true, ltb-true, eqb-true, eqb-false, le-leb, lt-ltb}
use Rattle.base.proofs.Plane.{length_filled}
use Rattle.frame.specs.Image.{image, px, with_pixel, in_rect, with_rect}
use Rattle.frame.specs.declared.Rgb.{Rgb}
use Rattle.base.proofs.Tests.{and_left, and_right, and_both, same_test, cond_or, either, or_cases, or_first, or_second}
use Rattle.frame.proofs.Pixels.{Shows, filled_shows, shows_filled, length_pixel, pixel_same, pixel_other}
use Rattle.base.proofs.Pick.{pick_yes, pick_no}
use Rattle.base.proofs.Arith.{le_or_lt}

-- a rectangle's test is its four bounds
pub record Within (x0 y0 width height x y : ℕ) : Type 0 where
  pub left : x0 ≤ x
  pub right : x < x0 + width
  pub top : y0 ≤ y
  pub bottom : y < y0 + height

pub rect_within : (x0 y0 width height x y : ℕ) → in_rect x0 y0 width height x y ≡ true → Within x0 y0 width height x y
unfolding in_rect
rect_within x0 y0 width height x y e =
    let a = and_left _ (ltb y (y0 + height)) e in
    let b = and_left _ (leb y0 y) a in
    record {
      left = leb-true _ _ (and_left _ (ltb x (x0 + width)) b);
      right = ltb-true _ _ (and_right (leb x0 x) _ b);
      top = leb-true _ _ (and_right (leb x0 x && ltb x (x0 + width)) _ a);
      bottom = ltb-true _ _ (and_right (leb x0 x && ltb x (x0 + width) && leb y0 y) _ e);
    }

pub within_rect : (x0 y0 width height x y : ℕ) → Within x0 y0 width height x y → in_rect x0 y0 width height x y ≡ true
unfolding in_rect
within_rect x0 y0 width height x y r =
    and_both _ _ (and_both _ _ (and_both _ _ (le-leb _ _ r.left) (lt-ltb _ _ r.right)) (le-leb _ _ r.top)) (lt-ltb _ _ r.bottom)

pub painted_length : (w h : ℕ) (l : List ℕ) (x0 y0 width height : ℕ) (c : Rgb) → length (with_rect (image w h l) x0 y0 width height c) ≡ length l
unfolding with_rect
painted_length w h l x0 y0 width height c = length_filled _ l (3 * w * h)

-- the rectangle's colour within it, and what was there elsewhere
pub painted_shows : (w h : ℕ) (l : List ℕ) → length l ≡ 3 * w * h → (x0 y0 width height : ℕ) (c : Rgb)
    → Shows w h (with_rect (image w h l) x0 y0 width height c) (λ x y. cond (in_rect x0 y0 width height x y) c (px (image w h l) x y))
unfolding with_rect
painted_shows w h l fits x0 y0 width height c = filled_shows w h _ l fits

module _ (w h : ℕ) (l : List ℕ) (fits : length l ≡ 3 * w * h) where
  pub length_rect : (x0 y0 width height : ℕ) (c : Rgb) → length (with_rect (image w h l) x0 y0 width height c) ≡ length l
  length_rect = painted_length w h l

  pub rect_shows : (x0 y0 width height : ℕ) (c : Rgb) → Shows w h (with_rect (image w h l) x0 y0 width height c) (λ x y. cond (in_rect x0 y0 width height x y) c (px (image w h l) x y))
  rect_shows = painted_shows w h l fits

  pub shows_rect : (x0 y0 width height : ℕ) (c : Rgb) (b : List ℕ) → length b ≡ 3 * w * h
      → Shows w h b (λ x y. cond (in_rect x0 y0 width height x y) c (px (image w h l) x y)) → b ≡ with_rect (image w h l) x0 y0 width height c
  unfolding with_rect
  shows_rect x0 y0 width height c b e s = shows_filled w h _ l b fits e s

  -- nothing is painted by an empty one
  pub rect_empty : (x0 y0 width height : ℕ) (c : Rgb) → ((x y : ℕ) → Within x0 y0 width height x y → ⊥) → l ≡ with_rect (image w h l) x0 y0 width height c
  rect_empty x0 y0 width height c n =
      shows_rect x0 y0 width height c l fits
      (λ x y a b. ⊎_elim
      (λ e. absurd (n x y (rect_within x0 y0 width height x y e)))
      (λ e. pick_no _ c (px (image w h l) x y) e)
      (either (in_rect x0 y0 width height x y)))

  -- two that cover the same pixels of the picture
  pub rect_same : (x0 y0 width height x1 y1 width' height' : ℕ) (c : Rgb)
      → ((x y : ℕ) → x < w → y < h → Within x0 y0 width height x y → Within x1 y1 width' height' x y)
      → ((x y : ℕ) → x < w → y < h → Within x1 y1 width' height' x y → Within x0 y0 width height x y)
      → with_rect (image w h l) x0 y0 width height c ≡ with_rect (image w h l) x1 y1 width' height' c
  rect_same x0 y0 width height x1 y1 width' height' c f g =
      shows_rect x1 y1 width' height' c (with_rect (image w h l) x0 y0 width height c) (length_rect x0 y0 width height c ∙ fits)
      (λ x y a b. rect_shows x0 y0 width height c x y a b
      ∙ ap (λ t. cond t c (px (image w h l) x y))
      (same_test (in_rect x0 y0 width height x y) (in_rect x1 y1 width' height' x y)
      (λ e. within_rect x1 y1 width' height' x y (f x y a b (rect_within x0 y0 width height x y e)))
      (λ e. within_rect x0 y0 width height x y (g x y a b (rect_within x1 y1 width' height' x y e)))))

  -- one pixel more of a row
  pub row_step : (x0 y x : ℕ) (c : Rgb) (b : List ℕ) → x0 ≤ x → x < w → y < h → b ≡ with_rect (image w h l) x0 y (x - x0) 1 c
      → with_pixel (image w h b) x y c ≡ with_rect (image w h l) x0 y (x + 1 - x0) 1 c
  row_step x0 y x c b a hx hy e =
      shows_rect x0 y (x + 1 - x0) 1 c (with_pixel (image w h b) x y c) (length_pixel w h b x y c ∙ held) at
    where
      held : length b ≡ 3 * w * h
      held = ap length e ∙ length_rect x0 y (x - x0) 1 c ∙ fits

      at : Shows w h (with_pixel (image w h b) x y c) (λ x' y'. cond (in_rect x0 y (x + 1 - x0) 1 x' y') c (px (image w h l) x' y'))
      at x' y' p q =
          ⊎_elim
          (λ i. ⊎_elim (λ j. same i j) (λ j. other (λ _ k. eqb-false y' y j k)) (either (eqb y' y)))
          (λ i. other (λ k _. eqb-false x' x i k))
          (either (eqb x' x))
        where
          same : eqb x' x ≡ true → eqb y' y ≡ true → px (image w h (with_pixel (image w h b) x y c)) x' y' ≡ cond (in_rect x0 y (x + 1 - x0) 1 x' y') c (px (image w h l) x' y')
          same i j =
              let m : x' ≡ x = eqb-true x' x i in
              let n : y' ≡ y = eqb-true y' y j in
              ap (λ z. px (image w h (with_pixel (image w h b) x y c)) z y') m
              ∙ ap (λ z. px (image w h (with_pixel (image w h b) x y c)) x z) n
              ∙ pixel_same w h b x y c held hx hy
              ∙ pick_yes _ c (px (image w h l) x' y') (within_rect x0 y (x + 1 - x0) 1 x' y' (record { left = omega arith; right = omega arith; top = omega arith; bottom = omega arith }))

          other : (x' ≡ x → y' ≡ y → ⊥) → px (image w h (with_pixel (image w h b) x y c)) x' y' ≡ cond (in_rect x0 y (x + 1 - x0) 1 x' y') c (px (image w h l) x' y')
          other n =
              pixel_other w h b x y c held hx hy x' y' p n
              ∙ ap (λ d. px (image w h d) x' y') e
              ∙ rect_shows x0 y (x - x0) 1 c x' y' p q
              ∙ ap (λ t. cond t c (px (image w h l) x' y'))
              (same_test (in_rect x0 y (x - x0) 1 x' y') (in_rect x0 y (x + 1 - x0) 1 x' y')
              (λ i. let r = rect_within x0 y (x - x0) 1 x' y' i in
              within_rect x0 y (x + 1 - x0) 1 x' y' (record {
                left = omega arith;
                right = omega arith;
                top = omega arith;
                bottom = omega
                    arith;
              }))
              (λ i. let r = rect_within x0 y (x + 1 - x0) 1 x' y' i in
              let k : x' ≡ x → ⊥ = λ z. n z (let s : y ≤ y' = r.top in let s' : y' < y + 1 = r.bottom in omega arith) in
              within_rect x0 y (x - x0) 1 x' y' (record { left = r.left; right = shorter r k; top = r.top; bottom = r.bottom })))
            where
              shorter : Within x0 y (x + 1 - x0) 1 x' y' → (x' ≡ x → ⊥) → x' < x0 + (x - x0)
              shorter r k = ⊎_elim (λ z. absurd (k (let s : x' < x0 + (x + 1 - x0) = r.right in omega arith))) (λ z. omega arith) (le_or_lt x x')

  -- one row more of a rectangle
  pub rect_step : (x0 y0 width y : ℕ) (c : Rgb) (b : List ℕ) → y0 ≤ y → b ≡ with_rect (image w h l) x0 y0 width (y - y0) c
      → with_rect (image w h b) x0 y width 1 c ≡ with_rect (image w h l) x0 y0 width (y + 1 - y0) c
  rect_step x0 y0 width y c b a e =
      shows_rect x0 y0 width (y + 1 - y0) c (with_rect (image w h b) x0 y width 1 c) (length_rect_of b held) at
    where
      held : length b ≡ 3 * w * h
      held = ap length e ∙ length_rect x0 y0 width (y - y0) c ∙ fits

      length_rect_of : (b : List ℕ) → length b ≡ 3 * w * h → length (with_rect (image w h b) x0 y width 1 c) ≡ 3 * w * h
      length_rect_of b k = painted_length w h b x0 y width 1 c ∙ k

      at : Shows w h (with_rect (image w h b) x0 y width 1 c) (λ x' y'. cond (in_rect x0 y0 width (y + 1 - y0) x' y') c (px (image w h l) x' y'))
      at x' y' p q =
          let t = in_rect x0 y width 1 x' y' in
          let s = in_rect x0 y0 width (y - y0) x' y' in
          painted_shows w h b held x0 y width 1 c x' y' p q
          ∙ ap (λ d. cond t c (px (image w h d) x' y')) e
          ∙ ap (cond t c) (rect_shows x0 y0 width (y - y0) c x' y' p q)
          ∙ cond_or t s c (px (image w h l) x' y')
          ∙ ap (λ u. cond u c (px (image w h l) x' y'))
          (same_test (t || s) (in_rect x0 y0 width (y + 1 - y0) x' y') (λ i. ⊎_elim last before (or_cases t s i)) (λ i. split (rect_within x0 y0 width (y + 1 - y0) x' y' i)))
        where
          last : in_rect x0 y width 1 x' y' ≡ true → in_rect x0 y0 width (y + 1 - y0) x' y' ≡ true
          last i =
              let r = rect_within x0 y width 1 x' y' i in
              within_rect x0 y0 width (y + 1 - y0) x' y' (record { left = r.left; right = r.right; top = omega arith; bottom = omega arith })

          before : in_rect x0 y0 width (y - y0) x' y' ≡ true → in_rect x0 y0 width (y + 1 - y0) x' y' ≡ true
          before i =
              let r = rect_within x0 y0 width (y - y0) x' y' i in
              within_rect x0 y0 width (y + 1 - y0) x' y' (record { left = r.left; right = r.right; top = r.top; bottom = omega arith })

          split : Within x0 y0 width (y + 1 - y0) x' y' → (in_rect x0 y width 1 x' y' || in_rect x0 y0 width (y - y0) x' y') ≡ true
          split r =
              ⊎_elim
              (λ z. or_first _ _ (within_rect x0 y width 1 x' y' (record { left = r.left; right = r.right; top = z; bottom = omega arith })))
              (λ z. or_second (in_rect x0 y width 1 x' y') _ (within_rect x0 y0 width (y - y0) x' y' (record { left = r.left; right = r.right; top = r.top; bottom = omega arith })))
              (le_or_lt y y')
