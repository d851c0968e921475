-- Squares painted one after another. Assumes nothing.
use mathlib.Core.Path.{◌≡◌, refl, sym, ap, ◌∙◌}
use mathlib.Core.Bool.{true, false, cond, ◌&&◌}
use mathlib.Core.List.{List, [], ◌∷◌, ◌++◌}
use Prim.Native.Nat.{ℕ, ◌*◌, ◌-◌, ◌≤◌, ◌<◌}
use native.Mathlib.Omega.{arith}
use lib.Dec.{leb, ltb}
use lib.ListN.{length}
use borrow.Author.Tests.{leb-true, ltb-true, le-leb, lt-ltb}
use Rattle.base.proofs.Plane.{length_filled}
use Rattle.base.proofs.Pick.{pick_yes, pick_no}
use Rattle.float.specs.Floats.{◌⊕◌}
use Rattle.frame.specs.Image.{image, px, in_rect, with_rect}
use Rattle.frame.specs.declared.FrameSpec.{FrameSpec}
use Rattle.frame.specs.declared.Rgb.{Rgb}
use Rattle.base.proofs.Tests.{and_left, and_right, and_both, same_test}
use Rattle.frame.proofs.Pixels.{Shows, filled_shows, shows_filled}
use Rattle.frame.proofs.Rectangles.{rect_within, within_rect, painted_length, painted_shows}
use Rattle.markers.specs.Stamp.{Square, end, covers, painted, with_squares, squares, stamped}

-- a square covers what its rectangle of pixels holds
rectangle : (s : Square) (x y : ℕ) → in_rect (end s.x) (end s.y) (end (s.x ⊕ s.side) - end s.x) (end (s.y ⊕ s.side) - end s.y) x y ≡ covers s x y
unfolding covers
rectangle s x y =
    go (end s.x) (end (s.x ⊕ s.side)) (end s.y) (end (s.y ⊕ s.side))
  where
    go : (x0 x1 y0 y1 : ℕ) → in_rect x0 y0 (x1 - x0) (y1 - y0) x y ≡ (leb x0 x && ltb x x1 && leb y0 y && ltb y y1)
    go x0 x1 y0 y1 =
        same_test (in_rect x0 y0 (x1 - x0) (y1 - y0) x y) (leb x0 x && ltb x x1 && leb y0 y && ltb y y1)
        (λ i. let r = rect_within x0 y0 (x1 - x0) (y1 - y0) x y i in
        let q : x < x1 = omega arith in
        let u : y < y1 = omega arith in
        and_both _ _ (and_both _ _ (and_both _ _ (le-leb _ _ r.left) (lt-ltb _ _ q)) (le-leb _ _ r.top)) (lt-ltb _ _ u))
        (λ i. let a = and_left (leb x0 x && ltb x x1 && leb y0 y) (ltb y y1) i in
        let b = and_left (leb x0 x && ltb x x1) (leb y0 y) a in
        let p : x0 ≤ x = leb-true _ _ (and_left (leb x0 x) (ltb x x1) b) in
        let q : x < x1 = ltb-true _ _ (and_right (leb x0 x) (ltb x x1) b) in
        let t : y0 ≤ y = leb-true _ _ (and_right (leb x0 x && ltb x x1) (leb y0 y) a) in
        let u : y < y1 = ltb-true _ _ (and_right (leb x0 x && ltb x x1 && leb y0 y) (ltb y y1) i) in
        within_rect x0 y0 (x1 - x0) (y1 - y0) x y (record { left = p; right = omega arith; top = t; bottom = omega arith }))

-- one list of squares after another
painted_append : (l k : List Square) (x y : ℕ) (c : Rgb) → painted k x y (painted l x y c) ≡ painted (l ++ k) x y c
unfolding painted
painted_append [] k x y c = refl
painted_append (s ∷ l) k x y c = painted_append l k x y (cond (covers s x y) s.colour c)

module _ (w h : ℕ) where
  -- what `fill` paints
  abbrev pub rect_of : Square → List ℕ → List ℕ
  rect_of s b = with_rect (image w h b) (end s.x) (end s.y) (end (s.x ⊕ s.side) - end s.x) (end (s.y ⊕ s.side) - end s.y) s.colour

  pub length_squares : (l : List Square) (b : List ℕ) → length (with_squares l (image w h b)) ≡ length b
  unfolding with_squares
  length_squares l b = length_filled _ b (3 * w * h)

  squares_show : (l : List Square) (b : List ℕ) → length b ≡ 3 * w * h → Shows w h (with_squares l (image w h b)) (λ x y. painted l x y (px (image w h b) x y))
  unfolding with_squares
  squares_show l b e = filled_shows w h _ b e

  show_squares : (l : List Square) (b d : List ℕ) → length b ≡ 3 * w * h → length d ≡ 3 * w * h
      → Shows w h d (λ x y. painted l x y (px (image w h b) x y)) → d ≡ with_squares l (image w h b)
  unfolding with_squares
  show_squares l b d p q s = shows_filled w h _ b d p q s

  -- it is one square
  pub one_square : (s : Square) (b : List ℕ) → length b ≡ 3 * w * h
      → rect_of s b ≡ with_squares (s ∷ []) (image w h b)
  unfolding painted
  one_square s b e =
      show_squares (s ∷ []) b _ e (painted_length w h b _ _ _ _ s.colour ∙ e)
      (λ x y p q. painted_shows w h b e _ _ _ _ s.colour x y p q ∙ ap (λ t. cond t s.colour (px (image w h b) x y)) (rectangle s x y))

  pub squares_append : (l k : List Square) (b : List ℕ) → length b ≡ 3 * w * h → with_squares k (image w h (with_squares l (image w h b))) ≡ with_squares (l ++ k) (image w h b)
  squares_append l k b e =
      let d = with_squares l (image w h b) in
      let f : length d ≡ 3 * w * h = length_squares l b ∙ e in
      show_squares (l ++ k) b (with_squares k (image w h d)) e (length_squares k d ∙ f)
      (λ x y p q. squares_show k d f x y p q
      ∙ ap (painted k x y) (squares_show l b e x y p q)
      ∙ painted_append l k x y (px (image w h b) x y))

  -- a picture, once another list of squares is painted over it
  pub squares_over : (l k : List Square) (b d : List ℕ) {r : List ℕ} → length b ≡ 3 * w * h → d ≡ with_squares l (image w h b) → r
      ≡ with_squares k (image w h d) → r ≡ with_squares (l ++ k) (image w h b)
  squares_over l k b d e p q = q ∙ ap (λ z. with_squares k (image w h z)) p ∙ squares_append l k b e

  -- .. or one square
  pub square_over : (l : List Square) (s : Square) (b d : List ℕ) {r : List ℕ} → length b ≡ 3 * w * h → d ≡ with_squares l (image w h b)
      → r ≡ rect_of s d
      → r ≡ with_squares (l ++ (s ∷ [])) (image w h b)
  square_over l s b d e p q =
      squares_over l (s ∷ []) b d e p (q ∙ one_square s d (ap length p ∙ length_squares l b ∙ e))

  -- the four fills of a marker
  pub four_squares : (s₁ s₂ s₃ s₄ : Square) (b b₁ b₂ b₃ b₄ : List ℕ) → length b ≡ 3 * w * h
      → b₁ ≡ rect_of s₁ b → b₂ ≡ rect_of s₂ b₁ → b₃ ≡ rect_of s₃ b₂ → b₄ ≡ rect_of s₄ b₃ → b₄ ≡ with_squares (s₁ ∷ s₂ ∷ s₃ ∷ s₄
      ∷ []) (image w h b)
  four_squares s₁ s₂ s₃ s₄ b b₁ b₂ b₃ b₄ e f₁ f₂ f₃ f₄ =
      square_over (s₁ ∷ s₂ ∷ s₃ ∷ []) s₄ b b₃ e
      (square_over (s₁ ∷ s₂ ∷ []) s₃ b b₂ e (square_over (s₁ ∷ []) s₂ b b₁ e (f₁ ∙ one_square s₁ b e) f₂) f₃)
      f₄

  -- .. and of four markers
  pub four_lists : (l₁ l₂ l₃ l₄ : List Square) (b b₁ b₂ b₃ b₄ : List ℕ) → length b ≡ 3 * w * h
      → b₁ ≡ with_squares l₁ (image w h b) → b₂ ≡ with_squares l₂ (image w h b₁) → b₃ ≡ with_squares l₃ (image w h b₂) → b₄ ≡ with_squares l₄ (image w h b₃)
      → b₄ ≡ with_squares (l₁ ++ l₂ ++ l₃ ++ l₄) (image w h b)
  four_lists l₁ l₂ l₃ l₄ b b₁ b₂ b₃ b₄ e f₁ f₂ f₃ f₄ =
      squares_over (l₁ ++ l₂ ++ l₃) l₄ b b₃ e (squares_over (l₁ ++ l₂) l₃ b b₂ e (squares_over l₁ l₂ b b₁ e f₁ f₂) f₃) f₄

  -- what stamping shows: in each pixel the colour of the last square that covers it, else what it was
  pub stamped_shows : (b : List ℕ) (f : FrameSpec) → length b ≡ 3 * w * h → Shows w h (stamped (image w h b) f) (λ x y. painted (squares f) x y (px (image w h b) x y))
  unfolding stamped
  stamped_shows b f e = squares_show (squares f) b e

-- a square that covers a pixel gives its colour, where none after it covers it; where none covers it, the pixel keeps its own
abbrev pub NoneCover : List Square → ℕ → ℕ → Type 0
NoneCover [] x y = Unit {0}
NoneCover (s ∷ l) x y = (covers s x y ≡ false) × NoneCover l x y

pub painted_none : (l : List Square) (x y : ℕ) (c : Rgb) → NoneCover l x y → painted l x y c ≡ c
unfolding painted
painted_none [] x y c n = refl
painted_none (s ∷ l) x y c n = painted_none l x y (cond (covers s x y) s.colour c) n.1 ∙ sym (pick_no (covers s x y) s.colour c n.0)

pub painted_last : (l k : List Square) (s : Square) (x y : ℕ) (c : Rgb) → covers s x y ≡ true → NoneCover k x y → painted (l ++ (s ∷ k)) x y c ≡ s.colour
unfolding painted
painted_last [] k s x y c e n = painted_none k x y (cond (covers s x y) s.colour c) n ∙ sym (pick_yes (covers s x y) s.colour c e)
painted_last (t ∷ l) k s x y c e n = painted_last l k s x y (cond (covers t x y) t.colour c) e n
