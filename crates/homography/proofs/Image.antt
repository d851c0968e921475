-- The value of an f64 is the library's, and the entries of the float equations have the values of the exact ones, where the
-- coordinates are whole and not too large. Assumes nothing.
use mathlib.Core.Path.{◌≡◌, sym, ap, ap₂, subst, ◌∙◌}
use mathlib.Core.Bool.{Bool, true, false, not, true≢false, false≢true}
use mathlib.Core.List.{List, [], ◌∷◌, ◌++◌, map}
use Prim.Native.Nat.{ℕ, ◌*◌, ◌^◌, ◌≤◌, ◌<◌}
use native.Mathlib.Nat.{mul-one, mul_right_comm, mul-mul-mul_comm, mul-le-mul, mul-pos, eq_of_mul-eq-mul_right, lt_of_le_of_lt, lt_of_lt_of_le}
use native.Mathlib.Omega.{arith}
use lib.Dec.{lit<, lit≤}
use lib.Pow.{pow_mono, shl_lt}
use lib.Ieee.{Float, nan, inf, fin, binary64, up, down, unlike, neg, mul, round, of_int}
use lib.Ieee.Exact.{HasValue, round_exact}
use lib.Ieee.Back.{round_whole}
use lib.Ieee.Fits.{down_pos}
use Rattle.float.specs.Floats.{◌⊗◌, f64}
use Rattle.frame.specs.declared.Point.{Point}
use Rattle.homography.specs.Arithmetic.{Arithmetic}
use Rattle.homography.specs.Equations.{row_u, row_v, rows_over, row_x, row_y, equations}
use Rattle.homography.specs.Fractions.{Fraction}
use Rattle.homography.specs.Rationals.{rational, rational_same, ℚ, -ℚ◌, ◌*ℚ◌, 0ℚ, 1ℚ, exact, Finite, AllFinite, signed, value_of, ValueIs}
use Rattle.homography.specs.Transform.{Whole, WholePoint, EquationsAre}

-- ---- values of floats
lowest_terms : (x : Float) (s : Bool) (c k : ℕ) → 0 < k → HasValue x s (c * k) k → HasValue x s c 1
lowest_terms nan s c k h v = v
lowest_terms (inf t) s c k h v = v
lowest_terms (fin t m e) s c k h v = (v.0, mul-one (m * up e) ∙ eq_of_mul-eq-mul_right k h (m * up e) (c * down e) (v.1 ∙ mul_right_comm c k (down e)))

product_value : (x y : Float) (s t : Bool) (a b : ℕ) → HasValue x s a 1 → HasValue y t b 1 → a * b < 2 ^ 53 → HasValue (mul binary64 x y) (unlike s t) (a * b) 1
unfolding mul
product_value nan y s t a b v w h = absurd v
product_value (inf r) y s t a b v w h = absurd v
product_value (fin r m e) nan s t a b v w h = absurd w
product_value (fin r m e) (inf q) s t a b v w h = absurd w
product_value (fin r m e) (fin q n d) s t a b v w h =
    let k = down e * down d in
    let kp : 0 < k = mul-pos (down_pos e) (down_pos d) in
    let l : m * up e ≡ a * down e = sym (mul-one (m * up e)) ∙ v.1 in
    let o : n * up d ≡ b * down d = sym (mul-one (n * up d)) ∙ w.1 in
    let p : m * up e * (n * up d) ≡ a * b * k = ap (λ (z : ℕ). z * (n * up d)) l ∙ ap (λ (z : ℕ). a * down e * z) o ∙ mul-mul-mul_comm a (down e) b (down d) in
    let u : a * b * 2 ^ 1074 < 2 ^ 2098 = lt_of_lt_of_le (shl_lt 53 1074 h) (pow_mono {i = 1127} {j = 2098} (lit≤ tt)) in
    let g : HasValue (round binary64 (unlike r q) (m * up e * (n * up d)) k) (unlike r q) (m * up e * (n * up d)) k =
    round_exact binary64 (unlike r q) (m * up e * (n * up d)) k (a * b) 1074 kp h u (ap (λ (z : ℕ). z * 2 ^ 1074) p ∙ mul_right_comm (a * b) k (2 ^ 1074))
    in
    let f : HasValue (round binary64 (unlike r q) (m * up e * (n * up d)) k) (unlike r q) (a * b) 1 =
    lowest_terms (round binary64 (unlike r q) (m * up e * (n * up d)) k) (unlike r q) (a * b) k kp
    (subst (λ (z : ℕ). HasValue (round binary64 (unlike r q) (m * up e * (n * up d)) k) (unlike r q) z k) p g)
    in
    subst (λ (z : Bool). HasValue (round binary64 (unlike r q) (m * up e * (n * up d)) k) z (a * b) 1) (ap (λ (z : Bool). unlike z q) v.0 ∙ ap (unlike s) w.0) f

neg_value : (x : Float) (s : Bool) (a : ℕ) → HasValue x s a 1 → HasValue (neg x) (not s) a 1
unfolding neg
neg_value nan s a v = v
neg_value (inf t) s a v = v
neg_value (fin t m e) s a v = (ap not v.0, v.1)

-- ---- .. as rationals
pub value_is : ValueIs
unfolding value_of
value_is nan s a c h v = absurd v
value_is (inf t) s a c h v = absurd v
value_is (fin false m e) false a c h v = rational_same (omega (arith, v.1))
value_is (fin false m e) true a c h v = absurd (false≢true v.0)
value_is (fin true m e) false a c h v = absurd (true≢false v.0)
value_is (fin true m e) true a c h v = rational_same (omega (arith, v.1))

-- a whole number
abbrev whole : Bool → ℕ → Fraction
whole s a = signed s a 1 (lit< tt)

whole_is : (x : Float) (s : Bool) (a : ℕ) → HasValue x s a 1 → value_of x ≡ rational (whole s a)
whole_is x s a v = value_is x s a 1 (lit< tt) v

number_is : (n : ℕ) → n ≤ 2 ^ 53 → value_of (f64 n) ≡ rational (whole false n)
unfolding of_int
number_is n h = whole_is (f64 n) false n (round_whole binary64 false n h)

signed_product : (s t : Bool) (a b : ℕ) → rational (whole (unlike (not s) t) (a * b)) ≡ -ℚ rational (whole s a) *ℚ rational (whole t b)
unfolding -ℚ◌ ◌*ℚ◌
signed_product false false a b = rational_same (omega arith)
signed_product false true a b = rational_same (omega arith)
signed_product true false a b = rational_same (omega arith)
signed_product true true a b = rational_same (omega arith)

-- −u·x
product_has : (u x : Float) (v : Whole u) (w : Whole x) → HasValue (neg u ⊗ x) (unlike (not v.sign) w.sign) (v.size * w.size) 1
product_has u x v w =
    product_value (neg u) x (not v.sign) w.sign v.size w.size (neg_value u v.sign v.size v.value) w.value
    (lt_of_le_of_lt (mul-le-mul v.small w.small) (lit< tt))

product_is : (u x : Float) → Whole u → Whole x → value_of (neg u ⊗ x) ≡ -ℚ value_of u *ℚ value_of x
product_is u x v w =
    whole_is (neg u ⊗ x) _ _ (product_has u x v w)
    ∙ signed_product v.sign w.sign v.size w.size
    ∙ sym (ap₂ (λ y z. -ℚ y *ℚ z) (whole_is u v.sign v.size v.value) (whole_is x w.sign w.size w.value))

-- ---- the rows of a point
module _ (prefers : ℚ → ℚ → Bool) (refuses : ℚ → Bool) (p q : Point) (a : WholePoint p) (b : WholePoint q) where
  nought : value_of (f64 0) ≡ 0ℚ
  nought = number_is 0 (lit≤ tt)

  one : value_of (f64 1) ≡ 1ℚ
  one = number_is 1 (lit≤ tt)

  abbrev N : Arithmetic ℚ
  N = exact prefers refuses

  row_x_lem : map value_of (row_x p q) ≡ row_u N (value_of p.x) (value_of p.y) (value_of q.x)
  row_x_lem = λ i.
      value_of p.x ∷ value_of p.y ∷ one i ∷ nought i ∷ nought i ∷ nought i
      ∷ product_is q.x p.x b.0 a.0 i ∷ product_is q.x p.y b.0 a.1 i ∷ value_of q.x ∷ []

  row_y_lem : map value_of (row_y p q) ≡ row_v N (value_of p.x) (value_of p.y) (value_of q.y)
  row_y_lem = λ i.
      nought i ∷ nought i ∷ nought i ∷ value_of p.x ∷ value_of p.y ∷ one i
      ∷ product_is q.y p.x b.1 a.0 i ∷ product_is q.y p.y b.1 a.1 i ∷ value_of q.y ∷ []

  rows : map value_of (row_x p q) ++ map value_of (row_y p q) ≡ rows_over N value_of p q
  rows = λ i. row_x_lem i ++ row_y_lem i

-- ---- .. are finite
finite : (x : Float) (s : Bool) (a c : ℕ) → HasValue x s a c → Finite x
finite nan s a c v = v
finite (inf t) s a c v = v
finite (fin t m e) s a c v = tt

whole_finite : (x : Float) → Whole x → Finite x
whole_finite x w = finite x w.sign w.size 1 w.value

number_finite : (n : ℕ) → n ≤ 2 ^ 53 → Finite (f64 n)
unfolding of_int
number_finite n h = finite (f64 n) false n 1 (round_whole binary64 false n h)

product_finite : (u x : Float) → Whole u → Whole x → Finite (neg u ⊗ x)
product_finite u x v w = finite (neg u ⊗ x) _ _ 1 (product_has u x v w)

rows_finite : (p q : Point) → WholePoint p → WholePoint q → AllFinite (row_x p q ++ row_y p q)
rows_finite p q a b =
    let x = whole_finite p.x a.0 in
    let y = whole_finite p.y a.1 in
    let n = number_finite 0 (lit≤ tt) in
    let i = number_finite 1 (lit≤ tt) in
    let ux = product_finite q.x p.x b.0 a.0 in
    let uy = product_finite q.x p.y b.0 a.1 in
    let vx = product_finite q.y p.x b.1 a.0 in
    let vy = product_finite q.y p.y b.1 a.1 in
    let v = whole_finite q.y b.1 in
    (x, (y, (i, (n, (n, (n, (ux, (uy, (whole_finite q.x b.0, (n, (n, (n, (x, (y, (i, (vx, (vy, (v, tt))))))))))))))))))

both_finite : (l k : List Float) → AllFinite l → AllFinite k → AllFinite (l ++ k)
both_finite [] k f g = g
both_finite (x ∷ l) k f g = (f.0, both_finite l k f.1 g)

abbrev rows_xy : Point → Point → List Float
rows_xy p q = row_x p q ++ row_y p q

pub equations_are : EquationsAre
unfolding equations
equations_are prefers refuses src dst a b =
    let tl = rows_finite src.tl dst.tl a.0 b.0 in
    let tr = rows_finite src.tr dst.tr a.1 b.1 in
    let br = rows_finite src.br dst.br a.2 b.2 in
    let bl = rows_finite src.bl dst.bl a.3 b.3 in
    let l = rows_xy src.tl dst.tl in
    let m = rows_xy src.tr dst.tr in
    let n = rows_xy src.br dst.br in
    let k = rows_xy src.bl dst.bl in (
      both_finite l (m ++ n ++ k) tl (both_finite m (n ++ k) tr (both_finite n k br bl)),
      λ i.
          rows prefers refuses src.tl dst.tl a.0 b.0 i
          ++ rows prefers refuses src.tr dst.tr a.1 b.1 i
          ++ rows prefers refuses src.br dst.br a.2 b.2 i
          ++ rows prefers refuses src.bl dst.bl a.3 b.3 i,
    )
