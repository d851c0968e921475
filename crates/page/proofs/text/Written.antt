-- A number, a line and the page, put together from the parts that were lent and came back. Assumes nothing.
use mathlib.Core.Path.{◌≡◌, refl, sym, ap, ◌∙◌}
use mathlib.Core.List.{List, [], ◌∷◌, ◌++◌}
use Prim.Native.Nat.{ℕ, ◌+◌, ◌-◌, ◌*◌, ◌/◌, ◌^◌, ◌≤◌}
use native.Mathlib.Omega.{arith}
use lib.Ieee.{Float}
use lib.ListN.{length, take, drop, set, length-append}
use lib.Seq.{length-take-le, append_snoc}
use borrow.Rule.Slice.PartMut.{mid_of, put_mid, mid_len}
use Rattle.base.specs.Loops.{joined}
use Rattle.base.proofs.Joined.{over_joined, over_joined_end}
use Rattle.page.specs.Text.{blank, point, digit, leading, columns, whole, field_of, line_length, line_of, row_at, page_text}
use Rattle.base.proofs.Over.{Part, part_first, part_next, part_long, over, over_set, over_part, over_first, over_whole, length_over}
use Rattle.page.proofs.Texts.{columns_length, whole_part, field_part, line_length_lem}

-- ---- a whole number and the letter after it: n columns x, the last digit d, the letter a
pub whole_written : (l x : List ℕ) (q d a n : ℕ) → n + 2 ≡ length l → x ≡ columns leading (length (take n l)) (q / 10) → d ≡ digit q
    → set (set (x ++ drop n l) n d) (n + 1) a ≡ whole (length l - 1) q ++ (a ∷ [])
unfolding whole
whole_written l x q d a n h e f =
    let is : x ≡ columns leading n (q / 10) = e ∙ ap (λ k. columns leading k (q / 10)) (length-take-le n l (omega arith)) in
    let long : length x ≡ n = ap length is ∙ columns_length leading n (q / 10) in
    let more : length (x ++ (d ∷ [])) ≡ n + 1 = length-append x (d ∷ []) ∙ omega arith in
    let all : length (x ++ (d ∷ []) ++ (a ∷ [])) ≡ length l = length-append (x ++ (d ∷ [])) (a ∷ []) ∙ omega arith in
    let one = over_set x l (x ++ drop n l) n d (over_first x l n long) (sym long) (omega arith) in
    let two = over_set (x ++ (d ∷ [])) l (set (x ++ drop n l) n d) (n + 1) a one (sym more) (omega arith) in
    over_whole (x ++ (d ∷ []) ++ (a ∷ [])) l (set (set (x ++ drop n l) n d) (n + 1) a) two all
    ∙ ap (λ z. z ++ (d ∷ []) ++ (a ∷ [])) (is ∙ ap (λ k. columns leading k (q / 10)) (less n (length l) h))
    ∙ ap (λ z. columns leading (length l - 1 - 1) (q / 10) ++ (z ∷ []) ++ (a ∷ [])) f
  where
    less : (n k : ℕ) → n + 2 ≡ k → n ≡ k - 1 - 1
    less n k h = omega arith

-- ---- an amount and the letter after it: the whole number and the point x, the digits y, the letter a
pub field_written : (l x y : List ℕ) (q places scale a start end : ℕ) → end + 1 ≡ length l → start + places ≡ end → 2 ≤ start → scale ≡ 10 ^ places
    → x ≡ whole (length (take start l) - 1) (q / scale) ++ (point ∷ []) → y ≡ columns digit (length (mid_of start (end - start) (x ++ drop start l))) q
    → set (put_mid start (end - start) (x ++ drop start l) y) end a ≡ field_of (length l - 1) places q ++ (a ∷ [])
unfolding field_of
field_written l x y q places scale a start end h k r s e f =
    let t : length (take start l) ≡ start = length-take-le start l (omega arith) in
    let is : x ≡ whole (start - 1) (q / 10 ^ places) ++ (point ∷ []) =
    e ∙ ap (λ i. whole (i - 1) (q / scale) ++ (point ∷ [])) t ∙ ap (λ i. whole (start - 1) (q / i) ++ (point ∷ [])) s in
    let long : length x ≡ start = ap length is ∙ whole_part (start - 1) (q / 10 ^ places) point (omega arith) ∙ omega arith in
    let first = over_first x l start long in
    let b : length (x ++ drop start l) ≡ length l = ap length first ∙ length_over x l (omega arith) in
    let there : y ≡ columns digit places q =
    f ∙ ap (λ i. columns digit i q) (mid_len start end (x ++ drop start l) (omega arith) ∙ omega arith) in
    let y_long : length y ≡ end - start = ap length there ∙ columns_length digit places q ∙ omega arith in
    let more : length (x ++ y) ≡ end = length-append x y ∙ omega arith in
    let all : length (x ++ y ++ (a ∷ [])) ≡ length l = length-append (x ++ y) (a ∷ []) ∙ omega arith in
    let one = over_part x l (x ++ drop start l) y start end first (sym long) (omega arith) y_long in
    let two = over_set (x ++ y) l (put_mid start (end - start) (x ++ drop start l) y) end a one (sym more) (omega arith) in
    over_whole (x ++ y ++ (a ∷ [])) l (set (put_mid start (end - start) (x ++ drop start l) y) end a) two all
    ∙ ap (λ z. z ++ y ++ (a ∷ [])) is
    ∙ ap (λ z. whole (start - 1) (q / 10 ^ places) ++ (point ∷ []) ++ z ++ (a ∷ [])) there
    ∙ ap (λ z. z ++ (a ∷ [])) (append_snoc (whole (start - 1) (q / 10 ^ places)) point (columns digit places q))
    ∙ ap (λ i. whole i (q / 10 ^ places) ++ (point ∷ columns digit places q) ++ (a ∷ [])) (front start end places (length l) h k)
  where
    front : (start end places k : ℕ) → end + 1 ≡ k → start + places ≡ end → start - 1 ≡ k - 1 - (places + 1)
    front start end places k h r = omega arith

-- ---- a line: after the text t, in the columns from n up to e, an amount and the letter after it
pub line_first : (l x : List ℕ) (rank n : ℕ) → 2 ≤ n → n ≤ length l → x ≡ whole (length (take n l) - 1) rank ++ (blank ∷ [])
    → Part (whole (n - 1) rank ++ (blank ∷ [])) l (x ++ drop n l) n
line_first l x rank n h r e =
    part_first (whole (n - 1) rank ++ (blank ∷ [])) l x n
    (e ∙ ap (λ i. whole (i - 1) rank ++ (blank ∷ [])) (length-take-le n l r))
    (whole_part (n - 1) rank blank (omega arith) ∙ omega arith)

pub line_next : (t l b x : List ℕ) (n e places u q a : ℕ) → Part t l b n → n + places + 3 ≤ e → e ≤ length l → u ≡ q
    → x ≡ field_of (length (mid_of n (e - n) b) - 1) places u ++ (a ∷ [])
    → Part (t ++ (field_of (e - n - 1) places q ++ (a ∷ []))) l (put_mid n (e - n) b x) e
line_next t l b x n e places u q a p h r v f =
    let long : length b ≡ length l = part_long t l b n p (omega arith) in
    part_next t l b (field_of (e - n - 1) places q ++ (a ∷ [])) x n e p (omega arith)
    (f ∙ ap (λ i. field_of (i - 1) places u ++ (a ∷ [])) (mid_len n e b (omega arith)) ∙ ap (λ z. field_of (e - n - 1) places z ++ (a ∷ [])) v)
    (field_part (e - n - 1) places q a (omega arith) ∙ omega arith)

-- ---- the page: line i after the lines before it
module _ (c : List Float) (l : List ℕ) where
  lines_long : (i : ℕ) → length (line_of (i + 1) (row_at c i)) ≡ line_length
  lines_long i = line_length_lem (i + 1) (row_at c i)

  pub page_begin : l ≡ over (page_text c 0) l
  unfolding joined
  page_begin = refl

  pub page_next : (b x : List ℕ) (i : ℕ) → b ≡ over (page_text c i) l → x ≡ line_of (i + 1) (row_at c i)
      → put_mid (37 * i) (37 * i + 37 - 37 * i) b x ≡ over (page_text c (i + 1)) l
  page_next b x i h e = over_joined _ line_length lines_long [] l b x (37 * i) i h (omega arith) e

  pub page_end : (b : List ℕ) (i n : ℕ) → b ≡ over (page_text c i) l → i ≡ n → b ≡ page_text c n ++ drop (line_length * n) l
  page_end b i n h e =
      let z : 0 + line_length * n ≡ line_length * n = omega arith in
      over_joined_end _ line_length lines_long [] l b i n h e ∙ ap (λ k. page_text c n ++ drop k l) z
