-- A text and the size that it asks for. Assumes nothing.
use Prim.Native.Nat.{ℕ, suc, ◌+◌, ◌-◌, ◌%◌, ◌≤◌, ◌<◌}
use native.Mathlib.Numerals.{add-one}
use native.Mathlib.Decide.{dec_lt}
use native.Mathlib.Omega.{arith}
use mathlib.Core.Path.{◌≡◌, refl, sym, ap, ap₂, ◌∙◌}
use mathlib.Core.List.{List, [], ◌∷◌, ◌++◌, append_assoc}
use lib.Dec.{eqb}
use lib.ListN.{length, get_or, take, drop, length-append, length-drop, get_or-append}
use lib.Seq.{take_at, drop_at, get_or_at, split_at, take-suc, take_all, get_or-drop}
use borrow.Author.Tests.{eq-eqb, ne_eqb}
use Rattle.std.specs.Prelude.{Some, None}
use Rattle.base.proofs.Pick.{pick_yes, pick_no, cond_elim}
use Rattle.patch_text.specs.Text.{blank, feed, decimal, field}
use Rattle.checkerboard_text.specs.Text.{Asks}
use Rattle.checkerboard_text.specs.Steps.{Side, blank_place}
use Rattle.checkerboard_text.proofs.Decimals.{decimal_one, decimal_two, decimal_same}

-- the digits before the letter at p, and those between it and the last byte
abbrev pub front : List ℕ → ℕ → List ℕ
front b p = take p b

abbrev pub middle : List ℕ → ℕ → List ℕ
middle b p = take (length b - 1 - (p + 1)) (drop (p + 1) b)

-- ---- a text by its parts
parts_join : (b : List ℕ) (p : ℕ) → p + 2 ≤ length b → b ≡ (front b p ++ (get_or b p 0 ∷ [])) ++ (middle b p ++ (get_or b (length b - 1) 0 ∷ []))
parts_join b p l =
    split_at b p 0 (omega arith)
    ∙ ap (λ r. take p b ++ get_or b p 0 ∷ r) (ap (λ i. drop i b) (sym (add-one p)) ∙ rest)
    ∙ sym (append_assoc (front b p) (get_or b p 0 ∷ []) (middle b p ++ (get_or b (length b - 1) 0 ∷ [])))
  where
    k : ℕ
    k = length b - 1 - (p + 1)

    long : length (drop (p + 1) b) ≡ suc k
    long = length-drop (p + 1) b ∙ omega arith

    last : get_or (drop (p + 1) b) k 0 ≡ get_or b (length b - 1) 0
    last = let i : p + 1 + k ≡ length b - 1 = omega arith in get_or-drop (p + 1) b k 0 ∙ ap (λ i. get_or b i 0) i

    rest : drop (p + 1) b ≡ middle b p ++ (get_or b (length b - 1) 0 ∷ [])
    rest =
        sym (take_all (suc k) (drop (p + 1) b) (omega (arith, long)))
        ∙ take-suc (drop (p + 1) b) k 0 (omega (arith, long))
        ∙ ap (λ x. middle b p ++ (x ∷ [])) last

-- ---- the parts of two joined pieces
module _ (d e : List ℕ) (x y : ℕ) where
  abbrev whole : List ℕ
  whole = (d ++ (x ∷ [])) ++ (e ++ (y ∷ []))

  whole_long : length whole ≡ length d + 1 + (length e + 1)
  whole_long =
      length-append (d ++ (x ∷ [])) (e ++ (y ∷ []))
      ∙ ap₂ ◌+◌ (length-append d (x ∷ [])) (length-append e (y ∷ []))

  whole_is : whole ≡ d ++ x ∷ (e ++ (y ∷ []))
  whole_is = append_assoc d (x ∷ []) (e ++ (y ∷ []))

  whole_front : front whole (length d) ≡ d
  whole_front = ap (take (length d)) whole_is ∙ take_at d (x ∷ (e ++ (y ∷ []))) (length d) refl

  whole_letter : get_or whole (length d) 0 ≡ x
  whole_letter = ap (λ b. get_or b (length d) 0) whole_is ∙ get_or_at d x (e ++ (y ∷ [])) 0 (length d) refl

  whole_rest : drop (length d + 1) whole ≡ e ++ (y ∷ [])
  whole_rest = drop_at (d ++ (x ∷ [])) (e ++ (y ∷ [])) (length d + 1) (length-append d (x ∷ []))

  whole_middle : middle whole (length d) ≡ e
  whole_middle =
      ap (take (length whole - 1 - (length d + 1))) whole_rest
      ∙ take_at e (y ∷ []) (length whole - 1 - (length d + 1)) (omega (arith, whole_long))

  whole_last : get_or whole (length whole - 1) 0 ≡ y
  whole_last =
      let i : length d + 1 + length e ≡ length whole - 1 = omega (arith, whole_long) in
      ap (λ n. get_or whole n 0) (sym i)
      ∙ sym (get_or-drop (length d + 1) whole (length e) 0)
      ∙ ap (λ r. get_or r (length e) 0) whole_rest
      ∙ get_or_at e y [] 0 (length e) refl

-- ---- the place of the blank
place_one : (b : List ℕ) → get_or b 1 0 ≡ blank → blank_place b ≡ 1
unfolding blank_place
place_one b e = sym (pick_yes (eqb (get_or b 1 0) blank) 1 2 (eq-eqb _ blank e))

place_two : (b : List ℕ) → (get_or b 1 0 ≡ blank → ⊥) → blank_place b ≡ 2
unfolding blank_place
place_two b o = sym (pick_no (eqb (get_or b 1 0) blank) 1 2 (ne_eqb _ blank o))

pub place_some : (b : List ℕ) → (1 ≤ blank_place b) × (blank_place b ≤ 2)
unfolding blank_place
place_some b = cond_elim (λ p. (1 ≤ p) × (p ≤ 2)) (eqb (get_or b 1 0) blank) 1 2 (λ e. (omega arith, omega arith)) (λ e. (omega arith, omega arith))

-- ---- a text that asks for w by h
digits_few : (n : ℕ) → n ≤ 64 → (1 ≤ length (decimal n)) × (length (decimal n) ≤ 2)
digits_few n l = go (dec_lt n 10)
  where
    go : Dec (n < 10) → (1 ≤ length (decimal n)) × (length (decimal n) ≤ 2)
    go (yes y) = let e = ap length (decimal_one n y) in (omega arith, omega arith)
    go (no o) = let e = ap length (decimal_two n (omega arith) (omega arith)) in (omega arith, omega arith)

module _ {b : List ℕ} {w h : ℕ} (a : Asks b w h) where
  its_text : b ≡ whole (decimal w) (decimal h) blank feed
  unfolding field
  its_text = a.text

  its_long : length b ≡ length (decimal w) + 1 + (length (decimal h) + 1)
  its_long = ap length its_text ∙ whole_long (decimal w) (decimal h) blank feed

  pub asks_long : (4 ≤ length b) × (length b ≤ 6)
  asks_long =
      let x = digits_few w a.narrow in
      let y = digits_few h a.low in
      (omega (arith, its_long, x.0, y.0), omega (arith, its_long, x.1, y.1))

  its_place : blank_place b ≡ length (decimal w)
  its_place = go (dec_lt w 10)
    where
      go : Dec (w < 10) → blank_place b ≡ length (decimal w)
      go (yes l) =
          let e : length (decimal w) ≡ 1 = ap length (decimal_one w l) in
          place_one b (ap (λ i. get_or b i 0) (sym e) ∙ ap (λ t. get_or t (length (decimal w)) 0) its_text ∙ whole_letter (decimal w) (decimal h) blank feed) ∙ sym e
      go (no o) =
          let d = decimal_two w (omega arith) (omega (arith, a.narrow)) in
          let e : length (decimal w) ≡ 2 = ap length d in
          let c : get_or b 1 0 ≡ 48 + w % 10 =
          ap (λ t. get_or t 1 0) (its_text ∙ whole_is (decimal w) (decimal h) blank feed)
          ∙ get_or-append (decimal w) (blank ∷ (decimal h ++ (feed ∷ []))) 0 1 (omega arith)
          ∙ ap (λ t. get_or t 1 0) d in
          place_two b (λ z. omega arith) ∙ sym e

  pub asks_letter : get_or b (blank_place b) 0 ≡ blank
  asks_letter = ap (λ i. get_or b i 0) its_place ∙ ap (λ t. get_or t (length (decimal w)) 0) its_text ∙ whole_letter (decimal w) (decimal h) blank feed

  pub asks_last : get_or b (length b - 1) 0 ≡ feed
  asks_last = ap (λ t. get_or t (length t - 1) 0) its_text ∙ whole_last (decimal w) (decimal h) blank feed

  pub asks_front : front b (blank_place b) ≡ decimal w
  asks_front = ap (front b) its_place ∙ ap (λ t. front t (length (decimal w))) its_text ∙ whole_front (decimal w) (decimal h) blank feed

  pub asks_middle : middle b (blank_place b) ≡ decimal h
  asks_middle = ap (middle b) its_place ∙ ap (λ t. middle t (length (decimal w))) its_text ∙ whole_middle (decimal w) (decimal h) blank feed

-- ---- what `board_size` answers
module _ {b : List ℕ} where
  pub no_side : Side (front b (blank_place b)) None → (w h : ℕ) → Asks b w h → ⊥
  no_side f w h a = f w a.wide a.narrow (asks_front a)

  pub no_other_side : Side (middle b (blank_place b)) None → (w h : ℕ) → Asks b w h → ⊥
  no_other_side f w h a = f h a.high a.low (asks_middle a)

  pub size_is : (w h : ℕ) → Side (front b (blank_place b)) (Some w) → Side (middle b (blank_place b)) (Some h) → 4 ≤ length b
      → get_or b (blank_place b) 0 ≡ blank → get_or b (length b - 1) 0 ≡ feed → Asks b w h
  unfolding field
  size_is w h s t l x y =
      record {
        wide = s.0;
        narrow = s.1;
        high = t.0;
        low = t.1;
        text =
            parts_join b (blank_place b) (omega (arith, (place_some b).1))
            ∙ ap₂ ◌++◌ (ap₂ (λ d c. d ++ (c ∷ [])) s.2 x) (ap₂ (λ d c. d ++ (c ∷ [])) t.2 y);
      }

-- ---- a text asks for one size
pub asks_unique : {b : List ℕ} {w h w' h' : ℕ} → Asks b w h → Asks b w' h' → (w ≡ w') × (h ≡ h')
asks_unique a c =
    (decimal_same a.narrow c.narrow (sym (asks_front a) ∙ asks_front c), decimal_same a.low c.low (sym (asks_middle a) ∙ asks_middle c))
