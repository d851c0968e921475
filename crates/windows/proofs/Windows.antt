-- The answer for a rectangle: the equation gives it by meaning, there is one only, and the walk's tally is its numbers. Assumes nothing.
use Prim.Native.Nat.{ℕ, zero, suc, ◌+◌, ◌^◌, ◌<◌}
use native.Mathlib.Nat.{mul-one}
use native.Mathlib.Omega.{arith}
use mathlib.Core.Path.{◌≡◌, refl, sym, ap, subst, ◌∙◌}
use mathlib.Core.Bool.{true, false, cond, true≢false}
use mathlib.Core.Logic.{◌⊎◌, inl, inr, ⊎_elim}
use lib.Dec.{eqb}
use borrow.Author.Tests.{eq-eqb, ne_eqb}
use Rattle.std.specs.Prelude.{Option, Some, None}
use Rattle.std.specs.Option.{option_or, option_map}
use Rattle.base.specs.Loops.{turns}
use Rattle.base.proofs.Arith.{le_or_lt, last_or}
use Rattle.base.proofs.Pick.{pick_yes, pick_no, cond_elim}
use Rattle.base.proofs.Tests.{either}
use Rattle.blobs.specs.Patches.{total, one}
use Rattle.blobs.proofs.Sums.{total_same}
use Rattle.windows.specs.Rectangles.{Valid, Shares, touches, distance}
use Rattle.windows.specs.Windows.{HowMany, FirstWith, LeastOf, WindowOf, first_met, window_step, no_window, window_of}
use Rattle.windows.specs.Windows.{no_patch, patch_number, patch_of}
use Rattle.windows.specs.Steps.{met, tally_of, window_in}
use Rattle.windows.specs.declared.Rectangle.{Rectangle}
use Rattle.windows.specs.declared.Window.{Window}
use Rattle.windows.specs.declared.tally.Near.{Near}
use Rattle.windows.specs.declared.tally.Tally.{Tally}
use Rattle.windows.proofs.Touching.{touches_shares, shares_touches}
use Rattle.windows.proofs.Nearest.{nearest_more}
use Rattle.windows.proofs.Least.{near_of, nearest_step}

pub window_same : {a b : Window} → a.count ≡ b.count → a.first ≡ b.first → a.nearest ≡ b.nearest → a ≡ b
window_same p q r = λ z. record { count = p z; first = q z; nearest = r z }

-- ---- the first, with one patch more

first_more : (t : ℕ → Rectangle) (r : Rectangle) (P : ℕ → Type 0) (n : ℕ) → (touches r (t n) ≡ true → P n) → (touches r (t n) ≡ false → P n → ⊥)
    → (p : Option ℕ) → FirstWith P n p → FirstWith P (suc n) (first_met t r n p)
unfolding first_met
first_more t r P n f g (Some j) h = (omega (arith, h.0), h.1, h.2)
first_more t r P n f g None h =
    cond_elim (FirstWith P (suc n)) (touches r (t n)) (Some n) None
    (λ e. (omega arith, f e, h))
    (λ e j l. ⊎_elim (λ q. subst (λ i. P i → ⊥) (sym q) (g e)) (λ b. h j b) (last_or j n l))

-- ---- the equation, patch by patch
module _ (t : ℕ → Rectangle) (r : Rectangle) where
  abbrev hit : ℕ → ℕ
  hit j = cond (touches r (t j)) 1 0

  pub window_none : window_of t 0 r ≡ no_window
  unfolding window_of turns
  window_none = refl

  window_more : (n : ℕ) → window_of t (suc n) r ≡ window_step t r n (window_of t n r)
  unfolding window_of turns
  window_more n = refl

  count_total : (n : ℕ) → (window_of t n r).count ≡ total one hit n
  unfolding window_of turns total
  count_total zero = refl
  count_total (suc n) = omega (arith, count_total n, mul-one (hit n))

  -- ---- by meaning
  module _ (s : Valid r) where
    hit_shares : (j : ℕ) → Valid (t j) → ((hit j ≡ 1) × Shares r (t j)) ⊎ ((hit j ≡ 0) × (Shares r (t j) → ⊥))
    hit_shares j h = ⊎_elim
        (λ e. inl (sym (pick_yes (touches r (t j)) 1 0 e), touches_shares r (t j) s h e))
        (λ e. inr (sym (pick_no (touches r (t j)) 1 0 e), λ q. true≢false (sym (shares_touches r (t j) q) ∙ e)))
        (either (touches r (t j)))

    first_is : (n : ℕ) → ((j : ℕ) → j < n → Valid (t j)) → FirstWith (λ j. Shares r (t j)) n (window_of t n r).first
    first_is zero h = subst (λ a. FirstWith (λ j. Shares r (t j)) 0 a.first) (sym window_none) (λ j l. absurd (omega arith))
    first_is (suc n) h =
        subst (λ a. FirstWith (λ j. Shares r (t j)) (suc n) a.first) (sym (window_more n))
        (first_more t r (λ j. Shares r (t j)) n
        (λ e. touches_shares r (t n) s (h n (omega arith)) e)
        (λ e q. true≢false (sym (shares_touches r (t n) q) ∙ e))
        (window_of t n r).first (first_is n (λ j l. h j (omega arith))))

    nearest_is : (n : ℕ) → LeastOf (λ j. distance r (t j)) n (window_of t n r).nearest
    nearest_is zero = subst (λ a. LeastOf (λ j. distance r (t j)) 0 a.nearest) (sym window_none) refl
    nearest_is (suc n) =
        subst (λ a. LeastOf (λ j. distance r (t j)) (suc n) a.nearest) (sym (window_more n)) (nearest_more t r n (window_of t n r).nearest (nearest_is n))

    pub window_is : (n : ℕ) → ((j : ℕ) → j < n → Valid (t j)) → WindowOf t n r (window_of t n r)
    window_is n h =
        record {
          count_is = record { counts = hit; counted = λ j l. hit_shares j (h j l); many = count_total n };
          first_is = first_is n h;
          nearest_is = nearest_is n;
        }

-- ---- there is one only

many_one : (P : ℕ → Type 0) (n a b : ℕ) → HowMany P n a → HowMany P n b → a ≡ b
many_one P n a b p q = p.many ∙ total_same one p.counts q.counts n (λ j l. alike j (p.counted j l) (q.counted j l)) ∙ sym q.many
  where
    alike : (j : ℕ) → ((p.counts j ≡ 1) × P j) ⊎ ((p.counts j ≡ 0) × (P j → ⊥)) → ((q.counts j ≡ 1) × P j) ⊎ ((q.counts j ≡ 0) × (P j → ⊥))
        → p.counts j ≡ q.counts j
    alike j (inl x) (inl y) = x.0 ∙ sym y.0
    alike j (inl x) (inr y) = absurd (y.1 x.1)
    alike j (inr x) (inl y) = absurd (x.1 y.1)
    alike j (inr x) (inr y) = x.0 ∙ sym y.0

-- neither of two places comes before the other
level : (i j : ℕ) → (i < j → ⊥) → (j < i → ⊥) → i ≡ j
level i j f g = ⊎_elim (λ h. ⊎_elim (λ e. e) (λ l. absurd (f l)) (last_or i j (omega arith))) (λ h. absurd (g h)) (le_or_lt i j)

first_one : (P : ℕ → Type 0) (n : ℕ) (a b : Option ℕ) → FirstWith P n a → FirstWith P n b → a ≡ b
first_one P n None None p q = refl
first_one P n None (Some j) p q = absurd (p j q.0 q.1)
first_one P n (Some i) None p q = absurd (q i p.0 p.1)
first_one P n (Some i) (Some j) p q = ap Some (level i j (λ l. q.2 i l p.1) (λ l. p.2 j l q.1))

nearest_one : (d : ℕ → ℕ) (n : ℕ) (a b : Option ℕ) → LeastOf d n a → LeastOf d n b → a ≡ b
nearest_one d n None None p q = refl
nearest_one d n None (Some j) p q = absurd (omega (arith, q.0))
nearest_one d n (Some i) None p q = absurd (omega (arith, p.0))
nearest_one d n (Some i) (Some j) p q = ap Some (level i j (λ l. omega (arith, q.2 i l, p.1 j q.0)) (λ l. omega (arith, p.2 j l, q.1 i p.0)))

pub window_one : (t : ℕ → Rectangle) (n : ℕ) (r : Rectangle) (a b : Window) → WindowOf t n r a → WindowOf t n r b → a ≡ b
window_one t n r a b p q =
    window_same
    (many_one _ n a.count b.count p.count_is q.count_is)
    (first_one _ n a.first b.first p.first_is q.first_is)
    (nearest_one _ n a.nearest b.nearest p.nearest_is q.nearest_is)

-- ---- in numbers

-- a patch before place n
abbrev pub Before : ℕ → Option ℕ → Type 0
Before n None = Unit {0}
Before n (Some j) = j < n

pub first_before : (P : ℕ → Type 0) (n : ℕ) (p : Option ℕ) → FirstWith P n p → Before n p
first_before P n None h = tt
first_before P n (Some j) h = h.0

pub nearest_before : (d : ℕ → ℕ) (n : ℕ) (p : Option ℕ) → LeastOf d n p → Before n p
nearest_before d n None h = tt
nearest_before d n (Some j) h = h.0

-- a place before 2 ^ 64 - 1 is not the number of no patch
place_number : (n j : ℕ) → n < 2 ^ 64 → j < n → eqb j no_patch ≡ false
place_number n j f l = ne_eqb j no_patch (λ e. omega arith)

pub named : (n : ℕ) (p : Option ℕ) → n < 2 ^ 64 → Before n p → patch_of (patch_number p) ≡ p
unfolding patch_of patch_number
named n None f h = sym (pick_yes _ None (Some no_patch) (eq-eqb no_patch no_patch refl))
named n (Some j) f h = sym (pick_no _ None (Some j) (place_number n j f h))

-- ---- the tally is the answer, with the distance of the nearest

module _ (t : ℕ → Rectangle) (r : Rectangle) where
  abbrev tallied : Window → Tally
  tallied a = record { count = a.count; first = a.first; nearest = option_map (near_of t r) a.nearest }

  first_step : (n : ℕ) (p : Option ℕ) → option_or p (cond (touches r (t n)) (Some n) None) ≡ first_met t r n p
  unfolding first_met
  first_step n None = refl
  first_step n (Some i) = refl

  tally_is : (n : ℕ) → tally_of t n r ≡ tallied (window_of t n r)
  unfolding tally_of turns window_of met
  tally_is zero = refl
  tally_is (suc n) =
      let a = window_of t n r in
      let first = first_step n a.first in
      let nearest = nearest_step t r n a.nearest in
      ap (met r (t n) n) (tally_is n)
      ∙ (λ z. record { count = a.count + cond (touches r (t n)) 1 0; first = first z; nearest = nearest z })

  nearest_back : (p : Option ℕ) → option_map (λ (m : Near). m.patch) (option_map (near_of t r) p) ≡ p
  nearest_back None = refl
  nearest_back (Some j) = refl

  pub tally_answers : (n : ℕ) → window_in (tally_of t n r) ≡ window_of t n r
  tally_answers n = ap window_in (tally_is n) ∙ window_same refl refl (nearest_back (window_of t n r).nearest)
