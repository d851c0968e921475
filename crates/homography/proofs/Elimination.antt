-- Over a field the elimination solves the equations: where no pivot is refused, every row holds for the last column. Each step can be undone, and leaves
-- the columns that it has passed as those of the identity. Assumes nothing.
use mathlib.Core.Path.{◌≡◌, refl, sym, ap, subst, subst⁻¹, ◌∙◌}
use mathlib.Core.Bool.{Bool, true, false, not, ◌&&◌, cond, true≢false, false≢true}
use mathlib.Core.List.{List}
use mathlib.Core.Logic.{◌≢◌, ⊎_elim}
use Prim.Native.Nat.{ℕ, zero, suc, ◌+◌, ◌-◌, ◌≤◌, ◌<◌}
use native.Mathlib.Nat.{eq-or-lt_of_le}
use native.Mathlib.Omega.{arith}
use lib.ListN.{length, get_or}
use borrow.Author.Tests.{eq-eqb, ne_eqb}
use Rattle.base.specs.Loops.{turns, between, table}
use Rattle.base.proofs.Turns.{turns_each}
use Rattle.base.proofs.Pick.{pick_yes, pick_no, cond_elim}
use Rattle.base.proofs.Arith.{le_or_lt}
use Rattle.homography.specs.Arithmetic.{Arithmetic, CommutativeRing, Field}
use Rattle.homography.specs.Elimination.{Elimination, entry, better, pivot_of, no_pivot, swapped, divided, reduce_at, reduced, clear_at, cleared}
use Rattle.homography.specs.Elimination.{eliminate, eliminated, solvable, last_column, solution}
use Rattle.homography.specs.Transform.{RowHolds, EightHold, EliminationSolves}
use Rattle.homography.proofs.Ring as ring
use Rattle.homography.proofs.Linear.{follows, scales, adds, total_single}
use Rattle.homography.proofs.Entries.{same_or_not, Written, written, Exchanged, exchanged}
use Rattle.homography.proofs.Transform.{eight}

-- a came from a₀, and the columns before col are cleared: whatever a's rows hold for, a₀'s do
pub record Progress {A : Type 0} (N : Arithmetic A) (a₀ a : List A) (col : ℕ) : Type 0 where
  pub len : length a ≡ 72
  pub diagonal : (j : ℕ) → j < col → entry N a j j ≡ N.one
  pub beside : (r j : ℕ) → r < 8 → j < col → r ≢ j → entry N a r j ≡ N.nought
  pub back : (h : ℕ → A) → EightHold N a h → EightHold N a₀ h

-- x came from c, and the rows before n are 0 in the column
record Cleaned {A : Type 0} (N : Arithmetic A) (c x : List A) (col n : ℕ) : Type 0 where
  pub len : length x ≡ 72
  pub pivot : (j : ℕ) → j < 9 → entry N x col j ≡ entry N c col j
  pub before : (r j : ℕ) → j < col → entry N x r j ≡ entry N c r j
  pub gone : (r : ℕ) → r < n → r ≢ col → entry N x r col ≡ N.nought
  pub back : (h : ℕ → A) → EightHold N x h → EightHold N c h

module _ {A : Type 0} (N : Arithmetic A) (F : Field N) where
  open N use {nought as 𝟘, one as 𝟙, plus as ◌⊞◌, times as ◌⊠◌, minus as ⊟◌, over, less}

  infixl 65 ◌⊞◌
  infixl 70 ◌⊠◌
  infix 75 ⊟◌
  abbrev R : CommutativeRing N
  R = F.ring

  -- ---- quotients
  module _ (d : A) (some : ¬ (d ≡ 𝟘)) where
    unit : (a : A) → a ≡ a ⊠ d ⊠ over 𝟙 d
    unit a =
        sym (R.times_one a) ∙ ap (λ z. a ⊠ z) (sym (R.times_comm d (over 𝟙 d) ∙ F.over_times 𝟙 d some)) ∙ sym (R.times_assoc a d (over 𝟙 d))

    cancel : (a b : A) → a ⊠ d ≡ b ⊠ d → a ≡ b
    cancel a b e = unit a ∙ ap (λ z. z ⊠ over 𝟙 d) e ∙ sym (unit b)

    over_self : over d d ≡ 𝟙
    over_self = cancel (over d d) 𝟙 (F.over_times d d some ∙ sym (ring.one_times N R d))

    pub over_product : (u : A) → over (u ⊠ d) d ≡ u
    over_product u = cancel (over (u ⊠ d) d) u (F.over_times (u ⊠ d) d some)

  -- ---- the pivot
  pivot_range : (a : List A) (col : ℕ) → col < 8 → (col ≤ pivot_of N a col) × (pivot_of N a col < 8)
  unfolding pivot_of between better
  pivot_range a col l =
      let P : ℕ → ℕ → Type 0 = λ k x. (col ≤ x) × (x < col + 1 + k) in
      let t = turns_each (λ k. better N a col (col + 1 + k)) col P (omega arith, omega arith)
      (λ k x h. cond_elim (P (k + 1)) (N.smaller (entry N a x col) (entry N a (col + 1 + k) col)) (col + 1 + k) x
      (λ e. (omega arith, omega arith)) (λ e. (h.0, omega (arith, h.1))))
      (8 - (col + 1)) in
      (t.0, omega (arith, t.1))

  some_pivot : (a : List A) (col : ℕ) → no_pivot N a col ≡ false → ¬ (entry N a (pivot_of N a col) col ≡ 𝟘)
  unfolding no_pivot
  some_pivot a col h e = true≢false (sym F.nought_small ∙ ap N.small (sym e) ∙ h)

  -- ---- two rows change places
  module _ (a₀ a : List A) (col p : ℕ) (g : Progress N a₀ a col) (lc : col < 8) (le : col ≤ p) (lp : p < 8) where
    swap_is : Exchanged N col p 9 a (swapped N a col p)
    unfolding swapped
    swap_is = exchanged N col p a g.len lc lp 9 (omega arith)

    swap_keeps : Progress N a₀ (swapped N a col p) col
    swap_keeps =
        let w = swap_is in
        let b = swapped N a col p in
        record {
          len = w.len;
          diagonal = λ j i. w.other j j (omega arith) (omega arith) (omega arith) ∙ g.diagonal j i;
          beside = λ r j l i d.
              same_or_not r col
              (λ k. subst⁻¹ (λ z. entry N b z j ≡ 𝟘) k (w.at_p j (omega arith) ∙ g.beside p j lp i (omega arith)))
              (λ x. same_or_not r p
              (λ k. subst⁻¹ (λ z. entry N b z j ≡ 𝟘) k (w.at_q j (omega arith) ∙ g.beside col j lc i (omega arith)))
              (λ y. w.other r j (omega arith) x y ∙ g.beside r j l i d));
          back = λ h q. g.back h (λ r l.
              same_or_not r col
              (λ k. subst⁻¹ (RowHolds N a h) k (follows N R (entry N b p) (entry N a col) h w.at_q (q p lp)))
              (λ x. same_or_not r p
              (λ k. subst⁻¹ (RowHolds N a h) k (follows N R (entry N b col) (entry N a p) h w.at_p (q col lc)))
              (λ y. follows N R (entry N b r) (entry N a r) h (λ j i. w.other r j i x y) (q r l))));
        }

  -- ---- the pivot row is divided
  module _ (a₀ b : List A) (col : ℕ) (g : Progress N a₀ b col) (lc : col < 8) (some : ¬ (entry N b col col ≡ 𝟘)) where
    abbrev pivoted : List A
    pivoted = divided N b col col (entry N b col col)

    divide_is : Written N (λ x y. over x (entry N b col col)) col col col (9 - col) b pivoted
    unfolding divided between
    divide_is = written N (λ x y. over x (entry N b col col)) col col col b g.len lc (9 - col) (omega arith)

    divide_one : entry N pivoted col col ≡ 𝟙
    divide_one = divide_is.done col (omega arith) (omega arith) ∙ over_self (entry N b col col) some

    times_pivot : (j : ℕ) → j < 9 → entry N b col j ≡ entry N pivoted col j ⊠ entry N b col col
    times_pivot j l =
        let w = divide_is in
        let d = entry N b col col in
        ⊎_elim
        (λ k. sym (ap (λ z. z ⊠ d) (w.done j k (omega arith)) ∙ F.over_times (entry N b col j) d some))
        (λ k. let z = g.beside col j lc k (omega arith) in z ∙ sym (ap (λ y. y ⊠ d) (w.before col j k ∙ z) ∙ ring.nought_times N R d))
        (le_or_lt col j)

    divide_keeps : Progress N a₀ pivoted col
    divide_keeps =
        let w = divide_is in
        record {
          len = w.len;
          diagonal = λ j i. w.before j j i ∙ g.diagonal j i;
          beside = λ r j l i d. w.before r j i ∙ g.beside r j l i d;
          back = λ h q. g.back h (λ r l.
              same_or_not r col
              (λ k. subst⁻¹ (RowHolds N b h) k (scales N R (entry N b col) (entry N pivoted col) h (entry N b col col) times_pivot (q col lc)))
              (λ x. follows N R (entry N pivoted r) (entry N b r) h (λ j i. w.other r j i x) (q r l)));
        }

  -- ---- every other row is reduced
  module _ (c : List A) (col : ℕ) (lc : col < 8) (one : entry N c col col ≡ 𝟙) (noughts : (j : ℕ) → j < col → entry N c col j ≡ 𝟘) where
    module _ (x : List A) (n : ℕ) (g : Cleaned N c x col n) (ln : n < 8) where
      -- a row that stays
      stays_clean : (n ≢ col → entry N x n col ≡ 𝟘) → Cleaned N c x col (suc n)
      stays_clean z = record {
        len = g.len;
        pivot = g.pivot;
        before = g.before;
        gone = λ r l d.
            ⊎_elim (λ k. subst⁻¹ (λ i. entry N x i col ≡ 𝟘) k (z (λ e. d (k ∙ e)))) (λ k. g.gone r k d) (eq-or-lt_of_le {n = r} {m = n} (omega arith));
        back = g.back;
      }

      -- a row that is reduced
      module _ (d : n ≢ col) where
        abbrev f : A
        f = entry N x n col

        abbrev y : List A
        y = between col 9 (reduce_at N n col f) x

        reduce_is : Written N (λ u v. less u (f ⊠ v)) n col col (9 - col) x y
        unfolding between
        reduce_is = written N (λ u v. less u (f ⊠ v)) n col col x g.len ln (9 - col) (omega arith)

        pivot_stays : (j : ℕ) → j < 9 → entry N y col j ≡ entry N x col j
        pivot_stays j l = reduce_is.other col j l (λ e. d (sym e))

        -- the row is the reduced one and f times the pivot row
        restored : (j : ℕ) → j < 9 → entry N x n j ≡ entry N y n j ⊞ f ⊠ entry N y col j
        restored j l =
            ⊎_elim
            (λ k. sym (ap (λ z. z ⊞ f ⊠ entry N y col j) (reduce_is.done j k (omega arith) ∙ F.less_is (entry N x n j) (f ⊠ entry N x col j))
            ∙ ap (λ z. entry N x n j ⊞ ⊟ (f ⊠ entry N x col j) ⊞ f ⊠ z) (pivot_stays j l)
            ∙ ring.minus_cancel N R (entry N x n j) (f ⊠ entry N x col j)))
            (λ k. sym (ap (λ z. z ⊞ f ⊠ entry N y col j) (reduce_is.before n j k)
            ∙ ap (λ z. entry N x n j ⊞ f ⊠ z) (pivot_stays j l ∙ g.pivot j l ∙ noughts j k)
            ∙ ap (λ z. entry N x n j ⊞ z) (ring.times_nought N R f)
            ∙ R.plus_nought (entry N x n j)))
            (le_or_lt col j)

        vanishes : entry N y n col ≡ 𝟘
        vanishes =
            reduce_is.done col (omega arith) (omega arith)
            ∙ F.less_is f (f ⊠ entry N x col col)
            ∙ ap (λ z. f ⊞ ⊟ z) (ap (λ z. f ⊠ z) (g.pivot col (omega arith) ∙ one) ∙ R.times_one f)
            ∙ R.plus_minus f

        reduce_cleans : Cleaned N c y col (suc n)
        reduce_cleans =
            let w = reduce_is in
            record {
              len = w.len;
              pivot = λ j l. pivot_stays j l ∙ g.pivot j l;
              before = λ r j l. w.before r j l ∙ g.before r j l;
              gone = λ r l e.
                  ⊎_elim
                  (λ k. subst⁻¹ (λ i. entry N y i col ≡ 𝟘) k vanishes)
                  (λ k. w.other r col (omega arith) (omega arith) ∙ g.gone r k e)
                  (eq-or-lt_of_le {n = r} {m = n} (omega arith));
              back = λ h q. g.back h (λ r l.
                  same_or_not r n
                  (λ k. subst⁻¹ (RowHolds N x h) k (adds N R (entry N x n) (entry N y n) (entry N y col) h f restored (q n ln) (q col lc)))
                  (λ k. follows N R (entry N y r) (entry N x r) h (λ j i. w.other r j i k) (q r l)));
            }

      cleans : Cleaned N c (reduced N x n col) col (suc n)
      unfolding reduced
      cleans =
          same_or_not n col
          (λ k. subst (λ z. Cleaned N c z col (suc n)) (pick_yes _ _ _ (eq-eqb n col k)) (stays_clean (λ d. absurd (d k))))
          (λ d. subst (λ z. Cleaned N c z col (suc n)) (pick_no _ _ _ (ne_eqb n col d)) (by_test d (N.same (entry N x n col) 𝟘) refl))
        where
          by_test :
              (d : n ≢ col) (t : Bool) → N.same (entry N x n col) 𝟘 ≡ t
              → Cleaned N c (cond (N.same (entry N x n col) 𝟘) x (between col 9 (reduce_at N n col (entry N x n col)) x)) col (suc n)
          by_test d true e = subst (λ z. Cleaned N c z col (suc n)) (pick_yes _ _ _ e) (stays_clean (λ _. F.same_is (entry N x n col) 𝟘 e))
          by_test d false e = subst (λ z. Cleaned N c z col (suc n)) (pick_no _ _ _ e) (reduce_cleans d)

    all_cleaned : length c ≡ 72 → (n : ℕ) → n ≤ 8 → Cleaned N c (turns n (clear_at N col) c) col n
    unfolding turns
    all_cleaned l zero m = record {
      len = l;
      pivot = λ j i. refl;
      before = λ r j i. refl;
      gone = λ r i d. absurd (omega arith);
      back = λ h q. q;
    }
    all_cleaned l (suc n) m = cleans (turns n (clear_at N col) c) n (all_cleaned l n (omega arith)) (omega arith)

  -- ---- one column
  column : (a₀ a : List A) (col : ℕ) → col < 8 → Progress N a₀ a col → no_pivot N a col ≡ false → Progress N a₀ (cleared N a col) (col + 1)
  unfolding cleared
  column a₀ a col lc g h =
      let p = pivot_of N a col in
      let v = pivot_range a col lc in
      let b = swapped N a col p in
      let s : ¬ (entry N b col col ≡ 𝟘) = λ e. some_pivot a col h (sym ((swap_is a₀ a col p g lc v.0 v.1).at_p col (omega arith)) ∙ e) in
      let gb = swap_keeps a₀ a col p g lc v.0 v.1 in
      let c = divided N b col col (entry N b col col) in
      let gc = divide_keeps a₀ b col gb lc s in
      let w = all_cleaned c col lc (divide_one a₀ b col gb lc s) (λ j i. gc.beside col j lc i (omega arith)) gc.len 8 (omega arith) in
      let y = turns 8 (clear_at N col) c in
      record {
        len = w.len;
        diagonal = λ j i.
            ⊎_elim
            (λ k. subst⁻¹ (λ z. entry N y z z ≡ 𝟙) k (w.pivot col (omega arith) ∙ divide_one a₀ b col gb lc s))
            (λ k. w.before j j k ∙ gc.diagonal j k)
            (eq-or-lt_of_le {n = j} {m = col} (omega arith));
        beside = λ r j l i d.
            ⊎_elim
            (λ k. subst⁻¹ (λ z. entry N y r z ≡ 𝟘) k (w.gone r l (λ e. d (e ∙ sym k))))
            (λ k. w.before r j k ∙ gc.beside r j l k d)
            (eq-or-lt_of_le {n = j} {m = col} (omega arith));
        back = λ x q. gc.back x (w.back x q);
      }

  -- ---- eight columns
  abbrev Going : List A → ℕ → Elimination A → Type 0
  Going a₀ k s = k ≤ 8 → s.going ≡ true → Progress N a₀ s.matrix k

  one_more : (a₀ : List A) (k : ℕ) (s : Elimination A) → Going a₀ k s → Going a₀ (k + 1) (eliminate N k s)
  unfolding eliminate
  one_more a₀ k s g l e = by_tests s.going (no_pivot N s.matrix k) refl refl
    where
      on : Elimination A
      on = record { going = true; matrix = cleared N s.matrix k }

      off : Elimination A
      off = record { going = false; matrix = s.matrix }

      stopped : s.going && not (no_pivot N s.matrix k) ≡ false → Progress N a₀ (eliminate N k s).matrix (k + 1)
      stopped t = absurd (false≢true (ap (λ (z : Elimination A). z.going) (pick_no (s.going && not (no_pivot N s.matrix k)) on off t) ∙ e))

      by_tests : (t u : Bool) → s.going ≡ t → no_pivot N s.matrix k ≡ u → Progress N a₀ (eliminate N k s).matrix (k + 1)
      by_tests true false x y =
          subst (λ (z : Elimination A). Progress N a₀ z.matrix (k + 1))
          (pick_yes (s.going && not (no_pivot N s.matrix k)) on off (rw (x, y)))
          (column a₀ s.matrix k (omega arith) (g (omega arith) x) y)
      by_tests true true x y = stopped (rw (x, y))
      by_tests false u x y = stopped (rw x)

  finally : (a : List A) → length a ≡ 72 → solvable N a ≡ true → Progress N a (eliminated N a).matrix 8
  unfolding solvable eliminated
  finally a l e =
      turns_each (eliminate N) (record { going = true; matrix = a }) (Going a) (λ _ _. start) (one_more a) 8 (omega arith) e
    where
      start : Progress N a a 0
      start = record {
        len = l;
        diagonal = λ j i. absurd (omega arith);
        beside = λ r j i k d. absurd (omega arith);
        back = λ h q. q;
      }

  column_is : (b : List A) (r : ℕ) → r < 8 → get_or (last_column N b) r N.outside ≡ entry N b r 8
  unfolding last_column table
  column_is b = eight (λ r. get_or (last_column N b) r N.outside ≡ entry N b r 8) refl refl refl refl refl refl refl refl

  -- the last column is what the rows of the identity hold for
  at_last : (a b : List A) → Progress N a b 8 → EightHold N b (λ j. get_or (last_column N b) j N.outside)
  at_last a b g r l =
      total_single N R (λ j. entry N b r j ⊠ get_or (last_column N b) j N.outside) 8 r l
      (λ j i d. ap (λ z. z ⊠ get_or (last_column N b) j N.outside) (g.beside r j l i (λ e. d (sym e))) ∙ ring.nought_times N R _)
      ∙ ap (λ z. z ⊠ get_or (last_column N b) r N.outside) (g.diagonal r l)
      ∙ ring.one_times N R _
      ∙ column_is b r l

pub elimination_solves : EliminationSolves
unfolding solution
elimination_solves A N F a l e =
    let g = finally N F a l e in
    g.back (λ j. get_or (solution N a) j N.outside) (at_last N F a (eliminated N a).matrix g)
