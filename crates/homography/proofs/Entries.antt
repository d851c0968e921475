-- What the elimination's loops over a row leave at each entry, over any arithmetic. Assumes nothing.
use mathlib.Core.Path.{◌≡◌, refl, ap, ap₂, subst⁻¹, ◌∙◌}
use mathlib.Core.List.{List}
use mathlib.Core.Logic.{◌≢◌, ⊎_elim}
use Prim.Native.Nat.{ℕ, zero, suc, ◌+◌, ◌*◌, ◌≤◌, ◌<◌}
use native.Mathlib.Decide.{ℕ_discrete}
use native.Mathlib.Nat.{eq-or-lt_of_le}
use native.Mathlib.Omega.{arith}
use lib.ListN.{length, set, length-set}
use lib.Seq.{get_or-set_same, get_or-set_other}
use Rattle.base.specs.Loops.{turns}
use Rattle.homography.specs.Arithmetic.{Arithmetic}
use Rattle.homography.specs.Elimination.{entry, swap_at}

pub same_or_not : {P : Type 0} (m n : ℕ) → (m ≡ n → P) → (m ≢ n → P) → P
same_or_not {P} m n f g = go (ℕ_discrete m n)
  where
    go : Dec (m ≡ n) → P
    go (yes e) = f e
    go (no d) = g d

-- a row r of which the columns from lo on, n of them, are written: entry j becomes h of what stood there and of what stood in row c
pub record Written {A : Type 0} (N : Arithmetic A) (h : A → A → A) (r c lo n : ℕ) (a b : List A) : Type 0 where
  pub len : length b ≡ 72
  pub before : (s j : ℕ) → j < lo → entry N b s j ≡ entry N a s j
  pub later : (s j : ℕ) → lo + n ≤ j → j < 9 → entry N b s j ≡ entry N a s j
  pub other : (s j : ℕ) → j < 9 → s ≢ r → entry N b s j ≡ entry N a s j
  pub done : (j : ℕ) → lo ≤ j → j < lo + n → entry N b r j ≡ h (entry N a r j) (entry N a c j)

-- rows p and q of which the first n columns have changed places
pub record Exchanged {A : Type 0} (N : Arithmetic A) (p q n : ℕ) (a b : List A) : Type 0 where
  pub len : length b ≡ 72
  pub later : (s j : ℕ) → n ≤ j → j < 9 → entry N b s j ≡ entry N a s j
  pub other : (s j : ℕ) → j < 9 → s ≢ p → s ≢ q → entry N b s j ≡ entry N a s j
  pub at_p : (j : ℕ) → j < n → entry N b p j ≡ entry N a q j
  pub at_q : (j : ℕ) → j < n → entry N b q j ≡ entry N a p j

module _ {A : Type 0} (N : Arithmetic A) where
  set_there : (b : List A) (r j : ℕ) (v : A) → length b ≡ 72 → r < 8 → j < 9 → entry N (set b (r * 9 + j) v) r j ≡ v
  set_there b r j v l p q = get_or-set_same b (r * 9 + j) v N.outside (omega arith)

  set_elsewhere : (b : List A) (r j s k : ℕ) (v : A) → j < 9 → k < 9 → (s ≡ r → k ≡ j → ⊥) → entry N (set b (r * 9 + j) v) s k ≡ entry N b s k
  set_elsewhere b r j s k v p q d = get_or-set_other b (r * 9 + j) (s * 9 + k) v N.outside (λ e. d (omega arith) (omega arith))

  abbrev pub write_at : (A → A → A) → ℕ → ℕ → ℕ → List A → List A
  write_at h r c j b = set b (r * 9 + j) (h (entry N b r j) (entry N b c j))

  pub written :
      (h : A → A → A) (r c lo : ℕ) (a : List A) → length a ≡ 72 → r < 8 → (n : ℕ) → lo + n ≤ 9
      → Written N h r c lo n a (turns n (λ k. write_at h r c (lo + k)) a)
  unfolding turns
  written h r c lo a l p zero q = record {
    len = l;
    before = λ s j i. refl;
    later = λ s j i k. refl;
    other = λ s j i d. refl;
    done = λ j i k. absurd (omega arith);
  }
  written h r c lo a l p (suc n) q =
      let w = written h r c lo a l p n (omega arith) in
      let b = turns n (λ k. write_at h r c (lo + k)) a in
      let v = h (entry N b r (lo + n)) (entry N b c (lo + n)) in
      let e : v ≡ h (entry N a r (lo + n)) (entry N a c (lo + n)) =
      ap₂ h (w.later r (lo + n) (omega arith) (omega arith)) (w.later c (lo + n) (omega arith) (omega arith))
      in
      record {
        len = length-set b (r * 9 + (lo + n)) v ∙ w.len;
        before = λ s j i. set_elsewhere b r (lo + n) s j v (omega arith) (omega arith) (λ _ k. omega arith) ∙ w.before s j i;
        later = λ s j i k. set_elsewhere b r (lo + n) s j v (omega arith) k (λ _ f. omega arith) ∙ w.later s j (omega arith) k;
        other = λ s j i d. set_elsewhere b r (lo + n) s j v (omega arith) i (λ k _. d k) ∙ w.other s j i d;
        done = λ j i k.
            ⊎_elim
            (λ f. subst⁻¹ (λ x. entry N (set b (r * 9 + (lo + n)) v) r x ≡ h (entry N a r x) (entry N a c x)) f (set_there b r (lo + n) v w.len p (omega arith) ∙ e))
            (λ f. set_elsewhere b r (lo + n) r j v (omega arith) (omega arith) (λ _ g. omega arith) ∙ w.done j i f)
            (eq-or-lt_of_le {n = j} {m = lo + n} (omega arith));
      }

  pub exchanged : (p q : ℕ) (a : List A) → length a ≡ 72 → p < 8 → q < 8 → (n : ℕ) → n ≤ 9 → Exchanged N p q n a (turns n (swap_at N p q) a)
  unfolding turns
  exchanged p q a l lp lq zero m = record {
    len = l;
    later = λ s j i k. refl;
    other = λ s j i d e. refl;
    at_p = λ j i. absurd (omega arith);
    at_q = λ j i. absurd (omega arith);
  }
  exchanged p q a l lp lq (suc n) m =
      let w = exchanged p q a l lp lq n (omega arith) in
      let b = turns n (swap_at N p q) a in
      let x = entry N b q n in
      let y = entry N b p n in
      let c = set b (p * 9 + n) x in
      let d = set c (q * 9 + n) y in
      let lc : length c ≡ 72 = length-set b (p * 9 + n) x ∙ w.len in
      let i : n < 9 = omega arith in
      let ex : x ≡ entry N a q n = w.later q n (omega arith) i in
      let ey : y ≡ entry N a p n = w.later p n (omega arith) i in
      let past : (s j : ℕ) → j < 9 → j ≢ n → entry N d s j ≡ entry N b s j =
      λ s j k f. set_elsewhere c q n s j y i k (λ _ g. f g) ∙ set_elsewhere b p n s j x i k (λ _ g. f g)
      in
      let here_q : entry N d q n ≡ entry N a p n = set_there c q n y lc lq i ∙ ey in
      let here_p : entry N d p n ≡ entry N a q n =
      same_or_not p q
      (λ f. subst⁻¹ (λ z. entry N d z n ≡ entry N a q n) f (here_q ∙ ap (λ z. entry N a z n) f))
      (λ f. set_elsewhere c q n p n y i i (λ g _. f g) ∙ set_there b p n x w.len lp i ∙ ex)
      in
      record {
        len = length-set c (q * 9 + n) y ∙ lc;
        later = λ s j k f. past s j f (omega arith) ∙ w.later s j (omega arith) f;
        other = λ s j k f g. set_elsewhere c q n s j y i k (λ z _. g z) ∙ set_elsewhere b p n s j x i k (λ z _. f z) ∙ w.other s j k f g;
        at_p = λ j k.
            ⊎_elim
            (λ f. subst⁻¹ (λ z. entry N d p z ≡ entry N a q z) f here_p)
            (λ f. past p j (omega arith) (omega arith) ∙ w.at_p j f)
            (eq-or-lt_of_le {n = j} {m = n} (omega arith));
        at_q = λ j k.
            ⊎_elim
            (λ f. subst⁻¹ (λ z. entry N d q z ≡ entry N a p z) f here_q)
            (λ f. past q j (omega arith) (omega arith) ∙ w.at_q j f)
            (eq-or-lt_of_le {n = j} {m = n} (omega arith));
      }
