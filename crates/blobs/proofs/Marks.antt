-- What counts the pixels of a predicate: there is one such function, and of two predicates that exclude each other they add up. Assumes nothing.
use Prim.Native.Nat.{ℕ, ◌+◌}
use native.Mathlib.Omega.{arith}
use mathlib.Core.Path.{◌≡◌, sym, ◌∙◌}
use mathlib.Core.Logic.{◌⊎◌, inl, inr, ⊎_elim}
use Rattle.blobs.specs.Patches.{Marks}

pub marks_same : (c d : ℕ → ℕ) (P : ℕ → Type 0) → Marks c P → Marks d P → (q : ℕ) → c q ≡ d q
marks_same c d P m n q = ⊎_elim
    (λ a. ⊎_elim (λ b. a.0 ∙ sym b.0) (λ b. absurd (b.1 a.1)) (n q))
    (λ a. ⊎_elim (λ b. absurd (a.1 b.1)) (λ b. a.0 ∙ sym b.0) (n q))
    (m q)

-- the predicate in other words
pub marks_as : {c : ℕ → ℕ} {P Q : ℕ → Type 0} → ((q : ℕ) → P q → Q q) → ((q : ℕ) → Q q → P q) → Marks c P → Marks c Q
marks_as to from m q = ⊎_elim (λ a. inl (a.0, to q a.1)) (λ a. inr (a.0, λ x. a.1 (from q x))) (m q)

pub marks_either : {c d : ℕ → ℕ} {P Q : ℕ → Type 0} → ((q : ℕ) → P q → Q q → ⊥) → Marks c P → Marks d Q → Marks (λ q. c q + d q) (λ q. P q ⊎ Q q)
marks_either apart m n q = ⊎_elim
    (λ a. ⊎_elim (λ b. absurd (apart q a.1 b.1)) (λ b. inl (omega (arith, a.0, b.0), inl a.1)) (n q))
    (λ a. ⊎_elim (λ b. inl (omega (arith, a.0, b.0), inr b.1)) (λ b. inr (omega (arith, a.0, b.0), λ x. ⊎_elim a.1 b.1 x)) (n q))
    (m q)
