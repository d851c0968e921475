-- `Joined` as an equivalence of dark pixels, and sets of pixels that it does not leave. Assumes nothing.
use Prim.Native.Nat.{ℕ}
use mathlib.Core.Path.{◌≡◌}
use mathlib.Core.List.{List}
use Rattle.blobs.specs.Patches.{Dark, Joined}
use Rattle.blobs.specs.Patches.Joined.{here, step}
use Rattle.blobs.specs.Ready.{at, Closed}
use Rattle.blobs.proofs.Grid.{touch_back}

pub joined_dark : {m : List ℕ} {w p q : ℕ} → Joined m w p q → Dark m q
joined_dark (here d) = d
joined_dark (step j t d) = d

pub joined_from : {m : List ℕ} {w p q : ℕ} → Joined m w p q → Dark m p
joined_from (here d) = d
joined_from (step j t d) = joined_from j

pub joined_trans : {m : List ℕ} {w p q r : ℕ} → Joined m w p q → Joined m w q r → Joined m w p r
joined_trans j (here d) = j
joined_trans j (step i t d) = step (joined_trans j i) t d

pub joined_sym : {m : List ℕ} {w p q : ℕ} → Joined m w p q → Joined m w q p
joined_sym (here d) = here d
joined_sym (step j t d) = joined_trans (step (here d) (touch_back t) (joined_dark j)) (joined_sym j)

-- marks with all dark pixels around each of theirs have all that are joined to one, both ways
pub closed_all : {m : List ℕ} {w : ℕ} (s : List ℕ) {p q : ℕ} → Closed m w s → at s p ≡ 1 → Joined m w p q → at s q ≡ 1
closed_all s c e (here d) = e
closed_all s c e (step j t d) = c _ _ (closed_all s c e j) t d

pub closed_back : {m : List ℕ} {w : ℕ} (s : List ℕ) {p q : ℕ} → Closed m w s → Joined m w p q → at s q ≡ 1 → at s p ≡ 1
closed_back s c (here d) e = e
closed_back s c (step j t d) e = closed_back s c j (c _ _ e (touch_back t) (joined_dark j))
