-- Four stores in a row. Assumes nothing.
use Prim.Native.Nat.{ℕ, ◌+◌, ◌≤◌, ◌<◌}
use mathlib.Core.Path.{◌≡◌, ◌∙◌}
use mathlib.Core.List.{List}
use native.Mathlib.Omega.{arith}
use lib.ListN.{length, get_or, set, drop, length-set}
use lib.Seq.{get_or-set_same, get_or-set_other, drop-set-lt}

module _ {A : Type 0} (c : List A) (i : ℕ) (a b d e z : A) (room : i + 4 ≤ length c) where
  abbrev one_set : List A
  one_set = set c i a

  abbrev two_set : List A
  two_set = set (set c i a) (i + 1) b

  abbrev three_set : List A
  three_set = set (set (set c i a) (i + 1) b) (i + 2) d

  abbrev pub four_set : List A
  four_set = set (set (set (set c i a) (i + 1) b) (i + 2) d) (i + 3) e

  long_1 : length one_set ≡ length c
  long_1 = length-set c i a

  long_2 : length two_set ≡ length c
  long_2 = length-set one_set (i + 1) b ∙ long_1

  long_3 : length three_set ≡ length c
  long_3 = length-set two_set (i + 2) d ∙ long_2

  pub four_long : length four_set ≡ length c
  four_long = length-set three_set (i + 3) e ∙ long_3

  pub four_0 : get_or four_set i z ≡ a
  four_0 =
      get_or-set_other three_set (i + 3) i e z (λ q. omega arith)
      ∙ get_or-set_other two_set (i + 2) i d z (λ q. omega arith)
      ∙ get_or-set_other one_set (i + 1) i b z (λ q. omega arith)
      ∙ get_or-set_same c i a z (omega arith)

  pub four_1 : get_or four_set (i + 1) z ≡ b
  four_1 =
      get_or-set_other three_set (i + 3) (i + 1) e z (λ q. omega arith)
      ∙ get_or-set_other two_set (i + 2) (i + 1) d z (λ q. omega arith)
      ∙ get_or-set_same one_set (i + 1) b z (omega (arith, long_1))

  pub four_2 : get_or four_set (i + 2) z ≡ d
  four_2 =
      get_or-set_other three_set (i + 3) (i + 2) e z (λ q. omega arith)
      ∙ get_or-set_same two_set (i + 2) d z (omega (arith, long_2))

  pub four_3 : get_or four_set (i + 3) z ≡ e
  four_3 = get_or-set_same three_set (i + 3) e z (omega (arith, long_3))

  pub four_before : (q : ℕ) → q < i → get_or four_set q z ≡ get_or c q z
  four_before q h =
      get_or-set_other three_set (i + 3) q e z (λ r. omega arith)
      ∙ get_or-set_other two_set (i + 2) q d z (λ r. omega arith)
      ∙ get_or-set_other one_set (i + 1) q b z (λ r. omega arith)
      ∙ get_or-set_other c i q a z (λ r. omega arith)

  pub four_rest : drop (i + 4) four_set ≡ drop (i + 4) c
  four_rest =
      drop-set-lt (i + 4) three_set (i + 3) e (omega arith)
      ∙ drop-set-lt (i + 4) two_set (i + 2) d (omega arith)
      ∙ drop-set-lt (i + 4) one_set (i + 1) b (omega arith)
      ∙ drop-set-lt (i + 4) c i a (omega arith)
