-- The number of a refusal, test by test, from the lengths as the code divides them. Assumes nothing.
use borrow.Author.Tests.{lt-ltb, le-ltb}
use native.Mathlib.Omega.{arith}
use mathlib.Core.Path.{◌≡◌, refl, sym, ap, ◌∙◌}
use mathlib.Core.Bool.{Bool, true, false, not, ◌||◌}
use mathlib.Core.List.{List, [], ◌∷◌}
use Prim.Native.Nat.{ℕ, ◌*◌, ◌/◌, ◌≤◌, ◌<◌}
use lib.Dec.{ltb}
use lib.ListN.{length}
use Rattle.base.proofs.Tests.{or_first, or_second, or_neither}
use Rattle.std.specs.Prelude.{Result, Ok, Err}
use Rattle.frame.specs.Refusals.{check, lowest_of, answer_for}
use Rattle.frame.specs.declared.refusals.Refusal.{Refusal}
use Rattle.frame.specs.declared.refusals.Refusal.TheVariants.{RectangleWrong}
use Rattle.frame.specs.Refusals as Refusals
use Rattle.frame.proofs.Given.{positive}
use Rattle.frame.proofs.Lowest.{lowest_first, lowest_next, lowest_none}
use Rattle.windows.specs.Rectangles.{every_rectangle, every_box}
use Rattle.windows.specs.Steps.{Fitting}
use Rattle.windows.specs.Promises.{window_tests, Windowing}

-- what the walk answers tells of the boxes
module _ {A : Type 0} (v : A) where
  abbrev answer : Bool → Result A Refusal
  answer b = answer_for (check RectangleWrong (not b) ∷ []) v

  pub boxes_hold : (b : Bool) (x : A) → Ok x ≡ answer b → (b ≡ true) × (x ≡ v)
  unfolding answer_for
  boxes_hold true x e = (refl, cc)
  boxes_hold false x e = absurd (cc)

  pub boxes_fail : (b : Bool) (r : Refusal) → Err r ≡ answer b → (b ≡ false) × (r ≡ RectangleWrong)
  unfolding answer_for
  boxes_fail true r e = absurd (cc)
  boxes_fail false r e = (refl, cc)

module _ (patches : List ℕ) (n : ℕ) (windows : List ℕ) (k : ℕ) (answers : List ℕ) where
  abbrev short : Bool
  short = ltb (length answers) (3 * k) || (ltb (length windows) (4 * k) || ltb (length patches) (8 * n))

  abbrev bad : Bool
  bad = ltb 64 k || (not (every_rectangle windows k) || not (every_box patches n))

  abbrev number : ℕ
  number = lowest_of (window_tests patches n windows k answers)

  gives_3 : short ≡ true → 3 ≡ number
  unfolding window_tests
  gives_3 e = sym (lowest_first _ short (check RectangleWrong bad ∷ []) e)

  pub short_answers_lem : length answers / 3 < k → 3 ≡ number
  short_answers_lem h = gives_3 (or_first _ _ (lt-ltb (length answers) (3 * k) (omega arith)))

  pub short_windows_lem : length windows / 4 < k → 3 ≡ number
  short_windows_lem h = gives_3 (or_second (ltb (length answers) (3 * k)) _ (or_first _ _ (lt-ltb (length windows) (4 * k) (omega arith))))

  pub short_patches_lem : length patches / 8 < n → 3 ≡ number
  short_patches_lem h =
      gives_3 (or_second (ltb (length answers) (3 * k)) _ (or_second (ltb (length windows) (4 * k)) _ (lt-ltb (length patches) (8 * n) (omega arith))))

  module _ (h : k ≤ length answers / 3) (i : k ≤ length windows / 4) (j : n ≤ length patches / 8) where
    long : number ≡ lowest_of (check RectangleWrong bad ∷ [])
    unfolding window_tests
    long =
        lowest_next _ short (check RectangleWrong bad ∷ [])
        (or_neither _ _ (le-ltb (length answers) (3 * k) (omega arith))
        (or_neither _ _ (le-ltb (length windows) (4 * k) (omega arith)) (le-ltb (length patches) (8 * n) (omega arith))))

    gives_17 : bad ≡ true → 17 ≡ number
    gives_17 e = sym (long ∙ lowest_first _ bad [] e)

    pub too_many_lem : 64 < k → 17 ≡ number
    too_many_lem m = gives_17 (or_first _ _ (lt-ltb 64 k m))

    pub bad_rectangle_lem : every_rectangle windows k ≡ false → 17 ≡ number
    bad_rectangle_lem e = gives_17 (or_second (ltb 64 k) _ (or_first _ _ (ap not e)))

    pub fitting : k ≤ 64 → every_rectangle windows k ≡ true → Fitting patches n windows k (length answers)
    fitting m r = record { held = omega arith; handed = omega arith; listed = omega arith; few = m; rectangles = r }

  module _ (f : Fitting patches n windows k (length answers)) where
    pub bad_box_lem : every_box patches n ≡ false → 17 ≡ number
    bad_box_lem e =
        gives_17 (omega (arith, f.held)) (omega (arith, f.handed)) (omega (arith, f.listed))
        (or_second (ltb 64 k) _ (or_second (not (every_rectangle windows k)) _ (ap not e)))

    pub none_bad : every_box patches n ≡ true → number ≡ 0
    none_bad b =
        long (omega (arith, f.held)) (omega (arith, f.handed)) (omega (arith, f.listed))
        ∙ lowest_next _ bad [] (or_neither _ _ (le-ltb 64 k f.few) (or_neither _ _ (ap not f.rectangles) (ap not b)))
        ∙ lowest_none

  -- a refused call leaves the answers
  pub windowing_refused : (r : Refusal) → Refusals.number r ≡ number → Windowing patches n windows k answers answers (Refusals.number r)
  windowing_refused r e =
      let p = positive r in
      record { given = e; accepted = λ z. absurd (omega (arith, e, z)); means = λ z. absurd (omega (arith, e, z)); refused = λ _. refl }
