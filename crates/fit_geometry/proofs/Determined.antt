-- The answer of `fit_geometry`, and its planes, marks and records, are decided by the capture and the frame, where no test refuses it. Assumes nothing.
use Prim.Native.Nat.{ℕ, zero, suc, ◌≤◌}
use mathlib.Core.Path.{◌≡◌, refl, sym, ap, subst, ◌∙◌}
use mathlib.Core.Bool.{Bool, true, false}
use mathlib.Core.List.{List}
use native.Mathlib.Omega.{arith}
use borrow.Author.Tests.{ltb-true, ltb-false}
use lib.Dec.{ltb}
use lib.Ieee.{Float}
use lib.ListN.{length}
use Rattle.frame.specs.Image.{Image}
use Rattle.std.specs.Prelude.{Result, Ok, Err}
use Rattle.frame.specs.Refusals.{number_of, Check, Lowest, Tested, lowest_of}
use Rattle.frame.specs.Refusals.Lowest.{accepted, refused}
use Rattle.frame.specs.declared.FrameSpec.{FrameSpec}
use Rattle.frame.specs.declared.Quad.{Quad}
use Rattle.frame.specs.declared.refusals.Refusal.{Refusal}
use Rattle.frame.proofs.Given as given
use Rattle.frame.proofs.Lowest.{Rising, lowest_unique, lowest_holds, none_tested}
use Rattle.candidates.specs.Agreement.{SameLook}
use Rattle.candidates.specs.Areas.{Areas, lengths_of}
use Rattle.candidates.specs.Bounds.{Ready}
use Rattle.candidates.specs.Promises.{Looked}
use Rattle.candidates.proofs.Determined as look
use Rattle.candidates.proofs.Refusing.{rising, upto_six}
use Rattle.fiducials.specs.declared.Places.{Places}
use Rattle.fiducials.specs.Promises.{MarkedBy, centers_at}
use Rattle.fiducials.specs.Promises.Undetected.{tested, few, shared, crooked}
use Rattle.fiducials.proofs.Determined.{undetected_positive}
use Rattle.fiducials.proofs.Unique.{corners_mark, marked_unique, places_unique}
use Rattle.search.specs.Stages.{searched}
use Rattle.fit_geometry.specs.Agreement.{SameTests, SameFit}
use Rattle.fit_geometry.specs.Promises.{Unfitted, undetected, barren, fit_short, fit_tests, corners_named, FittingAfter, Fitting}
use Rattle.fit_geometry.specs.declared.PictureFit.{PictureFit}
use Rattle.fit_geometry.proofs.PastTests.{tests_lowest, fit_ready}

-- ---- numbers

-- accepted, refused by a test, or refused for what the picture shows
pub data Kind (n : ℕ) : Type 0 where
  fine : n ≡ 0 → Kind n
  low : 1 ≤ n → n ≤ 6 → Kind n
  high : 7 ≤ n → Kind n

pub kind : (n : ℕ) → Kind n
kind zero = fine refl
kind (suc n) = go (ltb (suc n) 7) refl
  where
    go : (b : Bool) → ltb (suc n) 7 ≡ b → Kind (suc n)
    go true e = low (omega arith) (let z = ltb-true (suc n) 7 e in omega arith)
    go false e = high (ltb-false (suc n) 7 e)

-- tests with numbers that rise from 1 to 6, and that leave areas long enough for a look
pub record Guarding (img : Image) (f : FrameSpec) (a : Areas) (t : List Check) : Type 0 where
  pub rises : Rising 0 t
  pub most : (j : ℕ) → Tested j t → j ≤ 6
  pub ready : lowest_of t ≡ 0 → Ready img f a

lowest_as : (C D : ℕ → Type 0) → ((k : ℕ) → C k → D k) → ((k : ℕ) → D k → C k) → (n : ℕ) → Lowest C n → Lowest D n
lowest_as C D to from n (accepted e g) = accepted e (λ k d. g k (from k d))
lowest_as C D to from n (refused c g) = refused (to n c) (λ k l d. g k l (from k d))

module _ (img : Image) (f : FrameSpec) where
  pub positive : (t : List Check) → Rising 0 t → (n : ℕ) → Unfitted img f t n → 1 ≤ n
  positive t r n (undetected u) = undetected_positive img f t r n u
  positive t r n (barren e q m b) = omega arith

  -- what the picture shows has a number from 7 on, whatever is tested
  shown : (t : List Check) → ((j : ℕ) → Tested j t → ⊥) → (n : ℕ) → Unfitted img f t n → 7 ≤ n
  shown t none n (undetected (tested x)) = absurd (none n x)
  shown t none n (undetected (few e x)) = omega arith
  shown t none n (undetected (shared e x)) = omega arith
  shown t none n (undetected (crooked e q m x)) = omega arith
  shown t none n (barren e q m b) = omega arith

  retested : (t t' : List Check) → ((j : ℕ) → Tested j t → ⊥) → (n : ℕ) → Unfitted img f t n → Unfitted img f t' n
  retested t t' none n (undetected (tested x)) = absurd (none n x)
  retested t t' none n (undetected (few e x)) = undetected (few e x)
  retested t t' none n (undetected (shared e x)) = undetected (shared e x)
  retested t t' none n (undetected (crooked e q m x)) = undetected (crooked e q m x)
  retested t t' none n (barren e q m b) = barren e q m b

  -- by 10 the corners are found
  ten_marked : (t : List Check) → ((j : ℕ) → Tested j t → j ≤ 6) → (n : ℕ) → 10 ≤ n → Unfitted img f t n → (n ≡ 10) × ((q : Quad) × MarkedBy img f q)
  ten_marked t most n h (undetected (tested x)) = absurd (let z = most n x in omega arith)
  ten_marked t most n h (undetected (few e x)) = absurd (omega arith)
  ten_marked t most n h (undetected (shared e x)) = absurd (omega arith)
  ten_marked t most n h (undetected (crooked e q m x)) = absurd (omega arith)
  ten_marked t most n h (barren e q m b) = (e, (q, m))

  module _ {a : Areas} (t : List Check) (g : Guarding img f a t) (n : ℕ) (l : Lowest (Unfitted img f t) n) where
    -- a test that holds gives the number
    by_test : 1 ≤ lowest_of t → n ≡ lowest_of t
    by_test h = lowest_unique (Unfitted img f t) (positive t g.rises) n (lowest_of t) l (tests_lowest img f t g.rises g.most (lowest_of t) refl h).0

    -- .. so none does where the call is accepted
    pub none_where : n ≡ 0 → lowest_of t ≡ 0
    none_where z = go (lowest_of t) refl
      where
        go : (k : ℕ) → lowest_of t ≡ k → lowest_of t ≡ 0
        go zero e = e
        go (suc k) e = absurd (let x : n ≡ lowest_of t = by_test (omega (arith, e)) in omega (arith, e))

    from_seven : lowest_of t ≡ 0 → 1 ≤ n → 7 ≤ n
    from_seven z h = shown t (none_tested t g.rises z) n (lowest_holds (Unfitted img f t) (positive t g.rises) n l h)

  -- the tests that two calls make do not tell them apart
  pub same_lowest : {a a' : Areas} (t t' : List Check) → Guarding img f a t → Guarding img f a' t' → SameTests t t' → (n n' : ℕ)
      → Lowest (Unfitted img f t) n → Lowest (Unfitted img f t') n' → n ≡ n'
  same_lowest t t' g g' e n n' l l' = go (lowest_of t) refl
    where
      go : (k : ℕ) → lowest_of t ≡ k → n ≡ n'
      go zero z =
          let to = retested t t' (none_tested t g.rises z) in
          let from = retested t' t (none_tested t' g'.rises (sym e ∙ z)) in
          lowest_unique (Unfitted img f t) (positive t g.rises) n n' l (lowest_as (Unfitted img f t') (Unfitted img f t) from to n' l')
      go (suc k) z = by_test t g n l (omega (arith, z)) ∙ e ∙ sym (by_test t' g' n' l' (omega (arith, e, z)))

-- ---- two answers

-- how many patches and candidates there are, and the most pixels that waited
pub counts : (img : Image) (f : FrameSpec) {a a' b b' : Areas} (r r' : PictureFit) → Looked img f a b r.counts.patches r.counts.candidates r.counts.waited
    → Looked img f a' b' r'.counts.patches r'.counts.candidates r'.counts.waited → r.counts ≡ r'.counts
counts img f r r' l l' =
    λ i. record {
      patches = look.same_patches img f _ _ _ _ _ _ _ _ _ _ l l' i;
      candidates = look.same_candidates img f _ _ _ _ _ _ _ _ _ _ l l' i;
      waited = look.same_waited img f _ _ _ _ _ _ _ _ _ _ l l' i;
    }

same_places : (p q : Result Places Refusal) → number_of p ≡ number_of q → corners_named p ≡ corners_named q → p ≡ q
same_places (Ok x) (Ok y) e h = ap Ok h
same_places (Ok x) (Err s) e h = let z = given.positive s in absurd (omega arith)
same_places (Err r) (Ok y) e h = let z = given.positive r in absurd (omega arith)
same_places (Err r) (Err s) e h = ap Err (given.number_injective r s e)

-- an answer is its parts
pub same_answer : (r r' : PictureFit) → number_of r.places ≡ number_of r'.places → r.stage ≡ r'.stage → corners_named r.places ≡ corners_named r'.places
    → r.counts ≡ r'.counts → r ≡ r'
same_answer r r' e s p n = λ i. record { places = same_places r.places r'.places e p i; stage = s i; counts = n i }

-- ---- two calls, with tests of their own

module _ (img : Image) (f : FrameSpec) {t t' : List Check} {a a' b b' : Areas} {m m' o o' : List Float} {r r' : PictureFit} (g : Guarding img f a t) (g' : Guarding img f a' t')
    (h : FittingAfter img f t a b m o r) (h' : FittingAfter img f t' a' b' m' o' r') (e : SameTests t t') where
  pub same_number : h.number ≡ h'.number
  same_number = same_lowest img f t t' g g' e h.number h'.number h.refusal h'.refusal

  module _ (yes : h.number ≡ 0) where
    abbrev yes' : h'.number ≡ 0
    yes' = sym same_number ∙ yes

    places_agree : corners_named r.places ≡ corners_named r'.places
    places_agree = places_unique img f (h.accepted yes).patches (h'.accepted yes').patches (corners_named r.places) (corners_named r'.places) (h.corners yes) (h'.corners yes')

    centers_agree : centers_at b.patches (corners_named r.places) ≡ centers_at b'.patches (corners_named r'.places)
    centers_agree =
        marked_unique img f _ _
        (corners_mark img f b.patches (h.accepted yes).firsts r.counts.patches (corners_named r.places) (h.corners yes))
        (corners_mark img f b'.patches (h'.accepted yes').firsts r'.counts.patches (corners_named r'.places) (h'.corners yes'))

    stage_agrees : r.stage ≡ r'.stage
    stage_agrees = h.found yes ∙ ap (searched img f) centers_agree ∙ sym (h'.found yes')

  ten : 10 ≤ h.number → r.stage ≡ r'.stage
  ten z =
      let x = ten_marked img f t g.most h.number z (lowest_holds (Unfitted img f t) (positive img f t g.rises) h.number h.refusal (omega arith)) in
      h.fruitless x.0 x.1.0 x.1.1 ∙ sym (h'.fruitless (sym same_number ∙ x.0) x.1.0 x.1.1)

  tried_agree : 7 ≤ h.number → r.stage ≡ r'.stage
  tried_agree z = go (ltb h.number 10) refl
    where
      go : (s : Bool) → ltb h.number 10 ≡ s → r.stage ≡ r'.stage
      go true y = let x = ltb-true h.number 10 y in h.untried (omega arith) (omega arith) ∙ sym (h'.untried (omega (arith, same_number)) (omega (arith, same_number)))
      go false y = ten (ltb-false h.number 10 y)

  -- the parts of the answer, whatever the number
  parts : Kind h.number → (r.stage ≡ r'.stage) × (corners_named r.places ≡ corners_named r'.places) × (r.counts ≡ r'.counts)
  parts (fine z) = (stage_agrees z, places_agree z, counts img f r r' (h.accepted z) (h'.accepted (sym same_number ∙ z)))
  parts (low x y) =
      let u = h.untouched x y in
      let x' : 1 ≤ h'.number = omega (arith, same_number) in
      let y' : h'.number ≤ 6 = omega (arith, same_number) in
      let u' = h'.untouched x' y' in
      let n : r.counts ≡ r'.counts = λ i. record { patches = (u.2 ∙ sym u'.2) i; candidates = (u.3 ∙ sym u'.3) i; waited = (u.4 ∙ sym u'.4) i } in
      (h.untried x (omega arith) ∙ sym (h'.untried x' (omega arith)), h.nowhere x ∙ sym (h'.nowhere x'), n)
  parts (high z) =
      (tried_agree z, h.nowhere (omega arith) ∙ sym (h'.nowhere (omega (arith, same_number))), counts img f r r' (h.refused z) (h'.refused (subst (λ k. 7 ≤ k) same_number z)))

  answers_agree : r ≡ r'
  answers_agree = let p = parts (kind h.number) in same_answer r r' (h.given ∙ same_number ∙ sym h'.given) p.0 p.1 p.2

  looks_agree : lowest_of t ≡ 0 → Kind h.number → SameLook img b b' r.counts.patches r.counts.candidates
  looks_agree z (fine x) =
      look.same_look img f _ _ _ _ _ _ _ _ _ _ (h.accepted x) (h'.accepted (sym same_number ∙ x)) (g.ready z) (g'.ready (sym e ∙ z))
  looks_agree z (low x y) = absurd (let s : 7 ≤ h.number = from_seven img f t g h.number h.refusal z x in omega arith)
  looks_agree z (high x) =
      look.same_look img f _ _ _ _ _ _ _ _ _ _ (h.refused x) (h'.refused (subst (λ k. 7 ≤ k) same_number x)) (g.ready z) (g'.ready (sym e ∙ z))

  pub same_fit : SameFit img b b' r r' (lowest_of t)
  same_fit = record { answer = answers_agree; look = λ z. looks_agree z (kind h.number) }

-- ---- `fit_geometry`

guarding : (img : Image) (f : FrameSpec) (a : Areas) (m : List Float) → Guarding img f a (fit_tests img f a m)
guarding img f a m =
    record {
      rises = rising img f (fit_short img f (lengths_of a) (length m)) false;
      most = upto_six img f (fit_short img f (lengths_of a) (length m)) false;
      ready = λ z. (fit_ready img f a m z).0;
    }

module _ (img : Image) (f : FrameSpec) {a a' b b' : Areas} {m m' o o' : List Float} {r r' : PictureFit} (h : Fitting img f a b m o r) (h' : Fitting img f a' b' m' o' r') where
  pub determined : SameTests (fit_tests img f a m) (fit_tests img f a' m') → SameFit img b b' r r' (lowest_of (fit_tests img f a m))
  determined e = same_fit img f (guarding img f a m) (guarding img f a' m') h h' e

  -- two calls that no test refuses
  pub unrefused : lowest_of (fit_tests img f a m) ≡ 0 → lowest_of (fit_tests img f a' m') ≡ 0 → (r ≡ r') × SameLook img b b' r.counts.patches r.counts.candidates
  unrefused z z' = let s = determined (z ∙ sym z') in (s.answer, s.look z)
