-- Probes one after the other. Assumes nothing.
use Prim.Native.Nat.{ℕ, ◌+◌, ◌≤◌, ◌<◌}
use mathlib.Core.Path.{◌≡◌, refl, sym, ap, subst, ◌∙◌}
use mathlib.Core.Bool.{Bool, true, false, cond, beq}
use mathlib.Core.List.{List, [], ◌∷◌, ◌++◌}
use native.Mathlib.Omega.{arith}
use lib.Dec.{ltb}
use lib.ListN.{length, take, get_or, length-append}
use Rattle.std.proofs.lemmas.List.{take_more}
use lib.Ieee.{Float}
use Rattle.candidates.specs.Ring.{tallied, probe_step, probed}
use Rattle.candidates.specs.Bounds.{Sound, Probing}
use Rattle.candidates.specs.declared.Probe.{Probe}
use Rattle.candidates.specs.declared.Tally.{Tally}

small : (b : Bool) → cond b 1 0 ≤ 1
small true = omega arith
small false = omega arith

tallied_sound : (e : ℕ) (l : Float) (dark : Bool) (s : Tally) → Sound s → Sound (tallied e l dark s)
tallied_sound e l true s h =
    let a : cond (beq (ltb 0 e) true) 1 0 ≤ 1 = small (beq (ltb 0 e) true) in
    let b = h.hits in
    let c = h.darks in
    let d = h.lights in
    record { hits = omega arith; darks = omega arith; lights = omega arith }
tallied_sound e l false s h =
    let a : cond (beq (ltb 0 e) false) 1 0 ≤ 1 = small (beq (ltb 0 e) false) in
    let b = h.hits in
    let c = h.darks in
    let d = h.lights in
    record { hits = omega arith; darks = omega arith; lights = omega arith }

tallied_few : (e : ℕ) (l : Float) (dark : Bool) (s : Tally) → (tallied e l dark s).made ≤ s.made + 1
tallied_few e l true s = omega arith
tallied_few e l false s = omega arith

module _ (m : List ℕ) (luma : List Float) (w h : ℕ) where
  -- a probe that is skipped, and one that is made
  pub probing_none : (p : Probe) (s r : Tally) → Sound s → r ≡ s → r ≡ probe_step m luma w h p s → Probing m luma w h (p ∷ []) s r
  unfolding probed
  probing_none p s r k e f =
      record { is = f; sound = subst (λ z. Sound z) (sym e) k; few = subst (λ z. z.made ≤ s.made + 1) (sym e) (omega arith) }

  pub probing_made : (p : Probe) (s r : Tally) (e : ℕ) (l : Float) → Sound s → r ≡ tallied e l p.dark s → r ≡ probe_step m luma w h p s → Probing m luma w h (p ∷ []) s r
  unfolding probed
  probing_made p s r e l k g f =
      record {
        is = f;
        sound = subst (λ z. Sound z) (sym g) (tallied_sound e l p.dark s k);
        few = subst (λ z. z.made ≤ s.made + 1) (sym g) (tallied_few e l p.dark s);
      }

  probed_append : (a b : List Probe) (s : Tally) → probed m luma w h (a ++ b) s ≡ probed m luma w h b (probed m luma w h a s)
  unfolding probed
  probed_append [] b s = refl
  probed_append (p ∷ a) b s = probed_append a b (probe_step m luma w h p s)

  -- probes, and then more
  pub probing_more : (a b : List Probe) (s r t : Tally) → Probing m luma w h a s r → Probing m luma w h b r t → Probing m luma w h (a ++ b) s t
  probing_more a b s r t p q =
      let x = p.few in
      let y = q.few in
      record {
        is = q.is ∙ ap (probed m luma w h b) p.is ∙ sym (probed_append a b s);
        sound = q.sound;
        few = omega (arith, x, y, length-append a b);
      }

  pub probing_as : {a b : List Probe} {s r : Tally} → a ≡ b → Probing m luma w h a s r → Probing m luma w h b s r
  probing_as {s = s} {r = r} e p = subst (λ z. Probing m luma w h z s r) e p

  -- probes in a loop: none yet, and one more
  pub probing_nothing : (s : Tally) → Sound s → Probing m luma w h [] s s
  unfolding probed
  probing_nothing s k = record { is = refl; sound = k; few = omega arith }

  pub probing_next : (l : List Probe) (i : ℕ) (d : Probe) (s r t : Tally) → i < length l → Probing m luma w h (take i l) s r
      → Probing m luma w h (get_or l i d ∷ []) r t → Probing m luma w h (take (i + 1) l) s t
  probing_next l i d s r t k p q = probing_as (sym (take_more l i d k)) (probing_more (take i l) (get_or l i d ∷ []) s r t p q)
