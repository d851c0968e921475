-- `windows::tally::Tally::meet` meets its contract. Assumes nothing.
use Prim.Native.Nat.{◌+◌}
use mathlib.Core.Path.{◌≡◌, refl, ap, ◌∙◌}
use mathlib.Core.Bool.{Bool, true, false, cond}
use mir.Val.{bool_byte}
use Rattle.std.specs.Prelude.{Some, None}
use Rattle.std.specs.Option.{option_or}
use Rattle.windows.specs.Steps.{nearer, near, met}
use Rattle.windows.proofs.tally.Tally.meet.Goals as goal

one : (b : Bool) → bool_byte b ≡ cond b 1 0
one true = refl
one false = refl

pub returns : goal.returns
unfolding met
returns c =
    let a = c.args in
    let t = a.self.now in
    let e = c.touches-hit.ensures in
    let count = ap (λ n. t.count + n) (one c.touches-hit.result ∙ ap (λ h. cond h 1 0) e) in
    let first = c.first_of.ensures ∙ ap (λ h. option_or t.first (cond h (Some a.j) None)) e in
    let nearest = c.nearer.ensures ∙ ap (λ d. nearer t.nearest (near a.j d)) c.distance.ensures in
    λ i. record { count = count i; first = first i; nearest = nearest i }
