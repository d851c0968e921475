-- `blobs::visit::visit` meets its contract. Assumes nothing.
use Prim.Native.Nat.{◌+◌, ◌<◌}
use native.Mathlib.Omega.{arith}
use mathlib.Core.Path.{◌≡◌, sym, ap, subst, ◌∙◌}
use lib.ListN.{length, set, length-set}
use Rattle.blobs.specs.Stack.{marking, stack_of}
use Rattle.blobs.specs.Neighbours.{visit_to}
use Rattle.blobs.specs.Ready.{Held}
use Rattle.blobs.proofs.Stacks.{visit_light, visit_seen, visit_push, stack_push, stack_room}
use Rattle.blobs.proofs.Around.{inside_some, held_to}
use Rattle.blobs.proofs.visit.visit.Goals as goal
use Rattle.blobs.proofs.visit.visit.Goals.{Else-seen-i-ne0, then-mask-i-eq0-via-then-mask-i-eq0, then-mask-i-eq0-via-else-mask-i-eq0+then-seen-i-ne0}

pub returns-in_default-clause-visited : goal.returns-in_default-clause-visited
unfolding visit_to
returns-in_default-clause-visited c = rw c.in_default.is

pub returns-then-mask-i-eq0-clause-visited : goal.returns-then-mask-i-eq0-clause-visited
unfolding visit_to
returns-then-mask-i-eq0-clause-visited c =
    let to = ap (λ o. visit_to c.args.mask.now o (marking c.args.seen.now (stack_of c.args.waiting.now c.args.top))) (sym c.in-Some.is) in
    elim c.then-mask-i-eq0.branch [
      | then-mask-i-eq0-via-then-mask-i-eq0 w ↦ visit_light _ _ _ w.if-mask-i-eq0.true ∙ to
      | then-mask-i-eq0-via-else-mask-i-eq0+then-seen-i-ne0 w ↦ visit_seen _ _ _ w.if-seen-i-ne0.true ∙ to
    ]

-- the stack has room for the pixel
room : (c : Else-seen-i-ne0) → c.args.top < length c.args.waiting.now
room c = stack_room c.in-Some.i c.requires.stacked (inside_some c.args.mask.now c.in-Some.is c.requires.inside.0) c.if-seen-i-ne0.false

pub offset_bounds-waiting-top : goal.offset_bounds-waiting-top
offset_bounds-waiting-top c = omega (arith, room c, c.requires.stacked.long)

pub bounds-waiting-top : goal.bounds-waiting-top
bounds-waiting-top c = room c

pub overflow_add-result : goal.overflow_add-result
overflow_add-result c = omega (arith, room c, c.requires.stacked.long)

visited : (c : Else-seen-i-ne0)
    → marking (set c.args.seen.now c.in-Some.i 1) (stack_of (set c.args.waiting.now c.args.top c.in-Some.i) (c.args.top + 1))
    ≡ visit_to c.args.mask.now c.args.q (marking c.args.seen.now (stack_of c.args.waiting.now c.args.top))
unfolding visit_to
visited c =
    let a = marking c.args.seen.now (stack_of c.args.waiting.now c.args.top) in
    ap (marking (set c.args.seen.now c.in-Some.i 1)) (stack_push c.args.waiting.now c.args.top c.in-Some.i (room c))
    ∙ visit_push c.args.mask.now c.in-Some.i a c.if-mask-i-eq0.false c.if-seen-i-ne0.false
    ∙ ap (λ o. visit_to c.args.mask.now o a) (sym c.in-Some.is)

pub returns-clause-visited : goal.returns-clause-visited
returns-clause-visited c = visited c

pub returns-clause-stacked : goal.returns-clause-stacked
returns-clause-stacked c =
    record {
      held = subst (Held c.args.mask.now) (sym (visited c)) (held_to c.args.q c.requires.inside.0 c.requires.stacked.held);
      long = length-set c.args.waiting.now c.args.top c.in-Some.i ∙ c.requires.stacked.long;
    }
