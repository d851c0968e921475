-- `blobs::internal::label_exact` meets its contract. Assumes nothing.
use Prim.Native.Nat.{◌*◌}
use native.Mathlib.Omega.{arith}
use mathlib.Core.Path.{◌≡◌, refl, sym, ap, ◌∙◌}
use lib.ListN.{length, replicate}
use Rattle.base.proofs.Turns.{turns_step, turns_end}
use Rattle.base.proofs.Parts.{drop_later}
use Rattle.blobs.specs.Patches.{record_length}
use Rattle.blobs.specs.Stack.{scan, unmarked}
use Rattle.blobs.proofs.Whole.{scan_begun, labels_are}
use Rattle.blobs.proofs.internal.label_exact.Goals as goal

pub loop-i-init : goal.loop-i-init
loop-i-init c =
    let e : length c.args.seen.now ≡ length c.args.mask.now = c.requires.1 ∙ sym c.requires.0.size in
    record {
      state = scan_begun c.args.mask.now c.args.w c.fill.new.self c.args.patches.now (c.fill.ensures.after (λ y e. e) ∙ ap (λ n. replicate n 0) e);
      rest = refl;
    }

pub scan-c-requires-clause-sized : goal.scan-c-requires-clause-sized
scan-c-requires-clause-sized c = (c.requires.0, omega (arith, c.requires.0.size), omega (arith, c.requires.0.size), omega arith)

pub scan-c-requires-clause-waited_value : goal.scan-c-requires-clause-waited_value
scan-c-requires-clause-waited_value c = c.loop-i.invariant.state

pub loop-i-preserved : goal.loop-i-preserved
loop-i-preserved c =
    let s = c.args in
    let l = c.loop-i in
    let v = c.scan-c in
    record {
      state = v.ensures.waited_after ∙ turns_step (scan s.mask.now s.w) (unmarked s.mask.now) l.i l.invariant.state;
      rest = v.ensures.patches_le_patches.1
          ∙ drop_later (record_length * l.c.patches) (record_length * v.result.patches) l.patches s.patches.now (omega (arith, v.ensures.patches_le_patches.0)) l.invariant.rest;
    }

pub returns : goal.returns
returns c =
    let l = c.loop-i in
    let s = c.args in
    labels_are c.requires.0 s.seen.now s.waiting.now s.patches.now l.seen l.waiting l.patches l.c.patches l.c.waited
    (turns_end (scan s.mask.now s.w) (unmarked s.mask.now) l.i (length s.mask.now) l.invariant.state (omega arith))
    c.requires.1 c.requires.2 l.auto.waiting l.auto.patches l.invariant.rest
