-- `checkerboard_text::read::board_size` meets its contract. Assumes nothing.
use native.Mathlib.Omega.{arith}
use mathlib.Core.Path.{sym, ap, subst, ◌∙◌}
use lib.ListN.{get_or}
use Rattle.std.specs.Prelude.{Some, None}
use Rattle.checkerboard_text.specs.Steps.{Side}
use Rattle.checkerboard_text.proofs.Sizes.{front, middle, place_some, asks_long, asks_letter, asks_last, no_side, no_other_side, size_is}
use Rattle.checkerboard_text.proofs.read.board_size.Goals as goal
use Rattle.checkerboard_text.proofs.read.board_size.Goals.{then-text-at-ne32-via-then-text-at-ne32, then-text-at-ne32-via-else-text-at-ne32+then-text-n-ne10}

pub returns-then-n-lt4 : goal.returns-then-n-lt4
returns-then-n-lt4 c = λ w h a. omega (arith, (asks_long a).0)

pub bounds-text-at : goal.bounds-text-at
bounds-text-at c = omega (arith, (place_some c.args.text.now).1)

pub returns-then-text-at-ne32 : goal.returns-then-text-at-ne32
returns-then-text-at-ne32 c =
    λ w h a. elim c.then-text-at-ne32.branch [
      | then-text-at-ne32-via-then-text-at-ne32 w ↦ w.if-text-at-ne32.true (ap (λ i. get_or c.args.text.now i 0) c.blank_place-at.ensures ∙ asks_letter a)
      | then-text-at-ne32-via-else-text-at-ne32+then-text-n-ne10 w ↦ w.if-text-n-ne10.true (asks_last a)
    ]

pub returns-in_err-w : goal.returns-in_err-w
returns-in_err-w c =
    rw c.from_residual.ensures (no_side (subst (λ i. Side (front c.args.text.now i) None) c.blank_place-at.ensures (c.in_err-w.ensures)))

pub returns-in_err-h : goal.returns-in_err-h
returns-in_err-h c =
    rw c.from_residual-in_err-h.ensures (no_other_side (subst (λ i. Side (middle c.args.text.now i) None) c.blank_place-at.ensures (c.in_err-h.ensures)))

pub returns : goal.returns
returns c =
    let e = c.blank_place-at.ensures in
    size_is c.in_ok-w.w c.in_ok-h.h
    (subst (λ i. Side (front c.args.text.now i) (Some c.in_ok-w.w)) e (c.in_ok-w.ensures))
    (subst (λ i. Side (middle c.args.text.now i) (Some c.in_ok-h.h)) e (c.in_ok-h.ensures))
    (omega arith)
    (ap (λ i. get_or c.args.text.now i 0) (sym e) ∙ c.if-text-at-ne32.false)
    c.if-text-n-ne10.false
