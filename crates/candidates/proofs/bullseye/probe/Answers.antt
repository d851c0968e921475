-- `candidates::bullseye::probe` meets its contract. Assumes nothing.
use native.Mathlib.Omega.{arith}
use Prim.Native.Nat.{◌+◌, ◌*◌}
use mathlib.Core.Path.{◌≡◌, refl, sym, ap, ◌∙◌}
use lib.ListN.{get_or}
use lib.Ieee.{nan}
use Rattle.float.specs.Floats.{as_usize}
use Rattle.candidates.specs.Ring.{tallied}
use Rattle.base.proofs.Pick.{pick_yes, pick_no}
use Rattle.candidates.proofs.Inside.{pixel}
use Rattle.candidates.proofs.Tallies.{probing_none, probing_made}
use Rattle.candidates.proofs.bullseye.probe.Goals as goal

pub returns-then-outside : goal.returns-then-outside
returns-then-outside c =
    let a = c.args in
    probing_none _ _ a.planes.w a.planes.h a.p a.t a.t c.requires.sound refl (pick_yes _ _ _ (sym c.outside.ensures ∙ c.if-outside.true))

pub overflow_mul-i : goal.overflow_mul-i
overflow_mul-i c = let a = c.args in let p = (pixel a.planes.w a.planes.h a.p.x a.p.y c.args.planes.held c.outside.ensures c.if-outside.false refl c.to_usize.ensures).row in omega arith

pub overflow_add-i : goal.overflow_add-i
overflow_add-i c = let a = c.args in let p = (pixel a.planes.w a.planes.h a.p.x a.p.y c.args.planes.held c.outside.ensures c.if-outside.false c.to_usize-2.ensures c.to_usize.ensures).number in omega arith

pub bounds-planes-i : goal.bounds-planes-i
bounds-planes-i c =
    let a = c.args in
    let p = (pixel a.planes.w a.planes.h a.p.x a.p.y c.args.planes.held c.outside.ensures c.if-outside.false c.to_usize-2.ensures c.to_usize.ensures).within in
    let q = c.args.planes.held.mask_long in
    omega arith

pub offset_bounds-planes-i : goal.offset_bounds-planes-i
offset_bounds-planes-i c =
    let a = c.args in
    let p = (pixel a.planes.w a.planes.h a.p.x a.p.y c.args.planes.held c.outside.ensures c.if-outside.false c.to_usize-2.ensures c.to_usize.ensures).number in
    omega arith

pub bounds-planes-i-2 : goal.bounds-planes-i-2
bounds-planes-i-2 c =
    let a = c.args in
    let p = (pixel a.planes.w a.planes.h a.p.x a.p.y c.args.planes.held c.outside.ensures c.if-outside.false c.to_usize-2.ensures c.to_usize.ensures).within in
    let q = c.args.planes.held.luma_long in
    omega arith

pub returns : goal.returns
returns c =
    let a = c.args in
    let ex = c.to_usize-2.ensures in
    let ey = c.to_usize.ensures in
    let i = as_usize a.p.y * a.planes.w + as_usize a.p.x in
    let e = get_or a.planes.mask.now i 0 in
    let l = get_or a.planes.luma.now i nan in
    let place : c.to_usize.result * a.planes.w + c.to_usize-2.result ≡ i = λ j. ey j * a.planes.w + ex j in
    let same : c.tally.result ≡ tallied e l a.p.dark a.t =
    c.tally.ensures ∙ ap (λ z. tallied (get_or a.planes.mask.now z 0) (get_or a.planes.luma.now z nan) a.p.dark a.t) place in
    probing_made _ _ a.planes.w a.planes.h a.p a.t c.tally.result e l c.requires.sound same (same ∙ pick_no _ _ _ (sym c.outside.ensures ∙ c.if-outside.false))
