-- `markers::stamp_fiducials` meets its contract. Assumes nothing.
use mathlib.Core.Path.{sym, ap, ◌∙◌}
use native.Mathlib.Omega.{arith}
use Rattle.std.specs.Prelude.{ok_or}
use Rattle.std.proofs.lemmas.Result.{err_from_is_err_and}
use Rattle.base.proofs.Floats.{held64}
use Rattle.float.specs.Floats.{f64}
use Rattle.frame.specs.Image.{image}
use Rattle.frame.specs.declared.refusals.Refusal.TheVariants.{FrameOutside, CaptureWrong, NoLayout}
use Rattle.frame.proofs.Lowest.{lowest_first, lowest_next, lowest_none}
use Rattle.frame.proofs.Held.{capture_held}
use Rattle.markers.specs.Layout.{quiet_zone, marker, origins, layout_of}
use Rattle.markers.specs.Promises.{stamp_tests}
use Rattle.markers.specs.Stamp.{stamped, squares, bullseyes, with_squares}
use Rattle.markers.proofs.Given.{stamping_refused, stamping_accepted}
use Rattle.markers.proofs.Sizes.{quiet_most, layout_refused, layout_given}
use Rattle.markers.proofs.stamp_fiducials.Goals as goal

pub returns-in_err-frame : goal.returns-in_err-frame
unfolding stamp_tests
returns-in_err-frame c =
    let p = err_from_is_err_and c.from_residual.result c.from_residual.ensures.1 in
    rw (p.1, p.2, c.in_err-frame.ensures.1) (stamping_refused (image _ _ _) _ FrameOutside (lowest_first _ _ _ c.in_err-frame.ensures.0))

pub returns-then-capture_wrong : goal.returns-then-capture_wrong
unfolding stamp_tests
returns-then-capture_wrong c =
    stamping_refused (image _ _ _) _ CaptureWrong
    (lowest_next _ _ _ c.in_ok-frame.ensures.0 ∙ lowest_first _ _ _ (sym c.capture_wrong.ensures ∙ c.if-capture_wrong.true))

pub returns-in_err-markers : goal.returns-in_err-markers
unfolding stamp_tests
returns-in_err-markers c =
    let e = c.in_ok-frame.ensures.1 in
    let p = err_from_is_err_and c.from_residual-in_err-markers.result c.from_residual-in_err-markers.ensures.1 in
    let l = c.marker_layout.ensures ∙ ap layout_of e in
    let k = layout_refused c.args.frame _ (ap (λ o. ok_or o NoLayout) (sym l) ∙ sym c.ok_or.ensures.value ∙ c.in_err-markers.was) in
    rw (p.1, p.2, k.1)
    (stamping_refused (image _ _ _) _ NoLayout
    (lowest_next _ _ _ c.in_ok-frame.ensures.0 ∙ lowest_next _ _ _ (sym c.capture_wrong.ensures ∙ c.if-capture_wrong.false) ∙ lowest_first _ _ _ k.0))

pub int_to_float-quiet : goal.int_to_float-quiet
int_to_float-quiet c = held64 _ (omega (arith, quiet_most c.in_ok-frame.frame.spec.cell))

pub stamp_markers-requires : goal.stamp_markers-requires
stamp_markers-requires c =
    let k = capture_held (image c.args.w c.args.h c.args.bytes.now) (sym c.capture_wrong.ensures ∙ c.if-capture_wrong.false) in
    (k.w_most, k.h_most, k.bytes_held)

pub returns : goal.returns
unfolding stamp_tests stamped squares
returns c =
    let a = c.args in
    let e = c.in_ok-frame.ensures.1 in
    let l = c.marker_layout.ensures ∙ ap layout_of e in
    let k = layout_given a.frame _ (ap (λ o. ok_or o NoLayout) (sym l) ∙ sym c.ok_or.ensures.value ∙ c.in_ok-markers.was) in
    stamping_accepted (image a.w a.h _) a.frame _
    (lowest_next _ _ _ c.in_ok-frame.ensures.0
    ∙ lowest_next _ _ _ (sym c.capture_wrong.ensures ∙ c.if-capture_wrong.false)
    ∙ lowest_next _ _ _ k.0 ∙ lowest_none)
    (c.stamp_markers.ensures
    ∙ ap (λ m. with_squares (bullseyes m.m (f64 c.quiet_zone-quiet.result) m.origins) (image a.w a.h a.bytes.now)) k.1
    ∙ ap (λ n. with_squares (bullseyes (f64 (marker a.frame)) (f64 n) (origins a.frame)) (image a.w a.h a.bytes.now))
    (c.quiet_zone-quiet.ensures ∙ ap (λ f. quiet_zone f.cell) e))
