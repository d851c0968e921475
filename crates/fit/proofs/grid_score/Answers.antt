-- `fit::grid_score` meets its contract. Assumes nothing.
use Rattle.base.proofs.Parts.{lent_rest}
use lib.Seq.{length-take-le, length_front}
use borrow.Author.Tests.{lt-ltb, le-ltb}
use Rattle.std.specs.Prelude.{Ok}
use Rattle.frame.proofs.Given.{answer_first, answer_next, answer_none, answer_number}
use Rattle.frame.specs.Image.{image}
use Rattle.frame.specs.Refusals.{number_of, lowest_of, answer_for}
use Rattle.fit.specs.Grid.{grade_of}
use Rattle.std.proofs.lemmas.Result.{err_from_is_err_and}
use Rattle.fit.specs.Promises.{grid_tests, means_short, sampled_cells}
use lib.Dec.{ltb}
use mathlib.Core.Bool.{true, false}
use native.Mathlib.Omega.{arith}
use Prim.Native.Nat.{◌≤◌}
use mathlib.Core.Path.{◌≡◌, refl, sym, ap, ◌∙◌}
use lib.ListN.{length}
use Rattle.fit.proofs.grid_score.Goals as goal

pub returns-in_err-frame : goal.returns-in_err-frame
unfolding grid_tests
returns-in_err-frame c =
    let p = err_from_is_err_and c.from_residual.result c.from_residual.ensures.1 in
    rw (p.1, p.2, c.in_err-frame.ensures.1)
    (record { given = answer_first _ _ _ _ c.in_err-frame.ensures.0; means_rest = (refl, refl); untouched = λ _. refl })

pub returns-in_err-capture : goal.returns-in_err-capture
unfolding grid_tests
returns-in_err-capture c =
    let p = err_from_is_err_and c.from_residual-in_err-capture.result c.from_residual-in_err-capture.ensures.1 in
    rw (p.1, p.2, c.in_err-capture.ensures.1)
    (record {
      given = answer_next _ _ _ _ c.in_ok-frame.ensures.0 (answer_first _ _ _ _ c.in_err-capture.ensures.0);
      means_rest = (refl, refl);
      untouched = λ _. refl;
    })

pub returns-then-means-n : goal.returns-then-means-n
unfolding grid_tests means_short
returns-then-means-n c =
    let n : c.sampled_cells-n.result ≡ sampled_cells c.args.frame = c.sampled_cells-n.ensures.0 ∙ ap sampled_cells c.in_ok-frame.ensures.1 in
    let short : ltb (length c.args.means.now) (sampled_cells c.args.frame) ≡ true = lt-ltb _ _ (omega (arith, n)) in
    record {
      given = answer_next _ _ _ _ c.in_ok-frame.ensures.0 (answer_next _ _ _ _ c.in_ok-capture.ensures.0 (answer_first _ _ _ _ short));
      means_rest = (refl, refl);
      untouched = λ _. refl;
    }

pub grade-requires : goal.grade-requires
grade-requires c = length-take-le _ _ (omega arith) ∙ c.sampled_cells-n.ensures.0

pub returns : goal.returns
unfolding grid_tests means_short
returns c =
    let a = c.args in
    let img = image a.w a.h a.capture.now in
    let tests = grid_tests img a.frame a.means.now in
    let n : c.sampled_cells-n.result ≡ sampled_cells a.frame = c.sampled_cells-n.ensures.0 ∙ ap sampled_cells c.in_ok-frame.ensures.1 in
    let h : c.sampled_cells-n.result ≤ length a.means.now = omega arith in
    let long : ltb (length a.means.now) (sampled_cells a.frame) ≡ false = le-ltb _ _ (omega (arith, n)) in
    let graded = c.grade.ensures ∙ ap (λ i. grade_of i c.in_ok-frame.frame.spec a.fit) c.in_ok-capture.ensures.1 ∙ ap (λ f. grade_of img f a.fit) c.in_ok-frame.ensures.1 in
    let given : Ok c.grade.result ≡ answer_for tests (grade_of img a.frame a.fit) =
    ap Ok graded
    ∙ answer_next _ _ _ _ c.in_ok-frame.ensures.0 (answer_next _ _ _ _ c.in_ok-capture.ensures.0 (answer_next _ _ _ _ long (answer_none _))) in
    let zero : lowest_of tests ≡ 0 = sym (answer_number _ tests) ∙ sym (ap number_of given) in
    record {
      given = given;
      means_rest = (
        length_front a.means.now c.grade.new.means c.sampled_cells-n.result c.grade.auto.means,
        lent_rest c.grade.new.means a.means.now c.sampled_cells-n.result _ h c.grade.auto.means n,
      );
      untouched = λ u. absurd (omega (arith, zero));
    }
