-- `page::text::put_lines` meets its contract. Assumes nothing.
use mathlib.Core.Path.{subst}
use borrow.Rule.Slice.PartMut.{mid_len, same_len_mid}
use Rattle.page.specs.Steps.{AllNarrow}
use Rattle.page.specs.Text.{line_of}
use Rattle.base.proofs.Every.{every_one}
use Rattle.page.proofs.Printing.{row_narrow}
use Rattle.page.proofs.text.Written.{page_begin, page_next, page_end}
use native.Mathlib.Omega.{arith}
use Prim.Native.Nat.{◌≤◌, ◌+◌, ◌*◌, ◌-◌}
use mathlib.Core.Path.{◌≡◌, refl, sym, ap, ◌∙◌}
use lib.ListN.{length}
use Rattle.page.proofs.text.put_lines.Goals as goal

pub loop-i-init : goal.loop-i-init
loop-i-init c = record { written = page_begin _ _; long = refl }

pub put_line-requires : goal.put_line-requires
put_line-requires c =
    let k = c.loop-i in
    let r : 37 * k.i + 37 ≤ length k.page = omega (arith, c.requires.held) in (
      mid_len (37 * k.i) (37 * k.i + 37) k.page r ∙ omega arith,
      subst AllNarrow (sym c.row_at-row.ensures) (row_narrow _ (every_one _ c.args.count c.requires.printable k.i (omega arith))),
    )

pub loop-i-preserved : goal.loop-i-preserved
loop-i-preserved c =
    let k = c.loop-i in
    let x = c.put_line in
    let row = c.row_at-row in
    let r : 37 * k.i + 37 ≤ length k.page = omega (arith, c.requires.held) in
    record {
      written = page_next c.args.candidates.now c.args.page.now k.page x.new.line k.i k.invariant.written (x.ensures ∙ ap (line_of (k.i + 1)) row.ensures);
      long = same_len_mid (37 * k.i) (37 * k.i + 37 - 37 * k.i) k.page x.new.line x.auto.line ∙ k.invariant.long;
    }

pub returns : goal.returns
returns c =
    let k = c.loop-i in
    let e : k.i ≡ c.args.count = omega arith in
    page_end c.args.candidates.now c.args.page.now k.page k.i c.args.count k.invariant.written e
