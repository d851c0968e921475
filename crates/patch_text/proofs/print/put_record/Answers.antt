-- `patch_text::print::put_record` meets its contract. Assumes nothing.
use Prim.Native.Nat.{ℕ, ◌*◌}
use native.Mathlib.Omega.{arith}
use mathlib.Core.List.{List, [], ◌∷◌, ◌++◌, append-nil}
use mathlib.Core.Path.{◌≡◌, refl, sym, subst}
use lib.ListN.{get_or, take}
use Rattle.base.specs.Loops.{joined}
use Rattle.blobs.specs.declared.Blob.{Blob}
use Rattle.patch_text.specs.Text.{blank, feed, field, record_line}
use Rattle.patch_text.specs.Steps.{Written}
use Rattle.patch_text.proofs.Numbers.{written_more, written_field}
use Rattle.patch_text.proofs.print.put_record.Goals as goal

abbrev blanked : Blob → ℕ → List ℕ
blanked b i = field (get_or (b.area ∷ b.sx ∷ b.sy ∷ b.x0 ∷ b.y0 ∷ b.x1 ∷ b.y1 ∷ []) i 0) blank

line_is : (b : Blob) → joined (blanked b) 7 ++ field b.outline feed ≡ record_line b
unfolding joined record_line
line_is b = refl

pub loop-n-init : goal.loop-n-init
unfolding joined
loop-n-init c = record { text = sym (append-nil (take c.args.at c.args.out.now)); from = omega arith; to = omega arith }

pub put-end-requires : goal.put-end-requires
put-end-requires c = omega (arith, c.loop-n.invariant.to)

pub loop-n-preserved : goal.loop-n-preserved
loop-n-preserved c =
    let l = c.loop-n in
    written_field c.args.out.now l.out c.put-end.new.out c.args.at l.end c.put-end.result l.n-index (blanked c.args.b) l.invariant c.put-end.ensures

pub put-requires : goal.put-requires
put-requires c = omega (arith, c.loop-n.invariant.to)

pub returns : goal.returns
returns c =
    let a = c.args in
    let l = c.loop-n in
    let e : l.n-index ≡ 7 = omega arith in
    let all = subst (λ i. Written a.out.now l.out a.at l.end (21 * i) (joined (blanked a.b) i)) e l.invariant in
    subst (Written a.out.now c.put.new.out a.at c.put.result 168) (line_is a.b)
    (written_more a.out.now l.out c.put.new.out a.at l.end c.put.result 147 21 (joined (blanked a.b) 7) (field a.b.outline feed) all c.put.ensures)
