-- `page::text::put_columns` meets its contract. Assumes nothing.
use native.Mathlib.Omega.{arith}
use Prim.Native.Nat.{◌<◌, ◌+◌, ◌-◌}
use mathlib.Core.List.{◌++◌}
use mathlib.Core.Path.{◌≡◌, ap, ◌∙◌}
use lib.ListN.{length, drop}
use Rattle.page.specs.Text.{columns}
use Rattle.page.specs.Steps.{letter_of}
use Rattle.page.proofs.Texts.{columns_step, columns_end}
use Rattle.page.proofs.text.put_columns.Goals as goal

pub loop-k-preserved : goal.loop-k-preserved
loop-k-preserved c =
    let k = c.loop-k in
    let f = letter_of c.args.pad in
    let e : k.k ≡ k.k - 1 + 1 = omega arith in
    let h : k.k - 1 < length k.area = omega arith in
    columns_step f (k.k - 1) k.q c.letter.result k.area (columns f (length c.args.area.now) c.args.q) h c.letter.ensures
    (k.invariant ∙ ap (λ i. columns f i k.q ++ drop i k.area) e)

pub returns : goal.returns
returns c = columns_end _ _ _ _ _ (omega arith) c.loop-k.invariant
