-- `page::text::put_field` meets its contract. Assumes nothing.
use native.Mathlib.Omega.{arith}
use Prim.Native.Nat.{◌≤◌, ◌<◌, ◌+◌, ◌-◌}
use mathlib.Core.Path.{sym}
use lib.ListN.{length}
use mathlib.Core.Path.{subst}
use native.Mathlib.Nat.{one-le-pow}
use Rattle.page.proofs.text.Written.{field_written}
use Rattle.page.proofs.text.put_field.Goals as goal

pub nonzero_div-q : goal.nonzero_div-q
nonzero_div-q c = subst (λ z. 0 < z) (sym c.requires.1) (one-le-pow c.args.places 10 (omega arith))

pub returns : goal.returns
returns c =
    let a = c.args in
    let l = a.area.now in
    let x = c.put_whole in
    let y = c.put_columns in
    let r : a.places + 3 ≤ length l = c.requires.0 in
    field_written l x.new.area y.new.area a.q a.places a.scale a.after (length l - 1 - a.places) (length l - 1) (omega arith)
    (omega arith) (omega arith) c.requires.1 x.ensures y.ensures
