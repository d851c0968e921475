-- `merge::records::copy_record` meets its contract. Assumes nothing.
use native.Mathlib.Omega.{arith}
use mathlib.Core.Path.{◌≡◌, ap, ◌∙◌}
use Prim.Native.Nat.{◌+◌, ◌-◌, ◌*◌}
use lib.ListN.{take, drop}
use Rattle.merge.specs.Merged.{record_in}
use Rattle.merge.proofs.records.copy_record.Goals as goal

pub returns : goal.returns
unfolding record_in
returns c =
    let p = 16 + 120 * c.args.j in
    let e : p + 120 - p ≡ 120 = omega arith in
    c.copy_from_slice.ensures.after ∙ ap (λ n. take n (drop p c.args.book.now)) e
