-- `book::writer::put_numbers` meets its contract. Assumes nothing.
use mathlib.Core.List.{List, []}
use mathlib.Core.Path.{◌≡◌, refl, sym, ap, ◌∙◌}
use native.Mathlib.Omega.{arith}
use Prim.Native.Nat.{ℕ, ◌+◌, ◌-◌, ◌*◌, ◌≤◌}
use lib.ListN.{length, get_or}
use borrow.Rule.Slice.PartMut.{mid_of, mid_len}
use Rattle.base.specs.Bytes.{le_bytes}
use Rattle.base.specs.Loops.{joined}
use Rattle.base.proofs.Joined.{length_joined, over_joined}
use Rattle.base.proofs.Over.{over_whole}
use Rattle.book.specs.Layout.{number_bytes}
use Rattle.book.proofs.Written.{number_length, number_room}
use Rattle.book.proofs.writer.put_numbers.Goals as goal

pub loop-i-init : goal.loop-i-init
loop-i-init c = unfold joined in refl

-- the bytes of number i
number_is : (width p v : ℕ) (b x : List ℕ) → p + width ≤ length b → x ≡ le_bytes (length (mid_of p (p + width - p) b)) v → x ≡ le_bytes width v
number_is width p v b x h e =
    let m : length (mid_of p (p + width - p) b) ≡ width = mid_len p (p + width) b h ∙ omega arith in
    e ∙ ap (λ k. le_bytes k v) m

pub loop-i-preserved : goal.loop-i-preserved
loop-i-preserved c =
    let k = c.loop-i in
    let a = c.args in
    let w = a.width in
    let l = a.numbers.now in
    let room : w * k.i + w ≤ w * length l = number_room w k.i (length l) c.loop-i-test.true in
    over_joined (number_bytes w l) w (number_length w l) [] a.area.now k.area c.put_little_endian.new.area (w * k.i) k.i k.invariant (omega arith)
    (number_is w (w * k.i) (get_or l k.i 0) k.area c.put_little_endian.new.area (omega arith) c.put_little_endian.ensures)

pub returns : goal.returns
returns c =
    let k = c.loop-i in
    let e : k.i ≡ length c.args.numbers.now = omega arith in
    let f = number_bytes c.args.width c.args.numbers.now in
    over_whole (joined f k.i) c.args.area.now k.area k.invariant
    (length_joined f c.args.width (number_length c.args.width c.args.numbers.now) k.i ∙ ap (λ n. c.args.width * n) e ∙ sym c.requires)
    ∙ ap (joined f) e
