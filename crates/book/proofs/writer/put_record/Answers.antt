-- `book::writer::put_record` meets its contract. Assumes nothing.
use native.Mathlib.Omega.{arith}
use mathlib.Core.List.{[], ◌∷◌}
use mathlib.Core.Path.{◌≡◌, ap, ◌∙◌}
use lib.ListN.{length}
use Rattle.base.specs.Loops.{joined}
use Rattle.base.proofs.Joined.{length_joined}
use Rattle.base.proofs.Over.{part_first, part_next, part_long, part_whole}
use Rattle.book.specs.Layout.{number_bytes, record_bytes, pattern_bytes}
use Rattle.book.proofs.Written.{number_length}
use Rattle.book.proofs.writer.put_record.Goals as goal

pub returns : goal.returns
unfolding record_bytes pattern_bytes joined
returns c =
    let l = c.args.area.now in
    let words = c.args.kept.panel ∷ c.args.kept.camera ∷ c.args.kept.grade ∷ 0 ∷ [] in
    let n = c.args.kept.numbers in
    let thirteen : length n ≡ 13 = omega arith in
    let long : length l ≡ 120 = c.requires in
    let first = part_first (joined (number_bytes 4 words) 4) l c.put_numbers.new.area 16 c.put_numbers.ensures (length_joined (number_bytes 4 words) 4 (number_length 4 words) 4) in
    let whole = part_long _ l _ 16 first (omega arith) in
    let second = part_next _ l _ (joined (number_bytes 8 n) 13) c.put_numbers-2.new.area 16 _ first (omega (arith, whole)) (c.put_numbers-2.ensures ∙ ap (joined (number_bytes 8 n)) thirteen)
    (length_joined (number_bytes 8 n) 8 (number_length 8 n) 13 ∙ omega (arith, whole)) in
    part_whole _ l _ _ second whole
