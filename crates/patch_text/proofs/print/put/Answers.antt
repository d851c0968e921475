-- `patch_text::print::put` meets its contract. Assumes nothing.
use native.Mathlib.Omega.{arith}
use mathlib.Core.Path.{ap, ◌∙◌}
use lib.ListN.{length}
use Rattle.patch_text.proofs.Numbers.{spelled_std, put_is}
use Rattle.patch_text.proofs.print.put.Goals as goal

pub returns : goal.returns
returns c =
    let v = c.copy-end in
    let text = c.as_bytes.ensures.value ∙ c.format.ensures.text ∙ spelled_std c.args.n c.ranges.n.fits in
    put_is c.args.out.now v.new.out c.as_bytes.result.now c.args.at v.result c.args.n c.args.after (omega arith) v.ensures.0 v.ensures.1
    (omega (arith, ap length c.as_bytes.ensures.value)) text
