-- `patch_text::internal::answer_text` meets its contract. Assumes nothing.
use Prim.Native.Nat.{◌*◌}
use native.Mathlib.Omega.{arith}
use mathlib.Core.Path.{◌≡◌, refl, sym, ap, subst, ◌∙◌}
use lib.ListN.{take, replicate}
use lib.Seq.{length-take-le}
use Rattle.std.specs.Prelude.{Result, Ok, Err, IsOk}
use Rattle.base.specs.Loops.{table}
use Rattle.base.proofs.Table.{take_filled}
use Rattle.frame.specs.Refusals.{number_of, lowest_of}
use Rattle.frame.specs.declared.refusals.Refusal.{Refusal}
use Rattle.frame.proofs.Given.{positive}
use Rattle.blobs.specs.Patches.{PatchList}
use Rattle.blobs.specs.Promises.{labelled}
use Rattle.blobs.specs.declared.Labelled.{Labelled}
use Rattle.blobs.proofs.Refusing.{long_enough}
use Rattle.patch_text.specs.Text.{Reads}
use Rattle.patch_text.specs.Text.Answered.{accepted}
use Rattle.patch_text.specs.Steps.{pixel_at}
use Rattle.patch_text.proofs.Texts.{reads_length, reads_area, reads_sides}
use Rattle.patch_text.proofs.internal.answer_text.Goals as goal

pub fill-requires : goal.fill-requires
fill-requires c =
    let r = c.in-Some.ensures in
    (r.wide, r.narrow, r.low, reads_length r, reads_area r)

-- an answer with the number 0 has a value
is_ok_at : {A : Type 0} (a : Result A Refusal) → number_of a ≡ 0 → IsOk a
is_ok_at (Ok v) e = refl
is_ok_at (Err r) e = let p = positive r in absurd (omega arith)

pub unwrap-labelled-requires : goal.unwrap-labelled-requires
unwrap-labelled-requires c =
    let r = c.in-Some.ensures in
    let z = reads_area r in
    is_ok_at c.label_blobs.result
    (c.label_blobs.ensures.given
    ∙ sym (long_enough c.in-Some.size.w c.in-Some.size.h _ _ _ _ (reads_sides r) (length-take-le _ c.fill.new.mask (omega arith)) (omega arith) (omega arith) (omega arith)))

pub returns-clause-answered : goal.returns-clause-answered
returns-clause-answered c =
    let r = c.in-Some.ensures in
    let w = c.in-Some.size.w in
    let h = c.in-Some.size.h in
    let v = c.label_blobs in
    let text = c.args.text.now in
    let part : take (w * h) c.fill.new.mask ≡ table (pixel_at text w) (w * h) =
    ap (take (w * h)) c.fill.ensures ∙ take_filled (pixel_at text w) (w * h) 0 (replicate 4096 0) (reads_area r) in
    let z : lowest_of _ ≡ 0 = sym v.ensures.given ∙ ap number_of c.unwrap-labelled.ensures in
    let l = v.ensures.accepted z in
    accepted w h _ (subst (Reads text w h) (sym part) r)
    record {
      before = replicate 16384 0;
      list = v.new.patches;
      count = c.unwrap-labelled.result.patches;
      firsts = l.firsts;
      patches = subst (λ (a : Result Labelled Refusal). PatchList (take (w * h) c.fill.new.mask) w (replicate 16384 0) v.new.patches (labelled a).patches l.firsts) c.unwrap-labelled.ensures l.records;
      text = c.list.ensures.0;
    }
