-- `blobs::internal::flood` meets its contract: as many turns are done as pixels are counted. Assumes nothing.
use Prim.Native.Nat.{ℕ, ◌-◌, ◌/◌, ◌%◌}
use native.Mathlib.Omega.{arith}
use mathlib.Core.Path.{◌≡◌, refl, sym, ap, subst, ◌∙◌}
use lib.ListN.{get_or, length-set}
use mathlib.Core.List.{[]}
use native.Mathlib.Nat.{mod-lt, div-le_self}
use Rattle.base.specs.Loops.{turns}
use Rattle.base.proofs.Turns.{turns_begin, turns_step, turns_end}
use Rattle.blobs.specs.Patches.{PatchOf}
use Rattle.blobs.specs.Stack.{stack_of, grow, Flooding, flooding, begun, flood_step, flood}
use Rattle.blobs.proofs.Floods.{progress_of, progress_area, progress_sx, progress_sy, progress_outline, flood_does}
use Rattle.blobs.proofs.Sides.{sides_most}
use Rattle.blobs.proofs.Stacks.{stack_none, begun_is, flood_counts, flood_takes, flood_pops, flood_step_is, grow_area, flood_is, no_blob_area}
use Rattle.blobs.proofs.internal.flood.Goals as goal

pub no_blob-blob-requires : goal.no_blob-blob-requires
no_blob-blob-requires c = c.requires.0.pixel.wide

pub bounds-seen-a : goal.bounds-seen-a
bounds-seen-a c = omega (arith, c.requires.0.pixel.inside, c.requires.0.long)

pub overflow_cast-waiting : goal.overflow_cast-waiting
overflow_cast-waiting c = omega (arith, c.requires.0.pixel.inside, c.requires.0.pixel.small)

pub bounds-waiting-0 : goal.bounds-waiting-0
bounds-waiting-0 c = omega (arith, c.requires.0.pixel.inside)

pub loop-top-init : goal.loop-top-init
loop-top-init c =
    let s = c.args in
    let b = c.no_blob-blob in
    begun_is s.seen.now s.waiting.now s.w s.a b.result (omega (arith, c.requires.0.pixel.inside)) b.ensures
    ∙ turns_end (flood_step s.mask.now s.w) _ 0 b.result.area (turns_begin (flood_step s.mask.now s.w) _) (no_blob_area s.w s.a b.result b.ensures)

pub overflow_sub-low : goal.overflow_sub-low
overflow_sub-low c = omega arith

pub offset_bounds-waiting-low : goal.offset_bounds-waiting-low
offset_bounds-waiting-low c =
    omega (arith, flood_counts c.requires.0 _ _ _ _ _ c.loop-top.invariant, c.requires.0.pixel.small)

pub bounds-waiting-low : goal.bounds-waiting-low
bounds-waiting-low c =
    omega (arith, flood_counts c.requires.0 _ _ _ _ _ c.loop-top.invariant, length-set {A = ℕ})

pub nonzero_rem-x : goal.nonzero_rem-x
nonzero_rem-x c = c.requires.0.pixel.wide

pub nonzero_div-y : goal.nonzero_div-y
nonzero_div-y c = c.requires.0.pixel.wide

pub sides-s-requires : goal.sides-s-requires
sides-s-requires c = (flood_takes c.requires.0 _ _ _ _ _ c.loop-top.invariant (c.loop-top.top - 1) (omega arith), refl)

pub grow-blob-requires : goal.grow-blob-requires
grow-blob-requires c =
    let g = c.requires.0.pixel in
    let v = progress_of c.requires.0 c.loop-top.blob.area c.loop-top.invariant in
    let p = get_or c.loop-top.waiting (c.loop-top.top - 1) 0 in
    omega (
      arith,
      progress_area v,
      progress_sx g v,
      progress_sy g v,
      progress_outline g v,
      g.small,
      g.narrow,
      mod-lt p g.wide,
      div-le_self p c.args.w,
      c.type_inv.waiting (c.loop-top.top - 1),
      c.sides-s.ensures,
      sides_most c.args.mask.now c.args.w p,
    )

pub spread-top-requires : goal.spread-top-requires
spread-top-requires c =
    let low = c.loop-top.top - 1 in
    record {
      stacked = flood_pops c.requires.0 _ _ _ _ _ c.loop-top.invariant low (omega arith) (omega (arith, length-set {A = ℕ}));
      pixel = (flood_takes c.requires.0 _ _ _ _ _ c.loop-top.invariant low (omega arith), refl);
    }

pub loop-top-smaller : goal.loop-top-smaller
loop-top-smaller c =
    let g = c.grow-blob in
    omega (arith, flood_counts c.requires.0 _ _ _ _ _ c.loop-top.invariant, c.loop-top-test.true, grow_area c.loop-top.blob g.result _ _ _ g.ensures)

pub loop-top-preserved : goal.loop-top-preserved
loop-top-preserved c =
    let s = c.args in
    let l = c.loop-top in
    let low = l.top - 1 in
    let v = c.spread-top in
    let g = c.grow-blob in
    let m = s.mask.now in
    let p = get_or l.waiting low 0 in
    let f₀ = begun s.w s.a s.seen.now in
    flood_step_is m s.w l.blob.area l.seen l.waiting l.top l.blob l.waited v.new.seen v.new.waiting v.result
    g.result c.max-waited.result low (omega arith) v.ensures
    (g.ensures ∙ ap (grow l.blob (p % s.w) (p / s.w)) c.sides-s.ensures) c.max-waited.ensures
    ∙ turns_step (flood_step m s.w) f₀ l.blob.area l.invariant
    ∙ ap (λ n. turns n (flood_step m s.w) f₀) (sym (grow_area l.blob g.result _ _ _ g.ensures))

pub returns : goal.returns
returns c =
    let s = c.args in
    let l = c.loop-top in
    let m = s.mask.now in
    let e : stack_of l.waiting l.top ≡ [] = stack_none l.waiting l.top (omega arith) in
    let f : flooding l.seen [] l.blob l.waited ≡ flood m s.w s.a s.seen.now =
    flood_is m s.w s.a s.seen.now l.blob.area (flooding l.seen [] l.blob l.waited) refl
    (omega (arith, flood_counts c.requires.0 _ _ _ _ _ l.invariant)) (ap (λ k. flooding l.seen k l.blob l.waited) (sym e) ∙ l.invariant) in
    record { waited_after = f; patch_of = subst (λ (x : Flooding). PatchOf m s.w s.a x.blob) (sym f) (flood_does c.requires.0).patch }
