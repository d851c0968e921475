-- `blobs::patch::store` meets its contract. Assumes nothing.
use native.Mathlib.Omega.{arith}
use mathlib.Core.Path.{refl}
use lib.ListN.{length-set}
use Rattle.blobs.specs.Patches.{stored}
use Rattle.blobs.proofs.patch.store.Goals as goal

pub bounds-patches-i-2 : goal.bounds-patches-i-2
bounds-patches-i-2 c = simp length-set (omega arith)

pub bounds-patches-i-3 : goal.bounds-patches-i-3
bounds-patches-i-3 c = simp length-set (omega arith)

pub bounds-patches-i-4 : goal.bounds-patches-i-4
bounds-patches-i-4 c = simp length-set (omega arith)

pub bounds-patches-i-5 : goal.bounds-patches-i-5
bounds-patches-i-5 c = simp length-set (omega arith)

pub bounds-patches-i-6 : goal.bounds-patches-i-6
bounds-patches-i-6 c = simp length-set (omega arith)

pub bounds-patches-i-7 : goal.bounds-patches-i-7
bounds-patches-i-7 c = simp length-set (omega arith)

pub bounds-patches-i-8 : goal.bounds-patches-i-8
bounds-patches-i-8 c = simp length-set (omega arith)

pub shape_of-patches : goal.shape_of-patches
shape_of-patches c = simp length-set

pub returns : goal.returns
unfolding stored
returns c = refl
