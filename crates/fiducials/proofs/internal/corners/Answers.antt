-- `fiducials::internal::corners` meets its contract. Assumes nothing.
use Prim.Native.Nat.{◌≤◌, ◌*◌}
use native.Mathlib.Omega.{arith}
use lib.ListN.{length}
use Rattle.fiducials.proofs.Answering.{corners_few, corners_shared, corners_crooked, corners_found, listed}
use Rattle.fiducials.proofs.internal.corners.Goals as goal

pub returns-then-k-lt4 : goal.returns-then-k-lt4
returns-then-k-lt4 c = corners_few _ _ _ _ _ c.if-k-lt4.true

pub returns-then-shared : goal.returns-then-shared
returns-then-shared c =
    let a = c.args in
    corners_shared a.candidates.now a.blob_index.now a.w a.h a.k _ _ _ _ c.pick-tl.ensures c.pick-tr.ensures c.pick-br.ensures c.pick-bl.ensures
    c.if-k-lt4.false _ c.shared.ensures c.if-shared.true

pub quad_at-quad-requires : goal.quad_at-quad-requires
quad_at-quad-requires c =
    let a = c.args in
    let room : 4 * a.k ≤ length a.candidates.now = c.requires.2 in
    let four = c.if-k-lt4.false in
    let picks = listed a.candidates.now a.blob_index.now a.w a.h a.k _ _ _ _ c.pick-tl.ensures c.pick-tr.ensures c.pick-br.ensures c.pick-bl.ensures four in
    (omega arith, omega arith, omega arith, omega arith)

pub returns-then-one_way-too_small : goal.returns-then-one_way-too_small
returns-then-one_way-too_small c =
    let a = c.args in
    corners_crooked a.candidates.now a.blob_index.now a.w a.h a.k _ _ _ _ c.pick-tl.ensures c.pick-tr.ensures c.pick-br.ensures c.pick-bl.ensures
    c.if-k-lt4.false _ c.shared.ensures c.if-shared.false _ c.quad_at-quad.ensures _ _ c.one_way.ensures c.too_small.ensures c.if-one_way-too_small.true

pub places_at-places-requires : goal.places_at-places-requires
places_at-places-requires c =
    let a = c.args in
    let room : a.k ≤ length a.blob_index.now = c.requires.3 in
    let four = c.if-k-lt4.false in
    let picks = listed a.candidates.now a.blob_index.now a.w a.h a.k _ _ _ _ c.pick-tl.ensures c.pick-tr.ensures c.pick-br.ensures c.pick-bl.ensures four in
    (omega arith, omega arith, omega arith, omega arith)

pub returns : goal.returns
returns c =
    let a = c.args in
    corners_found a.candidates.now a.blob_index.now a.w a.h a.k _ _ _ _ c.pick-tl.ensures c.pick-tr.ensures c.pick-br.ensures c.pick-bl.ensures
    c.if-k-lt4.false _ c.shared.ensures c.if-shared.false _ c.quad_at-quad.ensures _ _ c.one_way.ensures c.too_small.ensures c.if-one_way-too_small.false
    _ c.places_at-places.ensures
