-- `tablet::frames::tablet_lengths` meets its contract. Assumes nothing.
use Rattle.frame.proofs.Held.{frame_held, sides_held}
use Rattle.tablet.proofs.Laws.{triple, triple_product}
use Rattle.tablet.proofs.frames.tablet_lengths.Goals as goal

pub smallest-smallest-requires : goal.smallest-smallest-requires
smallest-smallest-requires c = let h = sides_held c.args.w c.args.h (cc) in (h.w_most, h.h_most)

pub overflow_mul-w : goal.overflow_mul-w
overflow_mul-w c = let h = sides_held c.args.w c.args.h (cc) in record { fits = triple h.w_most }

pub overflow_mul-w-2 : goal.overflow_mul-w-2
overflow_mul-w-2 c = let h = sides_held c.args.w c.args.h (cc) in record { fits = triple_product h.w_most h.h_most }

pub overflow_mul-width : goal.overflow_mul-width
overflow_mul-width c = let h = frame_held _ c.in-Ok.ensures.0 in record { fits = triple h.width_most }

pub overflow_mul-width-2 : goal.overflow_mul-width-2
overflow_mul-width-2 c = let h = frame_held _ c.in-Ok.ensures.0 in record { fits = triple_product h.width_most h.height_most }
