-- `frame::internal::set` meets its contract. Assumes nothing.
use mathlib.Core.Path.{refl}
use native.Mathlib.Omega.{arith}
use lib.ListN.{length-set}
use Rattle.frame.specs.Image.{with_pixel}
use Rattle.frame.proofs.Pixels.{bytes_most, byte_in}
use Rattle.frame.proofs.internal.set.Goals as goal

pub overflow_mul-i : goal.overflow_mul-i
overflow_mul-i c = let a = c.args in omega (arith, byte_in a.w a.h a.x a.y 2 (omega arith) (omega arith) (omega arith), bytes_most a.w a.h (omega arith) (omega arith))

pub overflow_add-i : goal.overflow_add-i
overflow_add-i c = let a = c.args in omega (arith, byte_in a.w a.h a.x a.y 2 (omega arith) (omega arith) (omega arith), bytes_most a.w a.h (omega arith) (omega arith))

pub overflow_mul-i-2 : goal.overflow_mul-i-2
overflow_mul-i-2 c = let a = c.args in omega (arith, byte_in a.w a.h a.x a.y 2 (omega arith) (omega arith) (omega arith), bytes_most a.w a.h (omega arith) (omega arith))

pub bounds-bytes-i : goal.bounds-bytes-i
bounds-bytes-i c = let a = c.args in omega (arith, byte_in a.w a.h a.x a.y 2 (omega arith) (omega arith) (omega arith), bytes_most a.w a.h (omega arith) (omega arith))

pub overflow_add-bytes : goal.overflow_add-bytes
overflow_add-bytes c = let a = c.args in omega (arith, byte_in a.w a.h a.x a.y 2 (omega arith) (omega arith) (omega arith), bytes_most a.w a.h (omega arith) (omega arith))

pub bounds-bytes-i-2 : goal.bounds-bytes-i-2
bounds-bytes-i-2 c = let a = c.args in simp length-set (omega (
  arith,
  byte_in a.w a.h a.x a.y 2 (omega arith) (omega arith)
      (omega arith),
  bytes_most a.w a.h (omega arith) (omega arith),
))

pub overflow_add-bytes-2 : goal.overflow_add-bytes-2
overflow_add-bytes-2 c = let a = c.args in omega (arith, byte_in a.w a.h a.x a.y 2 (omega arith) (omega arith) (omega arith), bytes_most a.w a.h (omega arith) (omega arith))

pub bounds-bytes-i-3 : goal.bounds-bytes-i-3
bounds-bytes-i-3 c = let a = c.args in simp length-set (omega (
  arith,
  byte_in a.w a.h a.x a.y 2 (omega arith) (omega arith)
      (omega arith),
  bytes_most a.w a.h (omega arith) (omega arith),
))

pub shape_of-bytes : goal.shape_of-bytes
shape_of-bytes c = simp length-set

pub returns : goal.returns
unfolding with_pixel
returns c = refl
