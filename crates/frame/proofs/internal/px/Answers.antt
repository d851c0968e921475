-- `frame::internal::px` meets its contract. Assumes nothing.
use mathlib.Core.Path.{refl}
use native.Mathlib.Omega.{arith}
use Rattle.frame.specs.Image.{px}
use Rattle.frame.proofs.Pixels.{bytes_most, byte_in}
use Rattle.frame.proofs.internal.px.Goals as goal

pub overflow_mul-i : goal.overflow_mul-i
overflow_mul-i c = let a = c.args in omega (arith, byte_in a.w a.h a.x a.y 2 (omega arith) (omega arith) (omega arith), bytes_most a.w a.h (omega arith) (omega arith))

pub overflow_add-i : goal.overflow_add-i
overflow_add-i c = let a = c.args in omega (arith, byte_in a.w a.h a.x a.y 2 (omega arith) (omega arith) (omega arith), bytes_most a.w a.h (omega arith) (omega arith))

pub overflow_mul-i-2 : goal.overflow_mul-i-2
overflow_mul-i-2 c = let a = c.args in omega (arith, byte_in a.w a.h a.x a.y 2 (omega arith) (omega arith) (omega arith), bytes_most a.w a.h (omega arith) (omega arith))

pub bounds-bytes-i : goal.bounds-bytes-i
bounds-bytes-i c = let a = c.args in omega (
  arith,
  byte_in a.w a.h a.x a.y 2 (omega arith) (omega arith)
      (omega arith),
  bytes_most a.w a.h (omega arith) (omega arith),
)

pub overflow_add-result : goal.overflow_add-result
overflow_add-result c = let a = c.args in omega (arith, byte_in a.w a.h a.x a.y 2 (omega arith) (omega arith) (omega arith), bytes_most a.w a.h (omega arith) (omega arith))

pub bounds-bytes-i-2 : goal.bounds-bytes-i-2
bounds-bytes-i-2 c = let a = c.args in omega (
  arith,
  byte_in a.w a.h a.x a.y 2 (omega arith) (omega arith)
      (omega arith),
  bytes_most a.w a.h (omega arith) (omega arith),
)

pub overflow_add-result-2 : goal.overflow_add-result-2
overflow_add-result-2 c = let a = c.args in omega (arith, byte_in a.w a.h a.x a.y 2 (omega arith) (omega arith) (omega arith), bytes_most a.w a.h (omega arith) (omega arith))

pub bounds-bytes-i-3 : goal.bounds-bytes-i-3
bounds-bytes-i-3 c = let a = c.args in
    omega (
      arith,
      byte_in a.w a.h a.x a.y 2 (omega arith) (omega arith) (omega arith),
      bytes_most a.w a.h (omega arith)
          (omega arith),
    )

pub returns : goal.returns
unfolding px
returns c = refl
