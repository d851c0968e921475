-- The numbers of a row that can be printed. Assumes nothing.
use mathlib.Core.Path.{◌≡◌}
use mathlib.Core.Bool.{true, ◌&&◌}
use lib.Dec.{lit<}
use Rattle.base.proofs.Tests.{and_left, and_right}
use Rattle.page.specs.Promises.{row_printable}
use Rattle.page.specs.Amounts.{widest, printable}
use Rattle.page.specs.Steps.{AllNarrow}
use Rattle.page.specs.declared.Row.{Row}
use Rattle.page.proofs.Amounts.{printable_narrow}

-- each of the four numbers of a row that can be printed
pub record EachOf (r : Row) : Type 0 where
  pub x : printable 100 (widest 8) r.x ≡ true
  pub y : printable 100 (widest 8) r.y ≡ true
  pub size : printable 100 (widest 7) r.size ≡ true
  pub score : printable 1000 (widest 5) r.score ≡ true

pub each_of : (r : Row) → row_printable r ≡ true → EachOf r
unfolding row_printable
each_of r h =
    let a = printable 100 (widest 8) r.x in
    let b = printable 100 (widest 8) r.y in
    let s = printable 100 (widest 7) r.size in
    let t = printable 1000 (widest 5) r.score in
    let abs : a && b && s ≡ true = and_left (a && b && s) t h in
    let ab : a && b ≡ true = and_left (a && b) s abs in
    record {
      x = and_left a b ab;
      y = and_right a b ab;
      size = and_right (a && b) s abs;
      score = and_right (a && b && s) t h;
    }

-- they are narrow
pub row_narrow : (r : Row) → row_printable r ≡ true → AllNarrow r
row_narrow r h =
    let e = each_of r h in
    record {
      x = printable_narrow 100 (widest 8) (lit< tt) r.x e.x;
      y = printable_narrow 100 (widest 8) (lit< tt) r.y e.y;
      size = printable_narrow 100 (widest 7) (lit< tt) r.size e.size;
      score = printable_narrow 1000 (widest 5) (lit< tt) r.score e.score;
    }
