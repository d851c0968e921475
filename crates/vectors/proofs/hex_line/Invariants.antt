-- The digits still to write, and then the line from there on, are the line of w.
use Rattle.std.proofs.Common.{length, ◌≡◌, ◌++◌, drop}
use Rattle.vectors.specs.Words.{last_digits, hex_line}
use Rattle.vectors.proofs.hex_line.Given as goal

abbrev pub invariant-loop-i : goal.invariant-loop-i
invariant-loop-i l = record { long : length l.line ≡ 17; same : last_digits 16 l.i l.rest ++ drop l.i l.line ≡ hex_line l.w }
