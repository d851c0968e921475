-- What a console remembers of reads and writes that fail. Assumes nothing.
use Rattle.std.specs.Prelude.{◌≡◌, Option, Some, None, Result, Ok, Err, IsSome}

-- the failure that is kept: the first one
abbrev pub first_failure : {E : Type 0} {A : Type 0} → Option E → Result A E → Option E
first_failure (Some e) done = Some e
first_failure None (Ok a) = None
first_failure None (Err e) = Some e

-- a failure that was kept is kept on
abbrev pub KeepsFirst : {E : Type 0} → Option E → Option E → Type 0
KeepsFirst old new = IsSome old → new ≡ old
