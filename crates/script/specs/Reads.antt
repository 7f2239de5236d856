-- What reading words gives where it may fail.
use Rattle.std.specs.Prelude.{Some, None, Ok, Err, Option, Result}
use Rattle.script.specs.declared.error.ParseError.{ParseError}
use Rattle.script.specs.declared.error.ParseError.TheVariants.{Unreadable, OutOfMemory}

-- what was read, or that it cannot be read; nothing where memory did not suffice
abbrev pub read_of : {T U : Type 0} → (T → U) → Result T ParseError → Option (Option U)
read_of f (Ok x) = Some (Some (f x))
read_of f (Err Unreadable) = Some None
read_of f (Err OutOfMemory) = None
