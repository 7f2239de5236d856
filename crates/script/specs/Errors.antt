-- The text of an error.
use Rattle.std.specs.Prelude.{ℕ, List, codes}
use Rattle.script.specs.declared.error.ParseError.{ParseError}
use Rattle.script.specs.declared.error.ParseError.TheVariants.{Unreadable, OutOfMemory}

-- the text of an error
abbrev pub parse_error_text : ParseError → List ℕ
parse_error_text Unreadable = codes "unreadable"
parse_error_text OutOfMemory = codes "out of memory"
