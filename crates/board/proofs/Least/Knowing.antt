-- A sound content and its book, of what is known.
use Rattle.costs.specs.declared.kind.Kind.{Ghosts}
use Rattle.board.specs.declared.settling.Known.{Known}
use Rattle.board.specs.Held.{held}
use Rattle.board.specs.Logs.{Ready}

pub ready_of : {K : Type 0} {k : Ghosts K} (a : Known K k) → Ready k.meaning (held a.tables.now) a.log.now
ready_of a = record { sound = a.tables.now.sound; book = a.book }
