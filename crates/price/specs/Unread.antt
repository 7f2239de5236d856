-- Why the words of a line have no numbers.
use Rattle.std.specs.Prelude.{◌≡◌, ℕ, List, Err}
use Rattle.price.specs.declared.answer.LineFault.{LineFault}
use Rattle.price.specs.declared.answer.LineFault.TheVariants.{NotACost, Unreadable, OutOfMemory}
use Rattle.price.specs.Lines.{read_costs}

-- the fault is the first word that is no number, or memory that did not suffice
abbrev pub FirstUnread : List (List ℕ) → LineFault → Type 0
FirstUnread ws (NotACost w) = ⊥
FirstUnread ws (Unreadable w) = read_costs ws ≡ Err w.now
FirstUnread ws OutOfMemory = Unit {0}
