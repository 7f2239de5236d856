-- The names of commands.
use Rattle.std.specs.Prelude.{ℕ, Bool, cond, List, Some, None, codes, Option}
use Rattle.std.specs.Str.{bytes_eq}
use Rattle.script.specs.declared.name.Name.{Name}
use Rattle.script.specs.declared.name.Name.TheVariants.{Kind, Size, Row, Line, RepriceRow, RepriceLine, Clear, Load, Settle, Reopen, Cost, Path, Between, Check}

-- whether the word is that text
unfoldable pub spells : List ℕ → List ℕ → Bool
spells text word = bytes_eq word text

-- the command that the word names
abbrev pub name_of : List ℕ → Option Name
name_of w =
    cond (spells (codes "kind") w) (Some Kind)
    (cond (spells (codes "size") w) (Some Size)
    (cond (spells (codes "row") w) (Some Row)
    (cond (spells (codes "line") w) (Some Line)
    (cond (spells (codes "reprice-row") w) (Some RepriceRow)
    (cond (spells (codes "reprice-line") w) (Some RepriceLine)
    (cond (spells (codes "clear") w) (Some Clear)
    (cond (spells (codes "load") w) (Some Load)
    (cond (spells (codes "settle") w) (Some Settle)
    (cond (spells (codes "reopen") w) (Some Reopen)
    (cond (spells (codes "cost") w) (Some Cost)
    (cond (spells (codes "path") w) (Some Path)
    (cond (spells (codes "between") w) (Some Between)
    (cond (spells (codes "check") w) (Some Check) None)))))))))))))
