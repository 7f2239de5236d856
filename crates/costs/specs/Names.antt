-- The three kinds by their names, and the letters that name them.
use Rattle.std.specs.Prelude.{ℕ, cond, ◌==◌, Some, None, Option, Result}
use Rattle.std.specs.Option.{ok_or}
use Rattle.costs.specs.Meaning.{Meaning}
use Rattle.costs.specs.Kinds.{points, severity, rank}
use Rattle.costs.specs.declared.kind_name.KindName.{KindName}
use Rattle.costs.specs.declared.kind_name.KindName.TheVariants as name
use Rattle.costs.specs.declared.kind_name.UnknownLetter.{UnknownLetter}

-- what the kind of the name means
abbrev pub meaning_of : KindName → Meaning
meaning_of name.Points = points
meaning_of name.Severity = severity
meaning_of name.Rank = rank

-- the letter of the kind of the name
abbrev pub letter_of : KindName → ℕ
letter_of k = (meaning_of k).letter

-- the name of the kind that has the letter
abbrev pub kind_by_letter : ℕ → Option KindName
kind_by_letter l =
    cond (l == points.letter) (Some name.Points) (cond (l == severity.letter) (Some name.Severity) (cond (l == rank.letter) (Some name.Rank) None))

-- the name of the kind that has the letter, or the letter back where no kind has it
abbrev pub kind_under_letter : ℕ → Result KindName UnknownLetter
kind_under_letter l = ok_or (kind_by_letter l) (record { 0 = l })
