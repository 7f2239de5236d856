-- The content that tables and a draft hold.
use Rattle.costs.specs.declared.kind.Kind.{Ghosts}
use Rattle.board.specs.declared.tables.Tables.{Tables}
use Rattle.board.specs.declared.draft.Draft.{Draft}
use Rattle.board.specs.Content.{Content, content, Sound}

-- the size, the rows and the lines
abbrev pub held : {K : Type 0} {k : Ghosts K} → Tables K k → Content
held t = content t.modes t.moments t.rows.items t.lines.items

-- the content of a draft
abbrev pub draft_content : {K : Type 0} {k : Ghosts K} → Draft K k → Content
draft_content d = held d.tables

-- every draft's content is sound
pub draft_sound : {K : Type 0} {k : Ghosts K} (d : Draft K k) → Sound k.meaning (draft_content d)
draft_sound d = d.tables.sound
