-- What a reader of a file keeps and answers, section by section.
use Rattle.std.specs.Prelude.{ℕ, Bool, false, cond, ◌||◌, length, Some, None, Ok, Err, Option, Result, ◌==◌, nat_lt}
use Rattle.std.specs.Option.{option_map}
use Rattle.std.specs.Result.{result_map_both}
use Rattle.file.specs.declared.unread.Unread.{Unread}
use Rattle.file.specs.Parts.{PartRead, fault_at}
use Rattle.file.specs.declared.refusal.FileRefusal.{FileRefusal}
use Rattle.file.specs.declared.refusal.FileRefusal.TheVariants.{CutShort, WrongSection}
use Rattle.file.specs.declared.refusal.LoadFault.{LoadFault}
use Rattle.file.specs.declared.section.Section.{Section}
use Rattle.file.specs.declared.section.Section.TheVariants.{Rows as SomeRows, Lines as SomeLines, Note as ANote}
use Rattle.file.specs.declared.section.SectionKind.{SectionKind}
use Rattle.file.specs.declared.section.SectionKind.TheVariants.{Rows, Lines, Note}
use Rattle.file.specs.declared.reader.Reader.{Reader}
use Rattle.file.specs.declared.reader.Stage.{Stage}
use Rattle.file.specs.declared.reader.Stage.TheVariants as stage
use Rattle.file.specs.Fields.{head_code}
use Rattle.file.specs.Sections.{SectionRead, lines_code, next_section, note_code, past, rows_code}

-- those of what is still to be read
abbrev pub unread : Unread → PartRead
unread u = record { bytes = u.bytes.now; place = u.place }

-- the code of each kind of section
abbrev pub section_code : SectionKind → ℕ
section_code Rows = rows_code
section_code Lines = lines_code
section_code Note = note_code

-- the kind of section that has the code
abbrev pub kind_of_code : ℕ → Result SectionKind FileRefusal
kind_of_code code =
    cond (code == rows_code) (Ok Rows) (cond (code == lines_code) (Ok Lines) (cond (code == note_code) (Ok Note) (Err WrongSection)))

-- the section of that kind, part and count
abbrev pub section_of : SectionKind → Unread → ℕ → SectionRead
section_of kind part count = record { code = section_code kind; part = unread part; count = count }

-- what the code's section stands for, and the same of answers
abbrev pub section_read : Section → SectionRead
section_read (SomeRows part count) = section_of Rows part count
section_read (SomeLines part count) = section_of Lines part count
section_read (ANote part count) = section_of Note part count

abbrev pub section_result : Result Section FileRefusal → Result SectionRead FileRefusal
section_result r = result_map_both section_read (λ e. e) r

abbrev pub next_result : Result (Option Section) LoadFault → Result (Option SectionRead) LoadFault
next_result r = result_map_both (option_map section_read) (λ e. e) r

-- How far a file is read: what is left of it, and what the reader awaits there.
pub record ReadSoFar : Type 0 where
  pub left : PartRead
  pub stage : Stage

-- how far a reader has come
abbrev pub read_so_far : Reader → ReadSoFar
read_so_far r = record { left = unread r.left; stage = r.stage }

-- Each stage takes its own section or a later one; at the end none may come.
abbrev pub may_come : Stage → ℕ → Bool
may_come stage.Rows code = code == rows_code || (code == lines_code || code == note_code)
may_come stage.Lines code = code == lines_code || code == note_code
may_come stage.Note code = code == note_code
may_come stage.End code = false

-- the kind of the section that has the code, where it may come
abbrev pub admitted : Stage → ℕ → Result SectionKind FileRefusal
admitted s code = cond (may_come s code) (kind_of_code code) (Err WrongSection)

-- the stage behind the section of that code
abbrev pub following : ℕ → Stage
following code = cond (code == rows_code) stage.Lines (cond (code == lines_code) stage.Note stage.End)

-- the stage after a section of that code, which is refused where it may not come
abbrev pub stage_after : Stage → ℕ → Stage
stage_after s code = cond (may_come s code) (following code) s

-- the head that comes next is of a section that may come
abbrev pub in_order : ReadSoFar → Bool
in_order r = may_come r.stage (head_code r.left.bytes)

-- the section whose head comes next, or why it is refused
abbrev pub section_answer : ReadSoFar → Result SectionRead FileRefusal
section_answer r =
    cond (nat_lt (length r.left.bytes) 2) (Err CutShort) (cond (in_order r) (Ok (next_section r.left)) (Err WrongSection))

-- the next section, none at the file's end, or why it is refused
abbrev pub next_answer : ReadSoFar → Result (Option SectionRead) LoadFault
next_answer r =
    cond (length r.left.bytes == 0) (Ok None)
    (cond (nat_lt (length r.left.bytes) 2) (Err (fault_at CutShort r.left.place))
    (cond (in_order r) (Ok (Some (next_section r.left))) (Err (fault_at WrongSection r.left.place))))

-- how far the file is read then; where no section is answered, as far as before
abbrev pub next_after : ReadSoFar → ReadSoFar
next_after r =
    cond (nat_lt (length r.left.bytes) 2) r
    (cond (in_order r) (record { left = past r.left; stage = following (head_code r.left.bytes) }) r)
