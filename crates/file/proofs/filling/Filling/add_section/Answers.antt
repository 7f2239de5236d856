use Rattle.std.proofs.Common.{rules}
use Rattle.file.proofs.filling.Filling.add_section.Goals as goal

pub returns-in-Rows-clause-after : goal.returns-in-Rows-clause-after
returns-in-Rows-clause-after g c = rw c.in-Rows.is (search rules)
