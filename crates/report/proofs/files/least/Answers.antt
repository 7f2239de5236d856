use Rattle.report.proofs.Limit.{limit_never_shows}
use Rattle.report.proofs.files.least.Goals as goal

pub returns-in_err-lines-clause-limit : goal.returns-in_err-lines-clause-limit
returns-in_err-lines-clause-limit c = limit_never_shows c.file_theorems.ensures

pub returns-clause-limit : goal.returns-clause-limit
returns-clause-limit c = limit_never_shows c.file_theorems.ensures
