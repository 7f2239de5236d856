use Rattle.file.proofs.theorems.file_theorems.Goals as goal
use Rattle.file.proofs.Loads.Beyond.{first_bytes}

pub returns : goal.returns
returns c = first_bytes
