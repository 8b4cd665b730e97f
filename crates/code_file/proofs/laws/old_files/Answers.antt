use Rattle.code_file.proofs.Old.{old_is, old_alike}
use Rattle.code_file.proofs.laws.old_files.Goals as goal

pub returns : goal.returns
returns c = record { has = old_is; same = old_alike }
