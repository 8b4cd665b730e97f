use Rattle.code_file.proofs.Grammar.{no_fault, one_fault as alike}
use Rattle.code_file.proofs.laws.one_fault.Goals as goal

pub returns : goal.returns
returns c = record { one = alike; none = no_fault }
