use Rattle.code_file.proofs.Grammar.{one_file as alike}
use Rattle.code_file.proofs.laws.one_file.Goals as goal

pub returns : goal.returns
returns c = alike
