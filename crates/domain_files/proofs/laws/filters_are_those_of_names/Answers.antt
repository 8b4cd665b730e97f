use Rattle.domain_files.proofs.Uses.{file_uses}
use Rattle.domain_files.proofs.laws.filters_are_those_of_names.Goals as goal

pub returns : goal.returns
returns c = λ text f is. file_uses text f is
