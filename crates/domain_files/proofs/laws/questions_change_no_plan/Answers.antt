use Rattle.domain_files.proofs.Uses.{asks_nothing}
use Rattle.domain_files.proofs.laws.questions_change_no_plan.Goals as goal

pub returns : goal.returns
returns c = λ p q number command answer asks is. asks_nothing p q number command answer asks is
