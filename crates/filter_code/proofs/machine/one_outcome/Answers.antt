use Rattle.filter_code.proofs.Runs.{outcome_exists, outcome_only, few_steps}
use Rattle.filter_code.proofs.machine.one_outcome.Goals as goal

pub returns : goal.returns
returns c = record { exists = outcome_exists; only = outcome_only; soon = few_steps }
