use Rattle.operator_cmds.proofs.Alike.{line_alike, runs_alike, scripts_alike}
use Rattle.operator_cmds.proofs.laws.two_runs_are_answered_alike.Goals as goal

pub returns-clause-line : goal.returns-clause-line
returns-clause-line c = λ one other after later number line a b. line_alike one other after later number line a b

pub returns-clause-runs : goal.returns-clause-runs
returns-clause-runs c = runs_alike

pub returns-clause-scripts : goal.returns-clause-scripts
returns-clause-scripts c = scripts_alike
