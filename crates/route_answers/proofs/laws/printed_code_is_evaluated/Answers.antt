use Rattle.route_answers.proofs.Evaluated.{answered_as_meant, evaluated}
use Rattle.route_answers.proofs.PrintedLines.{line_again}
use Rattle.route_answers.proofs.laws.printed_code_is_evaluated.Goals as goal

pub returns-clause-line : goal.returns-clause-line
returns-clause-line c = line_again

pub returns-clause-answers : goal.returns-clause-answers
returns-clause-answers c = evaluated

pub returns-clause-meant : goal.returns-clause-meant
returns-clause-meant c = answered_as_meant
