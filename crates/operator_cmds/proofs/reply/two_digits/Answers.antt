use Rattle.operator_cmds.proofs.Pairs.{PAIRS_at}
use Rattle.operator_cmds.proofs.reply.two_digits.Goals as goal

pub returns-clause-ten : goal.returns-clause-ten
returns-clause-ten c = (PAIRS_at c.args.n c.requires).0

pub returns-clause-one : goal.returns-clause-one
returns-clause-one c = (PAIRS_at c.args.n c.requires).1
