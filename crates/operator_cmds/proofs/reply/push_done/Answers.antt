-- One digit.
use Rattle.std.proofs.Common.{rules}
use Rattle.std.proofs.lemmas.Fmt.{decimal_digit}
use Rattle.operator_cmds.proofs.reply.push_done.Goals as goal

pub returns-then-changed-lt10-clause-ok : goal.returns-then-changed-lt10-clause-ok
returns-then-changed-lt10-clause-ok c = rw (decimal_digit c.args.changed c.if-changed-lt10.true) (search rules)
