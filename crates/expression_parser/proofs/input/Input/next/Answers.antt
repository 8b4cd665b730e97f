use Rattle.std.proofs.Common.{refl, rules}
use Rattle.expression_parser.proofs.Placing.{spans_one}
use Rattle.expression_parser.proofs.input.Input.next.Goals as goal

pub returns-clause-placed : goal.returns-clause-placed
returns-clause-placed c = spans_one {t = c.in_ok-first.first.now} (search rules) refl
