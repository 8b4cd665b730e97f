use Rattle.filter_tokens.proofs.PartLaws.{token-answer, gap-answer}
use Rattle.filter_tokens.proofs.parts.longer_part.Goals as goal

pub returns-in-Some-eq0-clause-within : goal.returns-in-Some-eq0-clause-within
returns-in-Some-eq0-clause-within c = token-answer c.args.text.now c.token.result c.token.ensures.is

pub returns-in-Some-clause-within : goal.returns-in-Some-clause-within
returns-in-Some-clause-within c = gap-answer c.args.text.now c.in-Some.len c.in-Some.ensures c.in-Some.len-test.1
