use Rattle.filter_tokens.proofs.ByteParts.{byte-answer}
use Rattle.filter_tokens.proofs.bytes.leading_byte.Goals as goal

pub returns-clause-part : goal.returns-clause-part
returns-clause-part c =
    byte-answer c.args.text.now c.in_ok-first._others.now c.in_ok-first.first.now c.byte_part.result c.in_ok-first.ensures.cases.0
    c.byte_part.ensures
