use Rattle.filter_tokens.proofs.PartLaws.{part-bounds, part-found}
use Rattle.filter_tokens.proofs.parts.next_part.Goals as goal

pub returns-in-Some-clause-within : goal.returns-in-Some-clause-within
returns-in-Some-clause-within c =
    part-bounds c.args.text.now c.in-Some.part (part-found c.args.text.now c.in-Some.part c.in-Some.ensures.part)
