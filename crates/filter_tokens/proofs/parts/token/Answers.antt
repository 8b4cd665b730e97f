use Rattle.filter_tokens.proofs.PartLaws.{longest-shorter}
use Rattle.filter_tokens.proofs.parts.token.Goals as goal

pub overflow_sub-len : goal.overflow_sub-len
overflow_sub-len c =
    longest-shorter c.args.text.now (c.in-Some-longest_shape.shape, c.in-Some-longest_shape.rest.now) c.in-Some-longest_shape.ensures
