use Rattle.std.specs.Str.Parse.{ExplainsUnsignedError, HasUnsignedDigitsIfOk, ParsesUnsigned}
use Rattle.program_words.proofs.Giving.{number_found}
use Rattle.program_words.proofs.given.number_given.Goals as goal

pub returns : goal.returns
returns c =
    number_found 32 (λ bs r. ParsesUnsigned 32 10 bs r × ExplainsUnsignedError 10 bs r × HasUnsignedDigitsIfOk bs r) (λ t r is. is.0)
    c.args.matches.now c.args.name.now c.get_one.result c.get_one.ensures.none c.get_one.ensures.value
