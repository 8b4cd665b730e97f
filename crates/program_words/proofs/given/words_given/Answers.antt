use Rattle.program_words.proofs.Giving.{words_found}
use Rattle.program_words.proofs.given.words_given.Goals as goal

pub returns : goal.returns
returns c =
    words_found c.args.matches.now c.args.name.now c.get_strs.result c.unwrap_or_default.result c.unwrap_or_default.ensures c.get_strs.ensures
