use Rattle.std.proofs.Common.{◌∙◌}
use Rattle.program_words.proofs.Giving.{word_found}
use Rattle.program_words.proofs.given.word_given.Goals as goal

pub returns : goal.returns
returns c = c.get_str.ensures ∙ word_found c.args.matches.now c.args.name.now
