use Rattle.std.proofs.Common.{◌∙◌}
use Rattle.program_words.proofs.Giving.{flag_found}
use Rattle.program_words.proofs.given.is_given.Goals as goal

pub returns : goal.returns
returns c = c.unwrap_or.ensures ∙ flag_found _ c.args.matches.now c.args.name.now c.get_one.result c.get_one.ensures.none c.get_one.ensures.value
