use Rattle.route_answers.proofs.Evaluated.{text_evaluated}
use Rattle.route_answers.proofs.laws.translations_are_evaluated.Goals as goal

pub returns : goal.returns
returns c = text_evaluated
