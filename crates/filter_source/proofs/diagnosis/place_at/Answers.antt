use Rattle.std.proofs.Common.{◌∙◌}
use Rattle.filter_source.proofs.Indexed.{copied_is}
use Rattle.filter_source.proofs.diagnosis.place_at.Goals as goal

pub returns : goal.returns
returns c = c.copied.ensures ∙ copied_is c.args.places.now c.args.at c.get.result c.get.ensures.lookup
