use Rattle.routing_domain.proofs.Increasing.{never_nearer}
use Rattle.routing_domain.proofs.rest.filters_never_bring_nearer.Goals as goal

pub returns : goal.returns
returns c = record { farther = λ d o v. never_nearer d o v }
