use Rattle.routing_domain.proofs.Same.{same_weight}
use Rattle.routing_domain.proofs.steps.same_domain_weighs_the_same.Goals as goal

pub returns : goal.returns
returns c = record { same = λ d e s. same_weight d e s }
