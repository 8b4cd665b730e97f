use Rattle.domain_routes.proofs.OfDomain.{of_domain}
use Rattle.domain_routes.proofs.laws.rest_is_of_the_domain.Goals as goal

pub returns : goal.returns
returns c = record { rest = λ d p s v dist r. of_domain d p s v dist r }
