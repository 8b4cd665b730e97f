use Rattle.routing_domain.proofs.Arriving.{distance_is_a_path, no_path_is_shorter, unfiltered}
use Rattle.routing_domain.proofs.rest.plain_routes_are_shortest.Goals as goal

pub returns-clause-plain : goal.returns-clause-plain
returns-clause-plain c = λ d none v. unfiltered d none v

pub returns-clause-shortest : goal.returns-clause-shortest
returns-clause-shortest c = λ m plain to a r k u short p. no_path_is_shorter m to a plain r k u short p

pub returns-clause-path : goal.returns-clause-path
returns-clause-path c = λ m plain to a r u short reach. distance_is_a_path m to a plain r u short reach
