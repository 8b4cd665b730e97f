use Rattle.routing_domain.proofs.Occurring.{up_links, up_links_back}
use Rattle.routing_domain.proofs.events.linking_is_up.Goals as goal

pub returns : goal.returns
returns c = record { one = λ d u w o c. up_links d u w o c; other = λ d u w o c. up_links_back d u w o c }
