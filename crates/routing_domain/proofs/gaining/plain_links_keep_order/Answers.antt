use Rattle.std.proofs.Common.{arith}
use Rattle.routing_domain.proofs.gaining.plain_links_keep_order.Goals as goal

pub returns : goal.returns
returns c = record { plain = λ m plain u w x y short near less limit. omega (arith, less, plain u w x short near (omega (arith, less, limit)), plain u w y short near limit) }
