-- An orderly network whose links are whole has a domain in order; and one of routers that were just opened is orderly.
use Rattle.routing_domain.specs.Domain.{IsInOrder}
use Rattle.routing_domain.specs.Network.{IsOrderly, IsWhole, Network}

pub in_order : (n : Network) → IsOrderly n → IsWhole n → IsInOrder n.domain
in_order n o w = record {
  size = λ u short. (o.members u short).size;
  me = λ u short. (o.members u short).me;
  tables = λ u short. (o.members u short).tables;
  sound = λ u short. (o.members u short).sound;
  apart = λ u short. (o.members u short).apart;
  both_ways = w.both_ways;
  within = λ u v from to. (o.directions u v from to).within;
  silent = w.silent;
  told = λ u x v from to below linked. (o.directions u x from to).told linked (w.carried u x from to linked) v below;
}
