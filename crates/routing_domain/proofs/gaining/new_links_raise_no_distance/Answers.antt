use Rattle.std.proofs.Common.{arith}
use Rattle.routing_domain.proofs.Forwarding.{Hops}
use Rattle.routing_domain.proofs.Gained.{IsGained, forwards_while_gaining, gained, quiet_falls}
use Rattle.routing_domain.proofs.gaining.new_links_raise_no_distance.Goals as goal

pub returns : goal.returns
returns c = record {
  falls = λ j k d e f o q one two v there keeps u short.
      let first : IsGained d e v = gained j d e v (quiet_falls d v o q there keeps) one in
      (gained k e f v first.falling two).nearer u (omega (arith, short, first.size));
  forwards = λ k d e o q run v there keeps u short reach.
      let g : IsGained d e v = gained k d e v (quiet_falls d v o q there keeps) run in
      let h : Hops e v u = forwards_while_gaining e v u g.falling (omega (arith, short, g.size)) (omega (arith, reach, g.size)) in
      (h.count, h.few, h.forwards);
  order = λ k d e o q run v there keeps. (gained k d e v (quiet_falls d v o q there keeps) run).falling.order;
}
