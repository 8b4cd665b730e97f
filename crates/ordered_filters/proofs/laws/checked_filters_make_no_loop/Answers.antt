use Rattle.std.proofs.Common.{arith}
use Rattle.ordered_filters.proofs.Ordered.{filters_keep_order}
use Rattle.ordered_filters.proofs.laws.checked_filters_make_no_loop.Goals as goal
use Rattle.routing_domain.proofs.Forwarding.{Hops}
use Rattle.routing_domain.proofs.Gained.{IsGained, forwards_while_gaining, gained, quiet_falls}

pub returns : goal.returns
returns c = record {
  falls = λ j k d e f o has q one two v there u short.
      let keeps = filters_keep_order d o has v there in
      let first : IsGained d e v = gained j d e v (quiet_falls d v o q there keeps) one in
      (gained k e f v first.falling two).nearer u (omega (arith, short, first.size));
  forwards = λ k d e o has q run v there u short reach.
      let g : IsGained d e v = gained k d e v (quiet_falls d v o q there (filters_keep_order d o has v there)) run in
      let h : Hops e v u = forwards_while_gaining e v u g.falling (omega (arith, short, g.size)) (omega (arith, reach, g.size)) in
      (h.count, h.few, h.forwards);
}
