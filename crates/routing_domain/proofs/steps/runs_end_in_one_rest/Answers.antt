use Rattle.routing_domain.proofs.Ending.{end_forwards, end_goes, end_is_one, end_of, end_rests}
use Rattle.routing_domain.proofs.Forwarding.{Hops}
use Rattle.routing_domain.proofs.steps.runs_end_in_one_rest.Goals as goal

pub returns : goal.returns
returns c = record {
  rest = λ k d e o run q v there. end_rests d e v (end_of k d e v o run) q there;
  one = λ k d e o run q v there a r u short. end_is_one d e v o (end_of k d e v o run) q there a r u short;
  vias = λ k d e o run q v there u short. end_goes d e v (end_of k d e v o run) q there u short;
  forwards = λ k d e o run q v there u short reach.
      let h : Hops e v u = end_forwards d e v (end_of k d e v o run) q there u short reach in (h.count, h.few, h.forwards);
}
