use Rattle.routing_domain.proofs.Dropping.{drop_keeps}
use Rattle.routing_domain.proofs.Ending.{run_keeps}
use Rattle.routing_domain.proofs.Topologies.{kept_topology, receives_kept, sends_kept}
use Rattle.routing_domain.proofs.between.steps_keep_topology.Goals as goal

pub returns : goal.returns
returns c = record {
  receives = λ d u w m rest. receives_kept d u w m rest;
  sends = λ d u w max. sends_kept d u w max;
  drops = λ d e x. drop_keeps d e x;
  runs = λ k d e run. run_keeps k d e run;
  topology = λ d e kept v. kept_topology d e v kept;
}
