use Rattle.command_line.proofs.Naming.{filters_named}
use Rattle.command_line.proofs.router_words.router_in.Goals as goal

pub returns-in_ok-routing_in-in-Ok-clause-asks : goal.returns-in_ok-routing_in-in-Ok-clause-asks
returns-in_ok-routing_in-in-Ok-clause-asks c = record {
  reads = filters_named _ c.in_ok-routing_in-in-Ok.field-0.filters.items c.in_ok-routing_in-in-Ok.ensures.sets.filters;
  sets = c.in_ok-routing_in-in-Ok.ensures.sets;
}
