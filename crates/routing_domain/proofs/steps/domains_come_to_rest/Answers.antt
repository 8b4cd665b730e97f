use Rattle.routing_domain.proofs.Running.{ComesToRest, comes_to_rest, quiet_or_step, run_is_short}
use Rattle.routing_domain.proofs.steps.domains_come_to_rest.Goals as goal

pub returns : goal.returns
returns c = record {
  short = λ k d e o run. run_is_short k d e o run;
  goes_on = λ d o. quiet_or_step d o;
  quiet = λ d o. let r : ComesToRest d = comes_to_rest d o in (r.steps, r.end, r.runs, r.quiet);
}
