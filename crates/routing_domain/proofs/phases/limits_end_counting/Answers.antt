use Rattle.routing_domain.proofs.Counted.{counted_after, counted_quiet, limited_counts}
use Rattle.routing_domain.proofs.phases.limits_end_counting.Goals as goal

pub returns : goal.returns
returns c = record {
  right = λ j d e o p v there a r counts u short. counted_after j d e v a o p there r counts u short;
  quiet = λ j d e o counts p. counted_quiet j d e o counts p;
  limited = λ limit d v o limited a r. limited_counts limit d v o limited a r;
}
