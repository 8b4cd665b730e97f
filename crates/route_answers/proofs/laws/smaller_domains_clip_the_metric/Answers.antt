use Rattle.route_answers.proofs.Clipped.{outcome_served}
use Rattle.route_answers.proofs.laws.smaller_domains_clip_the_metric.Goals as goal

pub returns : goal.returns
returns c = λ program net received larger size first within reachable.
    outcome_served program net received larger size within (λ less. first) reachable
