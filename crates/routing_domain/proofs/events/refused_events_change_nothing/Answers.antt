use Rattle.routing_domain.proofs.Occurring.{refused_changes_nothing}
use Rattle.routing_domain.proofs.events.refused_events_change_nothing.Goals as goal

pub returns : goal.returns
returns c = record { same = λ d u e why h. refused_changes_nothing d u e why h }
