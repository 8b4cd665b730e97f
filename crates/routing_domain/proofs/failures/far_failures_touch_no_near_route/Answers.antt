use Rattle.routing_domain.proofs.Watching.{far_distance, far_from, far_via}
use Rattle.routing_domain.proofs.failures.far_failures_touch_no_near_route.Goals as goal

pub returns-clause-distance : goal.returns-clause-distance
returns-clause-distance c = λ n m k d loose v a b orderly whole fits o phases back there top bottom agree j flaps u short near.
    far_distance n.domain v k loose a b m.domain
    (far_from n m k d loose v a b orderly whole fits o phases back there top bottom agree j flaps) u short near

pub returns-clause-via : goal.returns-clause-via
returns-clause-via c = λ n m k d loose v a b orderly whole fits o phases back there top bottom agree j flaps u short near hop one other.
    far_via n.domain v k loose a b m.domain
    (far_from n m k d loose v a b orderly whole fits o phases back there top bottom agree j flaps) u short near hop one other
