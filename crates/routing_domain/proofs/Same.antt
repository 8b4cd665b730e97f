-- What is said of a domain is said of its routers below the size, however it is written.
use Rattle.std.proofs.Common.{◌≡◌, inl, ℕ, ◌<◌, sym, ap, subst, ◌∙◌, arith}
use Rattle.netchange_core.specs.Best.{distance}
use Rattle.netchange_core.specs.World.{neighbour_at}
use Rattle.routing_domain.specs.Domain.{Domain, IsInOrder, IsMember, IsSame}
use Rattle.routing_domain.specs.Weight.{link_weight, mass, router_weight, sum_below, weigh, weight}
use Rattle.routing_domain.proofs.Keeping.{KeepsLink, keeps_itself, links_keep_order, member_of}
use Rattle.routing_domain.proofs.Sums.{sum_same}

-- the same routers, in a domain of the same size
abbrev sized : Domain → Domain → Domain
sized d e = record { size = d.size; router = e.router; flight = e.flight }

is_sized : (d e : Domain) → IsSame d e → e ≡ sized d e
is_sized d e s = λ i. record { size = s.size i; router = e.router; flight = e.flight }

pub same_in_order : (d e : Domain) → IsSame d e → IsInOrder d → IsInOrder e
same_in_order d e s o =
    subst IsInOrder (sym (is_sized d e s))
    (links_keep_order d e.router e.flight o
    (λ x short. subst (IsMember d.size x) (sym (s.routers x short)) (member_of d x o short))
    (λ a b from to. inl (record { here = kept a b from; there = kept b a to; flight = s.flights a b from to })))
  where
    kept : (a b : ℕ) → a < d.size → KeepsLink d.size (d.router a) (e.router a) b
    kept a b from = subst (λ r. KeepsLink d.size (d.router a) r b) (sym (s.routers a from)) (keeps_itself d.size (d.router a) b)

pub same_weight : (d e : Domain) → IsSame d e → weight e ≡ weight d
same_weight d e s =
    ap weight (is_sized d e s)
    ∙ sum_same d.size (router_weight (sized d e)) (router_weight d)
    (λ u short.
    let near : sum_below d.size (λ v. weigh d.size (distance (e.router u) v)) ≡ sum_below d.size (λ v. weigh d.size (distance (d.router u) v)) =
    ap (λ r. sum_below d.size (λ v. weigh d.size (distance r v))) (s.routers u short) in
    let links : sum_below d.size (link_weight (sized d e) u) ≡ sum_below d.size (link_weight d u) =
    sum_same d.size (link_weight (sized d e) u) (link_weight d u)
    (λ w to. omega (arith, ap (λ r. mass d.size (neighbour_at r.neighbours w).queue) (s.routers u short), ap (mass d.size) (s.flights u w short to))) in
    omega (arith, near, links))
