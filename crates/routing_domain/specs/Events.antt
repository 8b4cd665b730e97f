-- What operators and links do to a domain: routers enter events.
use Rattle.std.specs.Prelude.{◌≡◌, ◌≢◌, ℕ, ◌<◌, false, Option, Some, None, []}
use Rattle.netchange_core.specs.declared.event.Event.{Event}
use Rattle.netchange_core.specs.declared.event.Event.TheVariants as event
use Rattle.netchange_core.specs.Next.{last_session, next}
use Rattle.netchange_core.specs.World.{World}
use Rattle.routing_domain.specs.Domain.{Domain, are_linked, neighbour}
use Rattle.routing_domain.specs.Steps.{with_flight, with_router}

-- a router enters an event, of which nothing is put on its way
abbrev pub enters : Domain → ℕ → Event → Domain
enters d u e = with_router d u (next (d.router u) e).world

-- a router's world after an event of its present session with another node; where there is none, nothing happens
abbrev pub in_session : World → Option ℕ → (ℕ → Event) → World
in_session r None e = r
in_session r (Some session) e = (next r (e session)).world

abbrev pub enters_in : Domain → ℕ → Option ℕ → (ℕ → Event) → Domain
enters_in d u session e = with_router d u (in_session (d.router u) session e)

-- two nodes that are no neighbours and can become so
pub record CanLink (d : Domain) (u w : ℕ) : Type 0 where
  pub from : u < d.size
  pub to : w < d.size
  pub apart : u ≢ w
  pub unlinked : are_linked d u w ≡ false
  pub left : (d.router u).sessions ≢ last_session
  pub left_there : (d.router w).sessions ≢ last_session

-- they become neighbours: Up at the one, then at the other
abbrev pub links : Domain → ℕ → ℕ → Domain
links d u w = enters (enters d u (event.Up w)) w (event.Up u)

-- two neighbours are so no more: Down at the one, then at the other, and what was on its way between them is lost
abbrev pub cuts : Domain → ℕ → ℕ → Domain
cuts d u w =
    with_flight (with_flight
    (enters_in (enters_in d u (neighbour d u w).session (λ s. event.Down s)) w (neighbour d w u).session (λ s. event.Down s))
    u w []) w u []
