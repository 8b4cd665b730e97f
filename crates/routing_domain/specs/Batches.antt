-- Batches: a node sends some of what waits for another at once, and leaves out what later messages of the same batch make needless. (This
-- project's own choice.)
use Rattle.std.specs.Prelude.{ℕ, ◌==◌, if◌then◌else◌, Bool, List, [], ◌∷◌, ◌++◌, take}
use Rattle.std.specs.List.{list_any}
use Rattle.netchange_core.specs.declared.message.Message.{Message}
use Rattle.netchange_core.specs.Next.{dequeued}
use Rattle.netchange_core.specs.World.{changed}
use Rattle.routing_domain.specs.Domain.{Domain, neighbour}
use Rattle.routing_domain.specs.Steps.{with_flight, with_router}

-- whether a later message is about the same node
abbrev pub is_replaced : Message → List Message → Bool
is_replaced m later = list_any (λ l. l.dest == m.dest) later

-- of these messages those that no later one of them replaces, in order
abbrev pub newest : List Message → List Message
newest [] = []
newest (m ∷ later) = if is_replaced m later then newest later else m ∷ newest later

-- the first node sends what waits for the second, at most so many messages, as `sends` says, but of these the newest only
abbrev pub sends_newest : Domain → ℕ → ℕ → ℕ → Domain
sends_newest d u w max =
    with_flight (with_router d u (changed (d.router u) w (dequeued max))) u w (d.flight u w ++ newest (take max (neighbour d u w).queue))
