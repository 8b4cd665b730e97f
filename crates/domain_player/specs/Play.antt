-- The routers of a domain as a list, and what playing them leaves.
use Rattle.std.specs.Prelude.{◌≡◌, ℕ, ◌+◌, ◌<◌, ◌≤◌, Bool, List, [], filter, length, map, slice_index_or}
use Rattle.filter_code.specs.Limits.{largest_size}
use Rattle.netchange_core.specs.declared.message.Message.{Message}
use Rattle.netchange_core.specs.Calls.{opened}
use Rattle.netchange_core.specs.OpeningView.{OpeningView}
use Rattle.netchange_core.specs.World.{World}
use Rattle.routing_domain.specs.Changes.{is_pair}
use Rattle.routing_domain.specs.Domain.{Domain, IsInOrder, neighbour}
use Rattle.routing_domain.specs.Runs.{Runs}
use Rattle.routing_domain.specs.Weight.{weight}
use Rattle.domain_player.specs.declared.sent.Sent.{Sent}

-- what the router of a node is opened with, where these are the nodes' prefixes
abbrev pub opening_of : List (List Bool) → ℕ → OpeningView
opening_of prefixes u = record { size = length prefixes; me = u; prefixes = prefixes }

-- no router: the world of a domain of no nodes
abbrev pub nowhere : World
nowhere = record { opening = record { size = 0; me = 0; prefixes = [] }; sessions = 0; neighbours = [] }

-- the router of a number
abbrev pub router_at : List World → ℕ → World
router_at ws u = slice_index_or ws u nowhere

-- the first routers of a domain with these prefixes
pub record AreOpened (prefixes : List (List Bool)) (count : ℕ) (ts : List World) : Type 0 where
  pub one_a_node : length ts ≡ count
  pub each : (u : ℕ) → u < count → router_at ts u ≡ opened (opening_of prefixes u)

-- a message that one node sent to another
abbrev pub sent_by : ℕ → ℕ → Message → Sent
sent_by u w m = record { from = u; to = w; message = m }

-- of what is on its way, in the order in which it was sent, what goes from one node to another
abbrev pub under_way : List Sent → ℕ → ℕ → List Message
under_way sents u w = map (λ s. s.message) (filter (λ s. is_pair u w s.from s.to) sents)

-- the domain of these routers, by number, and of what is on its way between them
abbrev pub domain_of : List World → List Sent → Domain
domain_of ws sents = record { size = length ws; router = router_at ws; flight = under_way sents }

-- the same, with nothing on its way
abbrev pub domain : List World → Domain
domain ws = domain_of ws []

-- routers of a domain in order, of at most the greatest size
pub record AreRouters (ws : List World) : Type 0 where
  pub in_order : IsInOrder (domain ws)
  pub most : length ws ≤ largest_size

-- what is on its way goes between nodes of the domain
pub record IsBetween (size : ℕ) (s : Sent) : Type 0 where
  pub from : s.from < size
  pub to : s.to < size

-- What a domain becomes by a run in which so many messages were received: it stays in order, and each of them makes it lighter.
pub record IsPlayed (d e : Domain) (received : ℕ) : Type 0 where
  pub steps : ℕ
  pub run : Runs steps d e
  pub in_order : IsInOrder e
  pub lighter : weight e + received ≤ weight d

-- what a domain becomes by sending alone: where nothing waited nothing waits
pub record AreSent (d e : Domain) : Type 0 where
  pub played : IsPlayed d e 0
  pub still_empty : (u w : ℕ) → (neighbour d u w).queue ≡ [] → (neighbour e u w).queue ≡ []
