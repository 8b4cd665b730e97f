-- Domains whose links change at one end before the other, and may fail in one direction; and whose routers may begin anew.
use Rattle.std.specs.Prelude.{◌≡◌, ◌≢◌, ℕ, ◌<◌, ◌==◌, if◌then◌else◌, Bool, true, false, All, [], slice_index, take}
use Rattle.netchange_core.specs.Best.{distance}
use Rattle.netchange_core.specs.Calls.{opened}
use Rattle.netchange_core.specs.declared.event.Event.{Event}
use Rattle.netchange_core.specs.declared.event.Event.TheVariants as event
use Rattle.netchange_core.specs.declared.message.Message.{Message}
use Rattle.netchange_core.specs.Next.{dequeued, last_session}
use Rattle.netchange_core.specs.OpeningView.{OpeningView}
use Rattle.netchange_core.specs.World.{changed}
use Rattle.std.specs.Prelude.{List}
use Rattle.routing_domain.specs.Changes.{is_pair}
use Rattle.routing_domain.specs.Domain.{Domain, IsMember, IsWithin, advertised_in_the_end, are_linked, exported, neighbour, opened_domain}
use Rattle.routing_domain.specs.Events.{enters, enters_in}
use Rattle.routing_domain.specs.Steps.{receives, sends, with_flight, with_router}

-- a domain, and for each two nodes whether what the first sends from now on gets to the second
pub record Network : Type 0 where
  pub domain : Domain
  pub carries : ℕ → ℕ → Bool

-- the directions, with one of them set
abbrev pub with_direction : (ℕ → ℕ → Bool) → ℕ → ℕ → Bool → ℕ → ℕ → Bool
with_direction carries u w now x y = if is_pair u w x y then now else carries x y

-- the network of routers that were just opened
abbrev pub opened_network : ℕ → (ℕ → OpeningView) → Network
opened_network n openings = record { domain = opened_domain n openings; carries = λ _ _. false }

-- a node that is not up with another, and can come up
pub record CanComeUp (d : Domain) (u w : ℕ) : Type 0 where
  pub from : u < d.size
  pub to : w < d.size
  pub apart : u ≢ w
  pub unlinked : are_linked d u w ≡ false
  pub left : (d.router u).sessions ≢ last_session

-- it enters Up: what it sends from now on goes over a new connection, on which nothing is on its way
abbrev pub comes_up : Network → ℕ → ℕ → Network
comes_up n u w = record {
  domain = with_flight (enters n.domain u (event.Up w)) u w [];
  carries = with_direction n.carries u w true;
}

-- it enters Down: what comes from the other is not received any more
abbrev pub goes_down : Network → ℕ → ℕ → Network
goes_down n u w = record {
  domain = with_flight (enters_in n.domain u (neighbour n.domain u w).session (λ s. event.Down s)) w u [];
  carries = with_direction n.carries w u false;
}

-- the direction from one node to another fails: of what is on its way the first messages may still come in, and nothing that is sent later
abbrev pub fails : Network → ℕ → ℕ → ℕ → Network
fails n u w kept = record {
  domain = with_flight n.domain u w (take kept (n.domain.flight u w));
  carries = with_direction n.carries u w false;
}

-- a node takes from its queue for another and sends it, which is lost where that direction failed
abbrev pub hands : Network → ℕ → ℕ → ℕ → Network
hands n u w max = record n {
  domain = if n.carries u w then sends n.domain u w max else with_router n.domain u (changed (n.domain.router u) w (dequeued max));
}

-- a node receives what is first on its way to it
abbrev pub gets : Network → ℕ → ℕ → Message → List Message → Network
gets n u w m rest = record n { domain = receives n.domain u w m rest }

-- a router enters an event of its operator
abbrev pub enters_there : Network → ℕ → Event → Network
enters_there n u e = record n { domain = enters n.domain u e }

-- a router ends, and is opened anew: nothing that others sent to it gets there
abbrev pub restarts : Network → ℕ → OpeningView → Network
restarts n u o = record {
  domain = record {
    size = n.domain.size;
    router = λ x. if x == u then opened o else n.domain.router x;
    flight = λ x y. if y == u then [] else n.domain.flight x y;
  };
  carries = λ x y. if y == u then false else n.carries x y;
}

-- One direction of a link is in order: what is on its way fits the domain; of a node that is not up nothing is known; and while nothing
-- of what was sent is lost, the second node will have been told the distances as they are now.
pub record IsDirection (n : Network) (u w : ℕ) : Type 0 where
  pub within : All (IsWithin n.domain.size) (n.domain.flight u w)
  pub unheard : are_linked n.domain w u ≡ false → (v : ℕ) → v < n.domain.size → slice_index (neighbour n.domain w u).advertised v ≡ n.domain.size
  pub told : are_linked n.domain u w ≡ true → n.carries u w ≡ true → (v : ℕ) → v < n.domain.size →
      advertised_in_the_end n.domain u w v ≡ exported n.domain u w v (distance (n.domain.router u) v)

-- A network in order, also while its links change: each router is of it, and so is each direction. (This project's own choice.)
pub record IsOrderly (n : Network) : Type 0 where
  pub members : (u : ℕ) → u < n.domain.size → IsMember n.domain.size u (n.domain.router u)
  pub directions : (u w : ℕ) → u < n.domain.size → w < n.domain.size → IsDirection n u w

-- each link is up at both ends and lost nothing since it came up, or it is down at both ends and nothing is on its way
pub record IsWhole (n : Network) : Type 0 where
  pub both_ways : (u w : ℕ) → u < n.domain.size → w < n.domain.size → are_linked n.domain u w ≡ true → are_linked n.domain w u ≡ true
  pub carried : (u w : ℕ) → u < n.domain.size → w < n.domain.size → are_linked n.domain u w ≡ true → n.carries u w ≡ true
  pub silent : (u w : ℕ) → u < n.domain.size → w < n.domain.size → are_linked n.domain u w ≡ false → n.domain.flight u w ≡ []
