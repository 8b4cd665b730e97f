-- Worked rows of networks: when a node can come up with another, and which networks are orderly.
use Rattle.std.proofs.Common.{◌≡◌, ℕ, ◌<◌, true, false, [], ◌∷◌, refl, arith, zero, suc, slice_index}
use Rattle.std.proofs.lemmas.List.Elements.{All-nil}
use Rattle.netchange_core.specs.Best.{best_by, distance}
use Rattle.netchange_core.specs.FilteredDistance.{filtered_distance}
use Rattle.netchange_core.specs.Next.{advertising, last_session}
use Rattle.netchange_core.specs.World.{changed}
use Rattle.routing_domain.specs.Domain.{Domain, IsWithin, advertised_in_the_end, exported, neighbour}
use Rattle.routing_domain.specs.Network.{CanComeUp, IsDirection, IsOrderly, Network, fails, opened_network}
use Rattle.routing_domain.specs.Steps.{with_flight, with_router}
use Rattle.routing_domain.proofs.ComingUp.{comes_up_orderly}
use Rattle.routing_domain.proofs.GoingDown.{fails_orderly, goes_down_orderly}
use Rattle.routing_domain.proofs.Handing.{hands_orderly}
use Rattle.routing_domain.proofs.Restarting.{opened_orderly, restarts_orderly}
use Rattle.routing_domain.proofs.NetworkRows.{apart, begun, both, half, half_down, half_handed, handed, opening, told}

-- the nodes of a domain of two, one by one
pub node_0 : 0 < 2
node_0 = omega arith

pub node_1 : 1 < 2
node_1 = omega arith

pub each_of_two : (P : ℕ → Type 0) → P 0 → P 1 → (u : ℕ) → u < 2 → P u
each_of_two P a b zero h = a
each_of_two P a b (suc zero) h = b
each_of_two P a b (suc (suc u)) h = absurd (omega arith)

-- node 0 can come up with node 1, which is another node of the domain, while it is not up with it
can_come_up : CanComeUp apart.domain 0 1
can_come_up = record {
  from = node_0;
  to = node_1;
  apart = λ (e : 0 ≡ 1). omega arith;
  unlinked = refl;
  left = λ (e : 0 ≡ last_session). omega arith;
}

not_again : CanComeUp half.domain 0 1 → ⊥
not_again c = (let h : true ≡ false = c.unlinked in cc)

not_with_itself : CanComeUp apart.domain 0 0 → ⊥
not_with_itself c = c.apart refl

not_outside : CanComeUp apart.domain 0 2 → ⊥
not_outside c = omega (arith, c.to)

not_from_outside : CanComeUp apart.domain 2 0 → ⊥
not_from_outside c = omega (arith, c.from)

-- node 1 can come up with node 0 also when node 0 did so before
can_come_up_too : CanComeUp half_handed.domain 1 0
can_come_up_too = record {
  from = node_1;
  to = node_0;
  apart = λ (e : 1 ≡ 0). omega arith;
  unlinked = refl;
  left = λ (e : 0 ≡ last_session). omega arith;
}

-- no node can once its last session number is used
abbrev spent : Domain
spent = with_router apart.domain 0 (record (apart.domain.router 0) { sessions = last_session })

not_when_spent : CanComeUp spent 0 1 → ⊥
not_when_spent c = c.left refl

-- node 1, which is not up, knows nothing of what node 0 reaches; it will have been told all of node 0's distances, which wait for it
half_direction : IsDirection half 0 1
unfolding best_by filtered_distance
half_direction = record {
  within = All-nil (IsWithin 2);
  unheard = λ _. each_of_two (λ v. slice_index (neighbour half.domain 1 0).advertised v ≡ 2) refl refl;
  told = λ _ _. each_of_two (λ v. advertised_in_the_end half.domain 0 1 v ≡ exported half.domain 0 1 v (distance (half.domain.router 0) v)) refl refl;
}

-- a network of routers that were just opened is orderly, and stays so as node 0 comes up and hands what waits, and then node 1
apart_orderly : IsOrderly apart
apart_orderly = opened_orderly 2 opening (record { size = λ _ _. refl; me = λ _ _. refl })

half_orderly : IsOrderly half
half_orderly = comes_up_orderly apart 0 1 apart_orderly can_come_up

half_handed_orderly : IsOrderly half_handed
half_handed_orderly = hands_orderly half 0 1 9 half_orderly node_0 node_1 (λ (e : 0 ≡ 1). omega arith)

pub both_orderly : IsOrderly both
both_orderly = comes_up_orderly half_handed 1 0 half_handed_orderly can_come_up_too

handed_orderly : IsOrderly handed
handed_orderly = hands_orderly both 1 0 9 both_orderly node_1 node_0 (λ (e : 1 ≡ 0). omega arith)

-- it stays so where a direction fails and all that is on its way is lost, where one end goes down, and where a router begins anew
all_lost_orderly : IsOrderly (fails handed 0 1 0)
all_lost_orderly = fails_orderly handed 0 1 0 handed_orderly node_0 node_1

half_down_orderly : IsOrderly half_down
unfolding best_by filtered_distance
half_down_orderly = goes_down_orderly handed 0 1 handed_orderly node_0 node_1 refl

begun_orderly : IsOrderly begun
begun_orderly = restarts_orderly handed 1 (opening 1) handed_orderly node_1 refl refl

-- a network is not orderly where a message is on its way that speaks of a node outside of the domain
abbrev stray : Network
stray = record apart { domain = with_flight apart.domain 0 1 (told 2 0 ∷ []) }

stray_disorderly : IsOrderly stray → ⊥
stray_disorderly o = omega (arith, ((o.directions 0 1 node_0 node_1).within 0 (told 0 0) (omega arith)).dest)

-- nor where what was sent is gone though its direction did not fail: node 1 would never be told of node 0
abbrev dropped : Network
dropped = record half_handed { domain = with_flight half_handed.domain 0 1 [] }

dropped_disorderly : IsOrderly dropped → ⊥
unfolding best_by filtered_distance
dropped_disorderly o = omega (arith, (o.directions 0 1 node_0 node_1).told refl refl 0 node_0)

-- nor where a node that is not up with another knows something of it
abbrev remembered : Network
remembered = record apart { domain = with_router apart.domain 1 (changed (apart.domain.router 1) 0 (advertising 0 0)) }

remembered_disorderly : IsOrderly remembered → ⊥
remembered_disorderly o = omega (arith, (o.directions 0 1 node_0 node_1).unheard refl 0 node_0)

-- nor where a router takes itself for another node
abbrev misnumbered : Network
misnumbered = opened_network 2 (λ _. opening 0)

misnumbered_disorderly : IsOrderly misnumbered → ⊥
misnumbered_disorderly o = omega (arith, (o.members 1 node_1).me)
