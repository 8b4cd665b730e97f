-- Worked rows of networks: two nodes, whose link comes up at one end and then at the other, carries what waits, fails in one direction, goes
-- down at one end and then at the other, and is left by a router that begins anew.
use Rattle.std.proofs.Common.{◌≡◌, ℕ, Bool, true, false, List, [], ◌∷◌, refl, sym, subst}
use Rattle.std.proofs.Common.{Global}
use Rattle.std.specs.declared.sync.Arc.{Arc}
use Rattle.filter_code.specs.declared.instruction.Instr.TheVariants as instr
use Rattle.filter_code.specs.Machine.{after}
use Rattle.filter_verifier.specs.VerifiedView.{VerifiedView}
use Rattle.netchange_core.specs.declared.event.Event.TheVariants as event
use Rattle.netchange_core.specs.declared.message.Message.{Message}
use Rattle.netchange_core.specs.Best.{best_by, distance}
use Rattle.netchange_core.specs.FilteredDistance.{filtered_distance}
use Rattle.netchange_core.specs.Next.{set_import}
use Rattle.netchange_core.specs.OpeningView.{OpeningView}
use Rattle.routing_domain.specs.Domain.{are_linked, neighbour}
use Rattle.routing_domain.specs.Network.{Network, comes_up, enters_there, fails, gets, goes_down, hands, opened_network, restarts}
use Rattle.routing_domain.specs.Steps.{with_router}

-- what each of two nodes is opened with, and the messages that they send one another
abbrev pub opening : ℕ → OpeningView
opening u = record { size = 2; me = u; prefixes = [] ∷ ([] ∷ []) }

abbrev pub told : ℕ → ℕ → Message
told v d = record { dest = v; dist = d }

-- what there is from one node to another: whether the first is up with the second, what waits there to be sent, what is on its way, and
-- whether what is sent from now on gets there
pub record Direction : Type 0 where
  pub up : Bool
  pub waits : List Message
  pub travels : List Message
  pub carried : Bool

abbrev pub direction : Bool → List Message → List Message → Bool → Direction
direction up waits travels carried = record { up = up; waits = waits; travels = travels; carried = carried }

abbrev pub from_to : Network → ℕ → ℕ → Direction
from_to n u w = direction (are_linked n.domain u w) (neighbour n.domain u w).queue (n.domain.flight u w) (n.carries u w)

-- all that is on its way from one node to another comes in
abbrev pub all_get : Network → ℕ → ℕ → List Message → Network
all_get n u w [] = n
all_get n u w (m ∷ ms) = all_get (gets n u w m ms) u w ms

-- routers that were just opened have no links
abbrev pub apart : Network
apart = opened_network 2 opening

opens : from_to apart 0 1 ≡ direction false [] [] false
opens = refl

-- node 0 comes up with node 1: all its distances wait for node 1, and what it sends gets there. Nothing changed the other way.
abbrev pub half : Network
half = comes_up apart 0 1

half_there : from_to half 0 1 ≡ direction true (told 0 0 ∷ (told 1 2 ∷ [])) [] true
unfolding best_by filtered_distance
half_there = refl

half_back : from_to half 1 0 ≡ direction false [] [] false
half_back = refl

-- what it hands is on its way to node 1, and waits no more
abbrev pub half_handed : Network
half_handed = hands half 0 1 9

handed_there : from_to half_handed 0 1 ≡ direction true [] (told 0 0 ∷ (told 1 2 ∷ [])) true
unfolding best_by filtered_distance
handed_there = refl

-- at most so many messages, the oldest first
handed_one : from_to (hands half 0 1 1) 0 1 ≡ direction true (told 1 2 ∷ []) (told 0 0 ∷ []) true
unfolding best_by filtered_distance
handed_one = refl

-- node 1 comes up too, and both hand what waits
abbrev pub both : Network
both = comes_up half_handed 1 0

both_there : from_to both 0 1 ≡ direction true [] (told 0 0 ∷ (told 1 2 ∷ [])) true
unfolding best_by filtered_distance
both_there = refl

both_back : from_to both 1 0 ≡ direction true (told 0 2 ∷ (told 1 0 ∷ [])) [] true
unfolding best_by filtered_distance
both_back = refl

abbrev pub handed : Network
handed = hands both 1 0 9

-- node 0 gets the first message that node 1 sent, and the second is still on its way
got_one : from_to (gets handed 1 0 (told 0 2) (told 1 0 ∷ [])) 1 0 ≡ direction true [] (told 1 0 ∷ []) true
unfolding best_by filtered_distance
got_one = refl

-- after both it reaches node 1 at distance 1, which waits to be told
abbrev pub heard : Network
heard = all_get handed 1 0 (told 0 2 ∷ (told 1 0 ∷ []))

heard_there : from_to heard 0 1 ≡ direction true (told 1 1 ∷ []) (told 0 0 ∷ (told 1 2 ∷ [])) true
unfolding best_by filtered_distance
heard_there = refl

heard_back : from_to heard 1 0 ≡ direction true [] [] true
unfolding best_by filtered_distance
heard_back = refl

-- the direction from node 0 to node 1 fails, and one message may still come in: the first is there, the second is lost
abbrev pub failed : Network
failed = fails heard 0 1 1

failed_there : from_to failed 0 1 ≡ direction true (told 1 1 ∷ []) (told 0 0 ∷ []) false
unfolding best_by filtered_distance
failed_there = refl

failed_back : from_to failed 1 0 ≡ from_to heard 1 0
unfolding best_by filtered_distance
failed_back = refl

-- the one that is there still comes in
failed_heard : distance ((gets failed 0 1 (told 0 0) []).domain.router 1) 0 ≡ 1
unfolding best_by filtered_distance
failed_heard = refl

-- what is handed afterwards leaves the queue and is lost
lost_there : from_to (hands failed 0 1 9) 0 1 ≡ direction true [] (told 0 0 ∷ []) false
unfolding best_by filtered_distance
lost_there = refl

-- all that is on its way comes in both ways, and what it makes known is handed and comes in: then nothing waits, and each is at distance 1
abbrev pub settled : Network
settled =
    let n = all_get heard 0 1 (told 0 0 ∷ (told 1 2 ∷ [])) in
    gets (gets (hands (hands n 0 1 9) 1 0 9) 0 1 (told 1 1) []) 1 0 (told 0 1) []

settled_there : from_to settled 0 1 ≡ direction true [] [] true
unfolding best_by filtered_distance
settled_there = refl

settled_back : from_to settled 1 0 ≡ direction true [] [] true
unfolding best_by filtered_distance
settled_back = refl

settled_distance : distance (settled.domain.router 0) 1 ≡ 1
unfolding best_by filtered_distance
settled_distance = refl

settled_distance_back : distance (settled.domain.router 1) 0 ≡ 1
unfolding best_by filtered_distance
settled_distance_back = refl

-- node 0 goes down: what node 1 sent gets there no more, and what node 0 sent may still get to node 1
abbrev pub half_down : Network
half_down = goes_down handed 0 1

half_down_there : from_to half_down 0 1 ≡ direction false [] (told 0 0 ∷ (told 1 2 ∷ [])) true
unfolding best_by filtered_distance
half_down_there = refl

half_down_back : from_to half_down 1 0 ≡ direction true [] [] false
unfolding best_by filtered_distance
half_down_back = refl

-- node 1 goes down too
abbrev pub both_down : Network
both_down = goes_down half_down 1 0

both_down_there : from_to both_down 0 1 ≡ direction false [] [] false
unfolding best_by filtered_distance
both_down_there = refl

both_down_back : from_to both_down 1 0 ≡ direction false [] [] false
unfolding best_by filtered_distance
both_down_back = refl

-- node 1 begins anew: nothing that was sent to it gets there, and it has no session; what it sent before may still get to node 0
abbrev pub begun : Network
begun = restarts handed 1 (opening 1)

begun_there : from_to begun 0 1 ≡ direction true [] [] false
unfolding best_by filtered_distance
begun_there = refl

begun_back : from_to begun 1 0 ≡ direction false [] (told 0 2 ∷ (told 1 0 ∷ [])) true
unfolding best_by filtered_distance
begun_back = refl

begun_sessions : (begun.domain.router 1).sessions ≡ 0
begun_sessions = refl

-- once node 0 goes down too, nothing is on its way any more
begun_down_there : from_to (goes_down begun 0 1) 0 1 ≡ direction false [] [] false
unfolding best_by filtered_distance
begun_down_there = refl

begun_down_back : from_to (goes_down begun 0 1) 1 0 ≡ direction false [] [] false
unfolding best_by filtered_distance
begun_down_back = refl

-- it comes up again while node 0 is still in the old session: what it sent before is on its way no more
begun_up : from_to (comes_up begun 1 0) 1 0 ≡ direction true (told 0 2 ∷ (told 1 0 ∷ [])) [] true
unfolding best_by filtered_distance
begun_up = refl

-- a filter that rejects each route
abbrev rejecting : VerifiedView
rejecting = record { program = record { locals = 0; sets = []; int_sets = []; instrs = instr.Reject ∷ [] }; size = 2 }

-- node 0's operator sets it on what node 1 tells: node 1 is out of reach, which waits to be told, and nothing is put on its way
rejects_there : (f : Arc VerifiedView Global) → f.value ≡ rejecting →
    from_to (enters_there settled 0 (event.SetImport 1 f)) 0 1 ≡ direction true (told 1 2 ∷ []) [] true
unfolding best_by filtered_distance after
rejects_there f e =
    subst (λ v. from_to (record settled { domain = with_router settled.domain 0 (set_import (settled.domain.router 0) 1 v).world }) 0 1
    ≡ direction true (told 1 2 ∷ []) [] true)
    (sym e) refl
