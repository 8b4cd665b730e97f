-- Worked rows: three nodes in a row, of which the second link fails, and then the node in the middle.
use Rattle.std.proofs.Common.{◌≡◌, ℕ, true, None, List, [], ◌∷◌, refl}
use Rattle.netchange_core.specs.declared.reply.Via.TheVariants.{Local, Node as Through, Nowhere}
use Rattle.domain_routes.specs.PlanView.{PeerView, PlanView, stranger}
use Rattle.domain_routes.specs.declared.best.Best.{Best}
use Rattle.domain_cmds.specs.Failures.{all_links, all_nodes, failure_of}
use Rattle.domain_cmds.specs.declared.failure.Failing.TheVariants.{Link, Node}
use Rattle.domain_cmds.specs.declared.failure.FailureEffect.{FailureEffect}

abbrev own : Best
own = record { dist = 0; via = Local }

abbrev through : ℕ → ℕ → Best
through dist hop = record { dist = dist; via = Through hop }

abbrev none : Best
none = record { dist = 3; via = Nowhere }

abbrev friend : PeerView
friend = record { linked = true; imports = None; exports = None }

abbrev row : PlanView
row = record {
  size = 3;
  prefixes = [] ∷ [] ∷ [] ∷ [];
  rows = (stranger ∷ friend ∷ stranger ∷ []) ∷ (friend ∷ stranger ∷ friend ∷ []) ∷ (stranger ∷ friend ∷ stranger ∷ []) ∷ [];
}

-- each link is told once
links_row : all_links row ≡ Link 0 1 ∷ Link 1 2 ∷ []
links_row = refl

nodes_row : all_nodes row ≡ Node 0 ∷ Node 1 ∷ Node 2 ∷ []
nodes_row = refl

-- the routes to each destination: with both links, with the first alone, and without any
abbrev before : List (List Best)
before =
    (own ∷ through 1 0 ∷ through 2 1 ∷ []) ∷ (through 1 1 ∷ own ∷ through 1 1 ∷ []) ∷ (through 2 1 ∷ through 1 2 ∷ own ∷ []) ∷ []

abbrev without_last : List (List Best)
without_last = (own ∷ through 1 0 ∷ none ∷ []) ∷ (through 1 1 ∷ own ∷ none ∷ []) ∷ (none ∷ none ∷ own ∷ []) ∷ []

abbrev without_any : List (List Best)
without_any = (own ∷ none ∷ none ∷ []) ∷ (none ∷ own ∷ none ∷ []) ∷ (none ∷ none ∷ own ∷ []) ∷ []

abbrev failed : FailureEffect
failed = record { what = Link 1 2; changed = 4; lost = 4; moved = 3; rounds = 3; still = 1 }

-- nodes 0 and 1 lose node 2, and it loses them; the distance that is nearest to a destination and changes is 1
link_row : failure_of 3 (Link 1 2) before without_last ≡ failed
link_row = refl

abbrev gone : FailureEffect
gone = record { what = Node 1; changed = 2; lost = 2; moved = 2; rounds = 3; still = 2 }

-- nodes 0 and 2 lose each other, which were at distance 2; that they lose node 1 is not counted, nor what it loses
node_row : failure_of 3 (Node 1) before without_any ≡ gone
node_row = refl
