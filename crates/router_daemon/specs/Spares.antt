-- The nodes that may get links while a router runs. (This project's own choice.)
use Rattle.std.specs.Prelude.{ℕ, zero, suc, ◌==◌, ◌&&◌, not, Bool, List, [], ◌∷◌, ◌++◌, Option, None, Some, if◌then◌else◌, map}
use Rattle.std.specs.List.{list_any}
use Rattle.netchange_core.specs.OpeningView.{OpeningView}
use Rattle.router_options.specs.PlanView.{PlanView}
use Rattle.router_options.specs.declared.parts.LinkFiles.{LinkFiles}
use Rattle.router_options.specs.declared.plan.DomainMark.{DomainMark}

abbrev pub has_link : List LinkFiles → ℕ → Bool
has_link links node = list_any (λ link. link.node == node) links

-- a node, if it is not the router's own and has no link
abbrev pub spare_at : ℕ → List LinkFiles → ℕ → List ℕ
spare_at me links node = if not (node == me) && not (has_link links node) then node ∷ [] else []

-- those below a number
abbrev pub spares_below : ℕ → List LinkFiles → ℕ → List ℕ
spares_below me links zero = []
spares_below me links (suc n) = spares_below me links n ++ spare_at me links n

-- all of a domain, where a file sets it up
abbrev pub spares_of : OpeningView → List LinkFiles → Option DomainMark → List ℕ
spares_of opening links None = []
spares_of opening links (Some mark) = spares_below opening.me links opening.size

-- the nodes that have links at the start, and those that may get some
abbrev pub nodes_with : OpeningView → List LinkFiles → Option DomainMark → List ℕ
nodes_with opening links domain = map (λ (link : LinkFiles). link.node) links ++ spares_of opening links domain

abbrev pub linked_nodes : PlanView → List ℕ
linked_nodes plan = nodes_with plan.opening plan.links plan.domain
