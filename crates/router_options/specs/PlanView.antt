-- What a router is told before it begins. (This project's own choice.)
use Rattle.std.specs.Prelude.{◌≡◌, ◌==◌, ◌&&◌, ℕ, ◌≤◌, Bool, true, not, nat_lt, All, List, count_by, Option, String, string_bytes}
use Rattle.std.specs.List.{list_any}
use Rattle.std.specs.Str.{bytes_eq}
use Rattle.std.specs.declared.alloc.Global.{Global}
use Rattle.netchange_core.specs.OpeningView.{OpeningView}
use Rattle.route_history.specs.Limits.{largest_limit}
use Rattle.router_options.specs.declared.parts.ControlFiles.{ControlFiles}
use Rattle.router_options.specs.declared.parts.FilterUse.{FilterUse}
use Rattle.router_options.specs.declared.parts.LinkFiles.{LinkFiles}
use Rattle.router_options.specs.declared.plan.DomainMark.{DomainMark}

-- the domain, the router's node and the prefixes; the nodes whose prefix was given, in order; how many entries of the history there is room for
-- in memory; the most messages that may wait for a neighbour; the names of the filters; the import and the export filters; the links; where
-- operators are served besides standard input; the folder in which the history is saved, and how many segments of it are kept there; how long a
-- closed link waits; whether the router goes on where its standard input ends; and the file by which the domain was set up, if one was
pub record PlanView : Type 0 where
  pub opening : OpeningView
  pub placed : List ℕ
  pub limit : ℕ
  pub queue : ℕ
  pub filters : List (String Global)
  pub imports : List FilterUse
  pub exports : List FilterUse
  pub links : List LinkFiles
  pub controls : List ControlFiles
  pub save : Option (String Global)
  pub segments : Option ℕ
  pub retry : Option ℕ
  pub hold : ℕ
  pub stays : Bool
  pub domain : Option DomainMark

-- a node of the domain
abbrev pub is_member : OpeningView → ℕ → Bool
is_member opening node = nat_lt node opening.size

-- a neighbour is a node of the domain, but not the router itself
abbrev pub is_neighbour : OpeningView → ℕ → Bool
is_neighbour opening node = is_member opening node && not (node == opening.me)

-- a node whose prefix was given is the node; a use is at the node; a link leads to the node
abbrev pub is_node : ℕ → ℕ → Bool
is_node node other = other == node

abbrev pub is_at : ℕ → FilterUse → Bool
is_at node used = used.node == node

abbrev pub leads_to : ℕ → LinkFiles → Bool
leads_to node link = link.node == node

-- the prefix of a node was given; a filter is used at a node; a node has a link; a filter has a name
abbrev pub has_prefix : List ℕ → ℕ → Bool
has_prefix placed node = list_any (is_node node) placed

abbrev pub has_use : List FilterUse → ℕ → Bool
has_use uses node = list_any (is_at node) uses

abbrev pub has_link : List LinkFiles → ℕ → Bool
has_link links node = list_any (leads_to node) links

abbrev pub has_filter : List (String Global) → List ℕ → Bool
has_filter filters name = list_any (λ filter. bytes_eq (string_bytes filter) name) filters

-- a use is of a filter that has a name, at a neighbour
pub record IsUsed (opening : OpeningView) (filters : List (String Global)) (used : FilterUse) : Type 0 where
  pub neighbour : is_neighbour opening used.node ≡ true
  pub given : has_filter filters (string_bytes used.name) ≡ true

-- A router forgets the first entries of its history, 1,024 at a time, and has room for 2,048 or more: so many that some can be forgotten while
-- others are made.
abbrev pub smallest_room : ℕ
smallest_room = 2048

-- a router may be silent for an hour at most, or for any time, which a HOLD of 0 says
abbrev pub longest_hold : ℕ
longest_hold = 3600

-- The room and the HOLD are within their limits. A neighbour that comes up is told one distance for each node of the domain: so many messages may wait. Each
-- prefix that was given is that of a node of the domain, each link leads to a neighbour, and each use is of a filter that has a name, at
-- a neighbour. No node has two prefixes that were given, two import filters, two export filters or two links.
pub record IsPlan (plan : PlanView) : Type 0 where
  pub limit : (smallest_room ≤ plan.limit) × (plan.limit ≤ largest_limit)
  pub queue : plan.opening.size ≤ plan.queue
  pub hold : plan.hold ≤ longest_hold
  pub members : All (λ node. is_member plan.opening node ≡ true) plan.placed
  pub neighbours : All (λ link. is_neighbour plan.opening link.node ≡ true) plan.links
  pub imports : All (IsUsed plan.opening plan.filters) plan.imports
  pub exports : All (IsUsed plan.opening plan.filters) plan.exports
  pub one_prefix : (node : ℕ) → count_by (is_node node) plan.placed ≤ 1
  pub one_import : (node : ℕ) → count_by (is_at node) plan.imports ≤ 1
  pub one_export : (node : ℕ) → count_by (is_at node) plan.exports ≤ 1
  pub one_link : (node : ℕ) → count_by (leads_to node) plan.links ≤ 1
