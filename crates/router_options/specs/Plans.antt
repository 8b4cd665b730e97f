-- What an option adds to what a router is told, or why it is refused. (This project's own choice.)
use Rattle.std.specs.Prelude.{◌≡◌, ℕ, ◌+◌, ◌&&◌, Bool, true, false, nat_le, nat_lt, List, []}
use Rattle.std.specs.Prelude.{◌∷◌, ◌++◌, Option, Some, None, String, slice_set, string_bytes}
use Rattle.std.specs.declared.alloc.Global.{Global}
use Rattle.filter_code.specs.Limits.{smallest_size, largest_size}
use Rattle.netchange_core.specs.OpeningView.{OpeningView}
use Rattle.netchange_core.specs.Openings.{is_network}
use Rattle.netchange_core.specs.Openings.{default_opening}
use Rattle.route_history.specs.Limits.{limit_or}
use Rattle.route_history.specs.Limits.{largest_limit}
use Rattle.router_options.specs.Forms.{IsControl, IsLink, IsNoForm, IsPrefix, IsUse, is_control, is_link, is_prefix, is_use, node_in, said_in}
use Rattle.router_options.specs.PlanView.{PlanView, longest_hold, has_filter, has_link, has_prefix, has_use, is_member, is_neighbour, smallest_room}
use Rattle.router_options.specs.declared.fault.NodeFault.{NodeFault}
use Rattle.router_options.specs.declared.fault.NodeFault.TheVariants.{Outside, Itself}
use Rattle.router_options.specs.declared.fault.NumberFault.{NumberFault}
use Rattle.router_options.specs.declared.fault.NumberFault.TheVariants as number
use Rattle.router_options.specs.declared.fault.OptionFault.{OptionFault}
use Rattle.router_options.specs.declared.fault.OptionFault.TheVariants as fault
use Rattle.router_options.specs.declared.parts.ControlFiles.{ControlFiles}
use Rattle.router_options.specs.declared.parts.FilterUse.{FilterUse}
use Rattle.router_options.specs.declared.parts.LinkFiles.{LinkFiles}
use Rattle.router_options.specs.declared.parts.NodePrefix.{NodePrefix}
use Rattle.router_options.specs.declared.plan.Numbers.{Numbers}

-- ---- the numbers

-- a domain has 2 to 250 nodes
abbrev pub is_size : ℕ → Bool
is_size size = nat_le smallest_size size && nat_le size largest_size

-- a router has room for 2,048 to 1,000,000 entries
abbrev pub is_limit : ℕ → Bool
is_limit limit = nat_le smallest_room limit && nat_le limit largest_limit

-- the most messages that may wait for a neighbour, where it may be left out
abbrev pub queue_or : Option ℕ → ℕ
queue_or None = 65536
queue_or (Some queue) = queue

-- Up queues one message for each node of the domain. A lower bound would end each session that begins; with this one Up alone ends none.
abbrev pub is_queue : ℕ → ℕ → Bool
is_queue size queue = nat_le size queue

-- segments are kept of a history that is saved, and the one that grows always is. `saves` says whether the history is saved.
abbrev pub are_segments : Option ℕ → Bool → Bool
are_segments None saves = true
are_segments (Some count) saves = nat_le 1 count && saves

-- a link that is opened again waits a second at least: without a wait, one whose files open at once would be opened over and over
abbrev pub is_retry : Option ℕ → Bool
is_retry None = true
is_retry (Some seconds) = nat_le 1 seconds

-- the domain has as many nodes as a domain has, the router is one of them, and there is such room; the bound on what waits fits, too; and then
-- the number of segments
abbrev pub has_room : Numbers → Bool
has_room n = is_network n.size n.me && is_limit (limit_or n.limit)

abbrev pub has_bounds : Numbers → Bool
has_bounds n = has_room n && is_queue n.size (queue_or n.queue)

abbrev pub can_save : Numbers → Bool → Bool
can_save n saves = has_bounds n && are_segments n.segments saves

-- the wait fits, too
abbrev pub can_wait : Numbers → Bool → Bool
can_wait n saves = can_save n saves && is_retry n.retry

-- how many seconds a router may be silent, where it may be left out; 0 for any time
abbrev pub hold_or : Option ℕ → ℕ
hold_or None = 9
hold_or (Some seconds) = seconds

abbrev pub is_hold : ℕ → Bool
is_hold seconds = nat_le seconds longest_hold

-- all of that, and the HOLD fit
abbrev pub are_numbers : Numbers → Bool → Bool
are_numbers n saves = can_wait n saves && is_hold (hold_or n.hold)

-- a node is not below the size of a domain, whose last node is this
abbrev pub IsBeyond : ℕ → ℕ → ℕ → Type 0
IsBeyond size node last = (nat_lt node size ≡ false) × (last + 1 ≡ size)

-- Why numbers are refused. The first that does not fit is told: the size, the router's node, the room, the bound on what waits, the number of
-- segments, the wait and then the HOLD. Memory may be refused.
abbrev pub RefusesNumbers : Numbers → Bool → NumberFault → Type 0
RefusesNumbers n saves (number.Size size) = (size ≡ n.size) × (is_size n.size ≡ false)
RefusesNumbers n saves (number.Node node last) = (node ≡ n.me) × (is_size n.size ≡ true) × IsBeyond n.size n.me last
RefusesNumbers n saves (number.Limit limit) = (n.limit ≡ Some limit) × (is_network n.size n.me ≡ true) × (is_limit limit ≡ false)
RefusesNumbers n saves (number.Queue queue least) =
    (n.queue ≡ Some queue) × (least ≡ n.size) × (has_room n ≡ true) × (is_queue n.size queue ≡ false)
RefusesNumbers n saves number.Segments = (n.segments ≡ Some 0) × (has_bounds n ≡ true)
RefusesNumbers n saves (number.Unsaved count) =
    (n.segments ≡ Some count) × (has_bounds n ≡ true) × (nat_le 1 count ≡ true) × (saves ≡ false)
RefusesNumbers n saves number.Retry = (n.retry ≡ Some 0) × (can_save n saves ≡ true)
RefusesNumbers n saves (number.Hold seconds) = (n.hold ≡ Some seconds) × (can_wait n saves ≡ true) × (is_hold seconds ≡ false)
RefusesNumbers n saves number.Memory = Unit {0}

-- the plan of these numbers, with the default prefixes, without links and filters
abbrev pub new_plan : Numbers → Option (String Global) → Bool → PlanView
new_plan n save stays = record {
  opening = default_opening n.size n.me;
  placed = [];
  limit = limit_or n.limit;
  queue = queue_or n.queue;
  filters = [];
  imports = [];
  exports = [];
  links = [];
  controls = [];
  save = save;
  segments = n.segments;
  retry = n.retry;
  hold = hold_or n.hold;
  stays = stays;
  domain = None;
}

-- ---- an option that is added is the last one of its kind, and all else stays

-- a prefix that may be added: of a node of the domain, whose prefix was not given yet
pub record MayPlace (plan : PlanView) (text : List ℕ) (given : NodePrefix) : Type 0 where
  pub says : IsPrefix text given
  pub member : is_member plan.opening given.node ≡ true
  pub first : has_prefix plan.placed given.node ≡ false

abbrev pub AddsPrefix : PlanView → List ℕ → PlanView → Type 0
AddsPrefix plan text after = (given : NodePrefix) × MayPlace plan text given × (after ≡ record plan {
  opening = record plan.opening { prefixes = slice_set plan.opening.prefixes given.node given.prefix };
  placed = plan.placed ++ given.node ∷ [];
})

abbrev pub AddsFilter : PlanView → List ℕ → PlanView → Type 0
AddsFilter plan name after = (filter : String Global) × (string_bytes filter ≡ name) × (after ≡ record plan { filters = plan.filters ++ filter ∷ [] })

-- a use that may be added to these: of a filter that has a name, at a neighbour at which none of them is
pub record MayUse (plan : PlanView) (uses : List FilterUse) (text : List ℕ) (used : FilterUse) : Type 0 where
  pub says : IsUse text used
  pub neighbour : is_neighbour plan.opening used.node ≡ true
  pub given : has_filter plan.filters (said_in text) ≡ true
  pub first : has_use uses used.node ≡ false

abbrev pub AddsImport : PlanView → List ℕ → PlanView → Type 0
AddsImport plan text after =
    (used : FilterUse) × MayUse plan plan.imports text used × (after ≡ record plan { imports = plan.imports ++ used ∷ [] })

abbrev pub AddsExport : PlanView → List ℕ → PlanView → Type 0
AddsExport plan text after =
    (used : FilterUse) × MayUse plan plan.exports text used × (after ≡ record plan { exports = plan.exports ++ used ∷ [] })

-- a link that may be added: to a neighbour that has none
pub record MayLink (plan : PlanView) (text : List ℕ) (link : LinkFiles) : Type 0 where
  pub says : IsLink text link
  pub neighbour : is_neighbour plan.opening link.node ≡ true
  pub first : has_link plan.links link.node ≡ false

abbrev pub AddsLink : PlanView → List ℕ → PlanView → Type 0
AddsLink plan text after = (link : LinkFiles) × MayLink plan text link × (after ≡ record plan { links = plan.links ++ link ∷ [] })

-- any control may be added
abbrev pub AddsControl : PlanView → List ℕ → PlanView → Type 0
AddsControl plan text after = (files : ControlFiles) × IsControl text files × (after ≡ record plan { controls = plan.controls ++ files ∷ [] })

-- ---- Why an option is refused: first its form is judged, then its node, then the name of its filter, and then what is there already. Memory
-- may be refused before.

-- a node is no node of the domain
abbrev pub IsNoMember : OpeningView → ℕ → NodeFault → Type 0
IsNoMember opening node (Outside last) = IsBeyond opening.size node last
IsNoMember opening node Itself = ⊥

-- a node is no neighbour: it is no node of the domain, or the router itself
abbrev pub IsNoNeighbour : OpeningView → ℕ → NodeFault → Type 0
IsNoNeighbour opening node (Outside last) = IsBeyond opening.size node last
IsNoNeighbour opening node Itself = node ≡ opening.me

abbrev pub RefusesPrefix : PlanView → List ℕ → OptionFault → Type 0
RefusesPrefix plan text fault.Form = is_prefix text ≡ false
RefusesPrefix plan text (fault.Node node why) =
    (is_prefix text ≡ true) × (node_in text ≡ Some node) × IsNoMember plan.opening node why
RefusesPrefix plan text fault.UnknownFilter = ⊥
RefusesPrefix plan text (fault.Twice node) = (is_prefix text ≡ true) × (node_in text ≡ Some node)
    × (is_member plan.opening node ≡ true) × (has_prefix plan.placed node ≡ true)
RefusesPrefix plan text fault.Memory = Unit {0}

-- the same of a use that is to be added to these
abbrev pub RefusesUse : PlanView → List FilterUse → List ℕ → OptionFault → Type 0
RefusesUse plan uses text fault.Form = is_use text ≡ false
RefusesUse plan uses text (fault.Node node why) =
    (is_use text ≡ true) × (node_in text ≡ Some node) × IsNoNeighbour plan.opening node why
RefusesUse plan uses text fault.UnknownFilter = (used : FilterUse) × IsUse text used
    × (is_neighbour plan.opening used.node ≡ true) × (has_filter plan.filters (said_in text) ≡ false)
RefusesUse plan uses text (fault.Twice node) = (is_use text ≡ true) × (node_in text ≡ Some node)
    × (is_neighbour plan.opening node ≡ true) × (has_filter plan.filters (said_in text) ≡ true) × (has_use uses node ≡ true)
RefusesUse plan uses text fault.Memory = Unit {0}

abbrev pub RefusesImport : PlanView → List ℕ → OptionFault → Type 0
RefusesImport plan text why = RefusesUse plan plan.imports text why

abbrev pub RefusesExport : PlanView → List ℕ → OptionFault → Type 0
RefusesExport plan text why = RefusesUse plan plan.exports text why

abbrev pub RefusesLink : PlanView → List ℕ → OptionFault → Type 0
RefusesLink plan text fault.Form = is_link text ≡ false
RefusesLink plan text (fault.Node node why) =
    (is_link text ≡ true) × (node_in text ≡ Some node) × IsNoNeighbour plan.opening node why
RefusesLink plan text fault.UnknownFilter = ⊥
RefusesLink plan text (fault.Twice node) = (is_link text ≡ true) × (node_in text ≡ Some node)
    × (is_neighbour plan.opening node ≡ true) × (has_link plan.links node ≡ true)
RefusesLink plan text fault.Memory = Unit {0}

abbrev pub RefusesControl : PlanView → List ℕ → OptionFault → Type 0
RefusesControl plan text why = IsNoForm (is_control text) why
