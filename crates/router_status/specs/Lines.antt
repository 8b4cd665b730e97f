-- The line that tells what a router is about. (This project's own choice.)
use Rattle.std.specs.Prelude.{ℕ, List, [], ◌∷◌, ◌++◌, Option, Some, None, String, codes, decimal, flat_map, string_bytes}
use Rattle.std.specs.Option.{option_map}
use Rattle.std.specs.declared.alloc.Global.{Global}
use Rattle.router_status.specs.Status.{LinkView, NamedView, StatusView, name_of}
use Rattle.router_status.specs.declared.status.FilterStatus.{FilterStatus}
use Rattle.router_status.specs.declared.status.LinkState.{LinkState}
use Rattle.router_status.specs.declared.status.LinkState.TheVariants as state

-- ` NAME NUMBER`, and nothing where there is no number
abbrev pub number_text : List ℕ → ℕ → List ℕ
number_text name number = 32 ∷ name ++ 32 ∷ decimal number

abbrev pub known_text : List ℕ → Option ℕ → List ℕ
known_text name None = []
known_text name (Some number) = number_text name number

-- ` up SESSION`, ` open` or ` closed`
abbrev pub state_text : LinkState → List ℕ
state_text (state.Up session) = number_text (codes "up") session
state_text state.Open = codes " open"
state_text state.Closed = codes " closed"

abbrev pub text_of : Option (String Global) → Option (List ℕ)
text_of text = option_map (λ words. string_bytes words) text

abbrev pub ended_text : Option (List ℕ) → List ℕ
ended_text None = []
ended_text (Some why) = codes " ended " ++ why

-- what is counted of a link
abbrev pub sessions_text : LinkView → List ℕ
sessions_text link = number_text (codes "since") link.since ++ number_text (codes "sessions") link.sessions

abbrev pub messages_text : LinkView → List ℕ
messages_text link =
    number_text (codes "received") link.received ++ number_text (codes "sent") link.sent ++ number_text (codes "waiting") link.waiting

-- a filter by its direction and its name, and `-` where it has none; its budget, and how many routes it lets through and rejects
abbrev pub name_text : Option (List ℕ) → List ℕ
name_text None = codes "-"
name_text (Some name) = name

abbrev pub direction_text : List ℕ → Option (List ℕ) → List ℕ
direction_text direction name = 32 ∷ direction ++ 32 ∷ name_text name

abbrev pub verdicts_text : FilterStatus → List ℕ
verdicts_text filter =
    number_text (codes "budget") filter.budget ++ number_text (codes "accepted") filter.accepted ++ number_text (codes "rejected") filter.rejected

abbrev pub filter_text : List ℕ → Option NamedView → FilterStatus → List ℕ
filter_text direction named filter = direction_text direction (name_of filter named) ++ verdicts_text filter

abbrev pub filtered_text : List ℕ → Option NamedView → Option FilterStatus → List ℕ
filtered_text direction named None = []
filtered_text direction named (Some filter) = filter_text direction named filter

abbrev pub filters_text : LinkView → List ℕ
filters_text link = filtered_text (codes "import") link.import_named link.import_status
    ++ filtered_text (codes "export") link.export_named link.export_status

abbrev pub counts_text : LinkView → List ℕ
counts_text link = sessions_text link ++ messages_text link ++ filters_text link ++ known_text (codes "unheard") link.unheard

abbrev pub neighbour_text : LinkView → List ℕ
neighbour_text link = codes " | link " ++ decimal link.node ++ state_text link.state

abbrev pub link_text : LinkView → List ℕ
link_text link = neighbour_text link ++ counts_text link ++ ended_text link.ended

-- the router itself
abbrev pub node_text : StatusView → List ℕ
node_text status = number_text (codes "node") status.node ++ number_text (codes "size") status.size ++ number_text (codes "up") status.up

abbrev pub saved_text : StatusView → List ℕ
saved_text status =
    known_text (codes "saved") status.saved ++ known_text (codes "segments") status.segments ++ known_text (codes "bytes") status.bytes

abbrev pub history_text : StatusView → List ℕ
history_text status = number_text (codes "entries") status.entries ++ number_text (codes "forgotten") status.forgotten
    ++ number_text (codes "room") status.room ++ saved_text status

abbrev pub domain_text : Option (List ℕ) → List ℕ
domain_text None = []
domain_text (Some digits) = codes " domain " ++ digits

abbrev pub version_text : List ℕ → List ℕ
version_text version = codes " version " ++ version

abbrev pub origin_text : StatusView → List ℕ
origin_text status = domain_text status.domain ++ version_text status.version

abbrev pub router_text : StatusView → List ℕ
router_text status = codes "status" ++ node_text status ++ history_text status ++ origin_text status

-- without its line feed
abbrev pub status_text : StatusView → List ℕ
status_text status = router_text status ++ flat_map link_text status.links

abbrev pub status_line : StatusView → List ℕ
status_line status = status_text status ++ 10 ∷ []
