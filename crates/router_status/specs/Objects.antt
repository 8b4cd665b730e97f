-- What a router tells programs, as JSON. (RFC 8259, by the kit's `serde_json`; the names of the members are this project's own choice.)
use Rattle.std.specs.Prelude.{ℕ, zero, suc, Bool, List, [], ◌∷◌, ◌++◌, Option, Some, None, codes, map, nat_lt, slice_index_or}
use Rattle.netchange_core.specs.Best.{best}
use Rattle.netchange_core.specs.World.{World}
use Rattle.netchange_core.specs.declared.reply.Via.{Via}
use Rattle.netchange_core.specs.declared.reply.Via.TheVariants as via
use Rattle.prefix_patterns.specs.Spelling.{prefix_text}
use Rattle.serde_json.specs.Data.{Data, Items, array, boolean, item, member, no_items, no_members, null, number, object, string, unsigned}
use Rattle.serde_json.specs.View.{items_of}
use Rattle.serde_json.specs.Written.{compact_text}
use Rattle.router_status.specs.Lines.{text_of}
use Rattle.router_status.specs.Status.{LinkView, NamedView, StatusView, name_of}
use Rattle.router_status.specs.declared.status.FilterStatus.{FilterStatus}
use Rattle.router_status.specs.declared.status.LinkState.{LinkState}
use Rattle.router_status.specs.declared.status.LinkState.TheVariants as state

abbrev pub text_data : List ℕ → Data
text_data text = string text

-- a text, or null where there is none
abbrev pub text_or_null : Option (List ℕ) → Data
text_or_null None = null
text_or_null (Some text) = string text

-- a number, or null where there is none
abbrev pub number_or_null : Option ℕ → Data
number_or_null None = null
number_or_null (Some n) = number (unsigned n)

-- ---- a link, and the router

abbrev pub state_word : LinkState → List ℕ
state_word (state.Up session) = codes "up"
state_word state.Open = codes "open"
state_word state.Closed = codes "closed"

abbrev pub session_in : LinkState → Option ℕ
session_in (state.Up session) = Some session
session_in state.Open = None
session_in state.Closed = None

-- what its filters do
abbrev pub filter_data : FilterStatus → Option (List ℕ) → Data
filter_data filter name = object (member (codes "accepted") (number (unsigned filter.accepted))
    (member (codes "budget") (number (unsigned filter.budget))
    (member (codes "name") (text_or_null name)
    (member (codes "rejected") (number (unsigned filter.rejected)) no_members))))

abbrev pub filter_or_null : Option FilterStatus → Option NamedView → Data
filter_or_null None named = null
filter_or_null (Some filter) named = filter_data filter (name_of filter named)

abbrev pub link_data : LinkView → Data
link_data link = object (member (codes "ended") (text_or_null link.ended)
    (member (codes "export") (filter_or_null link.export_status link.export_named)
    (member (codes "import") (filter_or_null link.import_status link.import_named)
    (member (codes "node") (number (unsigned link.node))
    (member (codes "received") (number (unsigned link.received))
    (member (codes "sent") (number (unsigned link.sent))
    (member (codes "session") (number_or_null (session_in link.state))
    (member (codes "sessions") (number (unsigned link.sessions))
    (member (codes "since") (number (unsigned link.since))
    (member (codes "state") (string (state_word link.state))
    (member (codes "unheard") (number_or_null link.unheard)
    (member (codes "waiting") (number (unsigned link.waiting)) no_members))))))))))))

abbrev pub links_data : List LinkView → Items
links_data links = items_of (map link_data links)

abbrev pub status_data : StatusView → Data
status_data status = object (member (codes "bytes") (number_or_null status.bytes)
    (member (codes "domain") (text_or_null status.domain)
    (member (codes "entries") (number (unsigned status.entries))
    (member (codes "forgotten") (number (unsigned status.forgotten))
    (member (codes "links") (array (links_data status.links))
    (member (codes "node") (number (unsigned status.node))
    (member (codes "room") (number (unsigned status.room))
    (member (codes "saved") (number_or_null status.saved)
    (member (codes "segments") (number_or_null status.segments)
    (member (codes "size") (number (unsigned status.size))
    (member (codes "up") (number (unsigned status.up))
    (member (codes "version") (string status.version) no_members))))))))))))

-- ---- routes

abbrev pub next_hop : Via → Option ℕ
next_hop via.Local = None
next_hop (via.Node hop) = Some hop
next_hop via.Nowhere = None

abbrev pub prefix_data : List Bool → Data
prefix_data prefix = string (prefix_text prefix)

abbrev pub route_data : World → ℕ → Data
route_data w node = object (member (codes "distance") (number (unsigned (best w node).dist))
    (member (codes "node") (number (unsigned node))
    (member (codes "prefix") (prefix_data (slice_index_or w.opening.prefixes node []))
    (member (codes "reachable") (boolean (nat_lt (best w node).dist w.opening.size))
    (member (codes "via") (number_or_null (next_hop (best w node).via)) no_members)))))

-- those of all nodes below one, from 0 upwards
unfoldable pub below : ℕ → (ℕ → Data) → List Data
below zero data_of = []
below (suc n) data_of = below n data_of ++ data_of n ∷ []

abbrev pub routes_data : World → Items
routes_data w = items_of (below w.opening.size (route_data w))

abbrev pub all_routes_data : World → Data
all_routes_data w = object (member (codes "routes") (array (routes_data w)) no_members)

-- ---- lines

-- without its line feed
abbrev pub status_json : StatusView → List ℕ
status_json status = compact_text (status_data status)

abbrev pub routes_json : World → List ℕ
routes_json w = compact_text (all_routes_data w)

abbrev pub json_line : Data → List ℕ
json_line value = compact_text value ++ 10 ∷ []

abbrev pub status_object : StatusView → List ℕ
status_object status = json_line (status_data status)

abbrev pub routes_object : World → List ℕ
routes_object w = json_line (all_routes_data w)
