-- What a running router tells of itself. (This project's own choice.)
use Rattle.std.specs.Prelude.{ℕ, ◌+◌, zero, suc, ◌==◌, ◌&&◌, Bool, true, false, not, List, Option, Some, None, if◌then◌else◌, length, map, min, nat_lt, slice_index}
use Rattle.std.specs.Prelude.{string_bytes}
use Rattle.std.specs.Option.{option_map}
use Rattle.std.specs.Str.{bytes_eq}
use Rattle.code_file.specs.Spelling.{spelling}
use Rattle.filter_verifier.specs.Bounds.{cost}
use Rattle.filter_verifier.specs.VerifiedView.{VerifiedView}
use Rattle.netchange_core.specs.Best.{distance, neighbour_distance}
use Rattle.netchange_core.specs.Calls.{session_of}
use Rattle.netchange_core.specs.FilteredDistance.{filtered_distance}
use Rattle.netchange_core.specs.World.{World, neighbour_at}
use Rattle.route_history.specs.History.{world_of}
use Rattle.route_history.specs.JournalView.{JournalView}
use Rattle.router_status.specs.declared.status.FilterStatus.{FilterStatus}
use Rattle.router_status.specs.declared.status.LinkState.{LinkState}
use Rattle.router_status.specs.declared.status.LinkStatus.{LinkStatus}
use Rattle.router_status.specs.declared.status.NamedFilter.{NamedFilter}
use Rattle.router_status.specs.declared.status.Status.{Status}

-- a filter, and the name under which it was put in force
pub record NamedView : Type 0 where
  pub name : List ℕ
  pub filter : VerifiedView

abbrev pub named_view : NamedFilter → NamedView
named_view named = record { name = string_bytes named.name; filter = named.filter.value }

abbrev pub named_view_of : Option NamedFilter → Option NamedView
named_view_of named = option_map (λ n. named_view n) named

-- a link: the neighbour; whether it is up, and for how many seconds it has been so; how many sessions it had, how many messages were heard and
-- were handed to who writes, and how many wait; for either direction the filter that was put in force last under a name, and what the one in force
-- does; for how many seconds nothing was heard; and why its last session ended
pub record LinkView : Type 0 where
  pub node : ℕ
  pub state : LinkState
  pub since : ℕ
  pub sessions : ℕ
  pub received : ℕ
  pub sent : ℕ
  pub waiting : ℕ
  pub import_named : Option NamedView
  pub import_status : Option FilterStatus
  pub export_named : Option NamedView
  pub export_status : Option FilterStatus
  pub unheard : Option ℕ
  pub ended : Option (List ℕ)

abbrev pub link_view : LinkStatus → LinkView
link_view link = record {
  node = link.node;
  state = link.state;
  since = link.since;
  sessions = link.sessions;
  received = link.received;
  sent = link.sent;
  waiting = link.waiting;
  import_named = named_view_of link.import_named;
  import_status = link.import_status;
  export_named = named_view_of link.export_named;
  export_status = link.export_status;
  unheard = link.unheard;
  ended = option_map (λ why. string_bytes why) link.ended;
}

-- the router: the version of the program, its domain and its node; for how many seconds it runs; how many entries its history has, how many of
-- them are forgotten, for how many there is room, and how many are saved, in how many segments and bytes; the digits of the digest of its domain, if
-- a file set it up; and its links
pub record StatusView : Type 0 where
  pub version : List ℕ
  pub size : ℕ
  pub node : ℕ
  pub up : ℕ
  pub entries : ℕ
  pub forgotten : ℕ
  pub room : ℕ
  pub saved : Option ℕ
  pub segments : Option ℕ
  pub bytes : Option ℕ
  pub domain : Option (List ℕ)
  pub links : List LinkView

abbrev pub status_view : Status → StatusView
status_view status = record {
  version = status.version.now;
  size = status.size;
  node = status.node;
  up = status.up;
  entries = status.entries;
  forgotten = status.forgotten;
  room = status.room;
  saved = status.saved;
  segments = status.segments;
  bytes = status.bytes;
  domain = option_map (λ digits. string_bytes digits) status.domain;
  links = map link_view status.links.items;
}

-- how many messages wait for a node, if it is up
abbrev pub waiting_in : World → ℕ → Option ℕ → ℕ
waiting_in w node None = 0
waiting_in w node (Some session) = length (neighbour_at w.neighbours node).queue

abbrev pub waiting_for : World → ℕ → ℕ
waiting_for w node = waiting_in w node (session_of w node)

-- of the nodes below one, to how many this applies
unfoldable pub count_below : ℕ → (ℕ → Bool) → ℕ
count_below zero holds = 0
count_below (suc n) holds = count_below n holds + (if holds n then 1 else 0)

-- a neighbour advertises a route to a node, and the route passes its import filter, or does not
abbrev pub same : Bool → Bool → Bool
same true b = b
same false b = not b

abbrev pub is_import : World → ℕ → Bool → ℕ → Bool
is_import w node passes dest = nat_lt (slice_index (neighbour_at w.neighbours node).advertised dest) w.opening.size
    && same passes (nat_lt (neighbour_distance w.opening dest (neighbour_at w.neighbours node)) w.opening.size)

abbrev pub count_imports : World → ℕ → Bool → ℕ
count_imports w node passes = count_below w.opening.size (is_import w node passes)

-- the router has a route to a node, and the filter lets it through, or does not
abbrev pub is_export : World → Option VerifiedView → Bool → ℕ → Bool
is_export w filter passes dest = nat_lt (distance w dest) w.opening.size
    && same passes (nat_lt (filtered_distance w.opening filter dest (distance w dest)) w.opening.size)

abbrev pub count_exports : World → Option VerifiedView → Bool → ℕ
count_exports w filter passes = count_below w.opening.size (is_export w filter passes)

-- filters have the same code, as a file spells it
abbrev pub is_same_code : VerifiedView → VerifiedView → Bool
is_same_code f g = bytes_eq (spelling f.program) (spelling g.program)

-- a filter is the one that was put in force last under a name, if one was; and its name, where it is so
abbrev pub is_named : VerifiedView → Option NamedView → Bool
is_named f None = false
is_named f (Some named) = is_same_code f named.filter

abbrev pub name_of : FilterStatus → Option NamedView → Option (List ℕ)
name_of filter None = None
name_of filter (Some named) = if filter.is_named then Some named.name else None

-- what a filter does with the routes that a neighbour advertises, and what that of a node does, if it is up and has one
abbrev pub import_by : World → ℕ → Option NamedView → VerifiedView → FilterStatus
import_by w node named filter = record {
  is_named = is_named filter named;
  budget = cost filter.program.instrs 0;
  accepted = count_imports w node true;
  rejected = count_imports w node false;
}

abbrev pub import_at : World → ℕ → Option NamedView → Option FilterStatus
import_at w node named = option_map (import_by w node named) (neighbour_at w.neighbours node).imports

abbrev pub import_in : World → ℕ → Option NamedView → Option ℕ → Option FilterStatus
import_in w node named None = None
import_in w node named (Some session) = import_at w node named

abbrev pub import_of : World → ℕ → Option NamedView → Option FilterStatus
import_of w node named = import_in w node named (session_of w node)

-- What a filter does with the routes that a neighbour is told, and what that of a node does. One that is verified for domains of another size is no
-- filter here: no event puts it in force.
abbrev pub export_by : World → Option NamedView → VerifiedView → FilterStatus
export_by w named filter = record {
  is_named = is_named filter named;
  budget = cost filter.program.instrs 0;
  accepted = count_exports w (Some filter) true;
  rejected = count_exports w (Some filter) false;
}

abbrev pub export_with : World → Option NamedView → Option VerifiedView → Option FilterStatus
export_with w named None = None
export_with w named (Some filter) = if filter.size == w.opening.size then Some (export_by w named filter) else None

abbrev pub export_in : World → ℕ → Option NamedView → Option ℕ → Option FilterStatus
export_in w node named None = None
export_in w node named (Some session) = export_with w named (neighbour_at w.neighbours node).exports

abbrev pub export_of : World → ℕ → Option NamedView → Option FilterStatus
export_of w node named = export_in w node named (session_of w node)

-- a link is told what the tables say of it
abbrev pub filled : World → LinkStatus → LinkStatus
filled w link = record link {
  waiting = waiting_for w link.node;
  import_status = import_of w link.node (named_view_of link.import_named);
  export_status = export_of w link.node (named_view_of link.export_named);
}

abbrev pub with_tables : World → LinkView → LinkView
with_tables w link = record link {
  waiting = waiting_for w link.node;
  import_status = import_of w link.node link.import_named;
  export_status = export_of w link.node link.export_named;
}

-- What only the history says is said: of a history, of which so many entries are forgotten. Its length counts as far as 64 bits go.
abbrev pub completed : ℕ → JournalView → StatusView → StatusView
completed first history status = record status {
  size = history.opening.size;
  node = history.opening.me;
  entries = min (length history.entries) 18446744073709551615;
  forgotten = first;
  room = history.limit;
  links = map (with_tables (world_of history.opening history.entries)) status.links;
}
