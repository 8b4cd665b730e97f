-- What a seat knows, and how one view becomes others. (This project's own choice.)
use Rattle.std.specs.Prelude.{ℕ, ◌+◌, ◌-◌, nat_lt, if◌then◌else◌, Some, None, Option, List, [], length}
use Rattle.netchange_core.specs.OpeningView.{OpeningView}
use Rattle.route_history.specs.declared.bounds.Bounds.{Bounds}
use Rattle.route_history.specs.declared.entry.Entry.{Entry}
use Rattle.route_history.specs.Positions.{times}
use Rattle.lock_rule.specs.declared.rule.Fragment.{Fragment}
use Rattle.lock_rule.specs.declared.rule.View.{View}

-- all shares of a router
abbrev pub all_shares : ℕ
all_shares = 65536

-- a fragment without shares
abbrev pub empty_fragment : Fragment
empty_fragment = record { seen = []; mine = []; failed_tries = 0; shares = 0; forgot = 0 }

-- what is left of a seat that was merged with another
abbrev pub empty_view : View
empty_view = record { about = None; held = None; held_first = 0; right = 0; fragment = empty_fragment; incoming = empty_fragment }

-- the first seat of a router, which has the right to forget
abbrev pub first_view : OpeningView → Bounds → View
first_view opening bounds = record {
  about = Some (opening, bounds);
  held = None;
  held_first = 0;
  right = 1;
  fragment = record { seen = []; mine = []; failed_tries = 0; shares = all_shares; forgot = 0 };
  incoming = empty_fragment;
}

abbrev pub shares_of : View → ℕ
shares_of v = v.fragment.shares + v.incoming.shares

abbrev pub right_of : View → ℕ
right_of v = v.right

-- how often a view has a position
abbrev pub times_in_view : ℕ → View → ℕ
times_in_view x v = times x v.fragment.mine + times x v.incoming.mine

abbrev pub entries_in : Option (List Entry) → List Entry
entries_in None = []
entries_in (Some es) = es

-- the history that a seat acquired, and a view that holds it
abbrev pub held_history : View → List Entry
held_history v = entries_in v.held

abbrev pub with_held : View → List Entry → ℕ → View
with_held v log first = record v { held = Some log; held_first = first }

-- a view after the release, and one that has seen this history then, of which these positions are its caller's
abbrev pub released : View → View
released v = record v { held = None }

abbrev pub released_with : View → List Entry → List ℕ → View
released_with v log mine = record v { held = None; fragment = record v.fragment { seen = log; mine = mine } }

-- the same, and it knows that so many entries are forgotten
abbrev pub released_at : View → List Entry → List ℕ → ℕ → View
released_at v log mine first = record v { held = None; fragment = record v.fragment { seen = log; mine = mine; forgot = first } }

-- a view after so many failed tries more
abbrev pub with_failed_tries : ℕ → View → View
with_failed_tries n v = record v { fragment = record v.fragment { failed_tries = v.fragment.failed_tries + n } }

-- the longer of two histories, the first if they are equally long
abbrev pub longer : List Entry → List Entry → List Entry
longer a b = if nat_lt (length a) (length b) then b else a

-- a view with shares split off, and a new view with these shares, without the right
abbrev pub split_left : ℕ → View → View
split_left n v = record v { fragment = record v.fragment { shares = v.fragment.shares - n } }

abbrev pub split_right : ℕ → View → View
split_right n v = record v {
  held = None;
  right = 0;
  fragment = record { seen = v.fragment.seen; mine = []; failed_tries = 0; shares = n; forgot = v.fragment.forgot };
  incoming = empty_fragment;
}

-- a view with the fragment of another as its incoming one, and each of the two fragments in a view of its own
abbrev pub with_incoming : View → View → View
with_incoming v w = record v { incoming = w.fragment }

abbrev pub without_incoming : View → View
without_incoming v = record v { incoming = empty_fragment }

abbrev pub incoming_alone : View → View
incoming_alone v = record v { held = None; right = 0; fragment = v.incoming; incoming = empty_fragment }
