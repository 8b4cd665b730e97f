-- For whom more messages wait than may. (This project's own choice.)
use Rattle.std.specs.Prelude.{◌≡◌, ℕ, ◌<◌, ◌≤◌, nat_lt, ◌&&◌, Bool, false, List, length, MatchOption, Option, Some, None, is_some, slice_get}
use Rattle.router_daemon.specs.Endings.{SessionEndingView}
use Rattle.netchange_core.specs.Calls.{session_of}
use Rattle.netchange_core.specs.World.{World, neighbour_at}
use Rattle.route_history.specs.History.{world_of}
use Rattle.route_history.specs.JournalView.{JournalView}
use Rattle.slot_lock.specs.Passes.{PassView, RouterView}
use Rattle.router_daemon.specs.declared.queues.LongQueueSearch.{LongQueueSearch}
use Rattle.router_daemon.specs.declared.queues.LongQueue.{LongQueue}

-- how many messages wait for a node
abbrev pub waiting_for : World → ℕ → ℕ
waiting_for w node = length (neighbour_at w.neighbours node).queue

-- it is up, and more wait for it than may
abbrev pub is_long : ℕ → World → ℕ → Bool
is_long most w node = is_some (session_of w node) && nat_lt most (waiting_for w node)

-- so it is with the neighbour of a link, if there is such a link
abbrev pub is_long_at : ℕ → World → Option ℕ → Bool
is_long_at most w None = false
is_long_at most w (Some node) = is_long most w node

-- so it is with no link from one on and below another
abbrev pub NoneLong : ℕ → World → List ℕ → ℕ → ℕ → Type 0
NoneLong most w nodes from to = (link : ℕ) → from ≤ link → link < to → is_long_at most w (slice_get nodes link) ≡ false

-- What is said of a link is so: it leads to this node, which is up in this session, and so many messages wait for it, more than may.
pub record IsLong (most : ℕ) (w : World) (nodes : List ℕ) (q : LongQueue) : Type 0 where
  pub node : slice_get nodes q.link ≡ Some q.node
  pub session : session_of w q.node ≡ Some q.session
  pub waiting : q.waiting ≡ waiting_for w q.node
  pub more : most < q.waiting

-- it is the first such link from one on
pub record IsFirstLong (most : ℕ) (w : World) (nodes : List ℕ) (from : ℕ) (q : LongQueue) : Type 0 where
  pub long : IsLong most w nodes q
  pub on : from ≤ q.link
  pub before : NoneLong most w nodes from q.link

-- the first one was found, or there is none
abbrev pub FindsFirst : ℕ → World → List ℕ → ℕ → Option LongQueue → Type 0
FindsFirst most w nodes from found = MatchOption found (NoneLong most w nodes from (length nodes)) (IsFirstLong most w nodes from)

-- it was looked for in the tables after a history
abbrev pub Finds : LongQueueSearch → JournalView → LongQueueSearch → Type 0
Finds before history after =
    FindsFirst before.most (world_of history.opening history.entries) before.nodes.now before.from after.found

-- It was looked for after a history that a pass has seen; and the session that ended is the one that is there.
abbrev pub EndsFirst : RouterView → ℕ → List ℕ → ℕ → Option (LongQueue × SessionEndingView) → PassView → Type 0
EndsFirst r most nodes from ended new =
    let w = world_of r.opening new.fragment.seen in
    MatchOption ended (NoneLong most w nodes from (length nodes)) (λ e. IsFirstLong most w nodes from e.0 × (e.1.link ≡ e.0.link)
    × (e.1.session ≡ e.0.session))
