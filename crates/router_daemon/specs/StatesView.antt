-- What is noted of the links. (This project's own choice.)
use Rattle.std.specs.Prelude.{◌≡◌, ◌==◌, ℕ, ◌+◌, ◌<◌, ◌&&◌, ◌||◌, max, nat_lt, nat_le, not, Bool, true, false, if◌then◌else◌}
use Rattle.std.specs.Prelude.{List, length, map, position, Option, Some, None, slice_get, slice_set}
use Rattle.std.specs.List.{list_any}
use Rattle.router_daemon.specs.Steps.{Begins, Ends, Wakes, changing_less, changing_more, is_woken, link_to, queued_at, taken_at, waits}
use Rattle.netchange_core.specs.declared.reply.Reply.{Reply}
use Rattle.netchange_core.specs.declared.reply.Reply.TheVariants as reply
use Rattle.router_daemon.specs.Noting.{tells_all}
use Rattle.router_daemon.specs.declared.link_state.LinkState.{LinkState}

-- the links in order; the least number of entries that the history is known to have, and how many it had with the last one that is known
-- to have changed a distance; how many are saved where who saves them sleeps; and whether the router is being closed
pub record LinkStatesView : Type 0 where
  pub links : List LinkState
  pub entries : ℕ
  pub changed : ℕ
  pub awaited : Option ℕ
  pub closing : Bool

-- links to these nodes, without sessions
abbrev pub fresh : List ℕ → LinkStatesView
fresh nodes = record { links = map link_to nodes; entries = 0; changed = 0; awaited = None; closing = false }

-- What becomes of a link, if there is one at the index: it is another one then, and nothing else changes. Where there is none nothing
-- does, and the answer is false.
abbrev pub At : (LinkState → Bool → LinkState → Type 0) → ℕ → Option LinkState → LinkStatesView → Bool → LinkStatesView → Type 0
At becomes index None old answer new = (answer ≡ false) × (new ≡ old)
At becomes index (Some l) old answer new = (m : LinkState) × becomes l answer m × (new ≡ record old { links = slice_set old.links index m })

-- a link becomes what a function makes of it
abbrev pub ByFunction : (LinkState → LinkState) → ℕ → Option LinkState → LinkStatesView → LinkStatesView → Type 0
ByFunction f index None old new = new ≡ old
ByFunction f index (Some l) old new = new ≡ record old { links = slice_set old.links index (f l) }

-- the Up of a session of a link is about to be entered, unless the router is being closed
abbrev pub OpensIf : Bool → ℕ → LinkStatesView → Bool → LinkStatesView → Type 0
OpensIf true index old opens new = (opens ≡ false) × (new ≡ old)
OpensIf false index old opens new = (opens ≡ true) × ByFunction changing_more index (slice_get old.links index) old new

abbrev pub OpensAt : ℕ → LinkStatesView → Bool → LinkStatesView → Type 0
OpensAt index old opens new = OpensIf old.closing index old opens new

-- it is entered, or was refused; or the Down of a session is
abbrev pub EndsChangeAt : ℕ → LinkStatesView → LinkStatesView → Type 0
EndsChangeAt index old new = ByFunction changing_less index (slice_get old.links index) old new

-- an Up or a Down of some link is being entered
abbrev pub is_changing : List LinkState → Bool
is_changing links = list_any (λ l. nat_lt 0 l.changing) links

-- a session of a link begins, unless the router is being closed
abbrev pub BeginsIf : Bool → ℕ → ℕ → ℕ → LinkStatesView → Bool → LinkStatesView → Type 0
BeginsIf true index session at old began new = (began ≡ false) × (new ≡ old)
BeginsIf false index session at old began new = At (Begins session at) index (slice_get old.links index) old began new

abbrev pub BeginsAt : ℕ → ℕ → ℕ → LinkStatesView → Bool → LinkStatesView → Type 0
BeginsAt index session at old began new = BeginsIf old.closing index session at old began new

-- it ends
abbrev pub EndsAt : ℕ → ℕ → LinkStatesView → Bool → LinkStatesView → Type 0
EndsAt index session old ended new = At (Ends session) index (slice_get old.links index) old ended new

-- its writer is woken
abbrev pub WakesAt : ℕ → LinkStatesView → Bool → LinkStatesView → Type 0
WakesAt index old woken new = At (Wakes old.changed) index (slice_get old.links index) old woken new

-- its writer sleeps
abbrev pub SleepsAt : ℕ → LinkStatesView → LinkStatesView → Type 0
SleepsAt index old new = ByFunction (λ l. record l { is_asleep = true }) index (slice_get old.links index) old new

-- the history is known to have the entry at a position
abbrev pub with_entry : ℕ → LinkStatesView → LinkStatesView
with_entry at b = record b { entries = max b.entries (at + 1) }

-- a Take for a link brought so many messages
abbrev pub TakesAt : ℕ → ℕ → ℕ → ℕ → LinkStatesView → LinkStatesView → Type 0
TakesAt index at taken most old new = ByFunction (λ l. record l { waiting = taken_at at taken most l.waiting }) index
    (slice_get old.links index) (with_entry at old) new

-- something was queued for a link
abbrev pub QueuesAt : ℕ → ℕ → LinkStatesView → LinkStatesView → Type 0
QueuesAt index at old new = ByFunction (λ l. record l { waiting = queued_at at l.waiting }) index (slice_get old.links index)
    (with_entry at old) new

-- the entry at a position changed a distance
abbrev pub with_change : ℕ → LinkStatesView → LinkStatesView
with_change at b = record b { entries = max b.entries (at + 1); changed = max b.changed (at + 1) }

-- an entry is noted by its reply: as one that changed a distance, if it did
abbrev pub noted : ℕ → Reply → LinkStatesView → LinkStatesView
noted at r b = if tells_all r then with_change at b else with_entry at b

-- a call of those who serve a link is noted: a Take by what it brought, of at most 16 messages
abbrev pub Serves : ℕ → ℕ → Reply → LinkStatesView → LinkStatesView → Type 0
Serves index at (reply.Messages messages) old new = TakesAt index at (length messages) 16 old new
Serves index at r old new = new ≡ noted at r old

-- something was queued for a node, if it has a link
abbrev pub QueuesFor : Option ℕ → ℕ → LinkStatesView → LinkStatesView → Type 0
QueuesFor None at old new = new ≡ with_entry at old
QueuesFor (Some index) at old new = QueuesAt index at old new

-- the export filter of a node was set, unless that was refused
abbrev pub Exports : ℕ → ℕ → Reply → LinkStatesView → LinkStatesView → Type 0
Exports node at (reply.Done changed) old new = QueuesFor (position (λ l. l.node == node) old.links) at old new
Exports node at r old new = new ≡ with_entry at old

-- the session of a link, and whether something waits there
abbrev pub session_in : Option LinkState → Option ℕ
session_in None = None
session_in (Some l) = l.session

abbrev pub session_at : LinkStatesView → ℕ → Option ℕ
session_at b index = session_in (slice_get b.links index)

abbrev pub waits_in : ℕ → Option LinkState → Bool
waits_in changed None = false
waits_in changed (Some l) = waits changed l.waiting

abbrev pub waits_at : LinkStatesView → ℕ → Bool
waits_at b index = waits_in b.changed (slice_get b.links index)

-- whether the writer of a link sleeps and is to be woken, and that of no link is
abbrev pub oversleeps_in : ℕ → Option LinkState → Bool
oversleeps_in changed None = false
oversleeps_in changed (Some l) = is_woken changed l

abbrev pub AllAwakeBelow : ℕ → LinkStatesView → Type 0
AllAwakeBelow n b = (index : ℕ) → index < n → oversleeps_in b.changed (slice_get b.links index) ≡ false

abbrev pub AllAwake : LinkStatesView → Type 0
AllAwake b = AllAwakeBelow (length b.links) b

-- who saves the history can sleep: no more entries are known than are saved, and the router is not being closed
abbrev pub can_rest : ℕ → LinkStatesView → Bool
can_rest saved b = nat_le b.entries saved && not b.closing

abbrev pub awaits : Bool → ℕ → Option ℕ
awaits true saved = Some saved
awaits false saved = None

-- who saves the history is woken, if they sleep and there is more to save, or the router is being closed
abbrev pub WakesIf : Option ℕ → LinkStatesView → Bool → LinkStatesView → Type 0
WakesIf None old woken new = (woken ≡ false) × (new ≡ old)
WakesIf (Some saved) old woken new = (woken ≡ not (can_rest saved old))
    × (new ≡ record old { awaited = awaits (can_rest saved old) saved })

abbrev pub WakesSaver : LinkStatesView → Bool → LinkStatesView → Type 0
WakesSaver old woken new = WakesIf old.awaited old woken new
