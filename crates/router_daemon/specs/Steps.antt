-- What is noted of a link. (This project's own choice.)
use Rattle.std.specs.Prelude.{◌≡◌, ◌≢◌, ℕ, ◌+◌, ◌-◌, ◌^◌, ◌&&◌, ◌||◌, ◌⊎◌, min, max, nat_lt, Bool, true, false, if◌then◌else◌, Option, Some, None, MatchBool}
use Rattle.router_daemon.specs.declared.link_state.LinkState.{LinkState}
use Rattle.router_daemon.specs.declared.waiting.Waiting.{Waiting}

-- Something may wait: after the queue was last seen to be empty something was queued for this neighbour, or a distance changed, which
-- queues something for each. All three are numbers of entries that the history had.
abbrev pub waits : ℕ → Waiting → Bool
waits changed w = nat_lt w.emptied w.queued || nat_lt w.emptied changed

-- something was queued by the entry at a position
abbrev pub queued_at : ℕ → Waiting → Waiting
queued_at at w = record w { queued = max w.queued (at + 1) }

-- a Take of at most so many messages, at a position, brought so many: if it brought fewer, nothing was left
abbrev pub taken_at : ℕ → ℕ → ℕ → Waiting → Waiting
taken_at at taken most w = if nat_lt taken most then record w { emptied = max w.emptied (at + 1) } else w

-- a link to a node, without a session
abbrev pub link_to : ℕ → LinkState
link_to node = record { node = node; session = None; waiting = record { queued = 0; emptied = 0 }; is_asleep = false; changing = 0 }

-- One more Up or Down of a link is being entered, and one is entered or was refused. So many are on their way at once, and none is
-- overlooked while another one ends.
abbrev pub changing_more : LinkState → LinkState
changing_more l = record l { changing = min (l.changing + 1) (2 ^ 32 - 1) }

abbrev pub changing_less : LinkState → LinkState
changing_less l = record l { changing = l.changing - 1 }

-- A session begins, whose Up is entered and stands at a position: its first messages wait. Where one is there already nothing is done, so
-- there are never two.
abbrev pub Begins : ℕ → ℕ → LinkState → Bool → LinkState → Type 0
Begins session at old began new = MatchBool began
    ((old.session ≡ None) × (new ≡ record old { session = Some session; waiting = queued_at at old.waiting; changing = old.changing - 1 }))
    ((old.session ≢ None) × (new ≡ old))

-- a session ends, if it is the one that is there: so it ends once, and its Down is to be entered
abbrev pub Ends : ℕ → LinkState → Bool → LinkState → Type 0
Ends session old ended new = MatchBool ended
    ((old.session ≡ Some session) × (new ≡ changing_more (record old { session = None })))
    ((old.session ≢ Some session) × (new ≡ old))

abbrev pub has_session : Option ℕ → Bool
has_session None = false
has_session (Some session) = true

-- a writer that sleeps is woken where something waits, or its session is over
abbrev pub is_woken : ℕ → LinkState → Bool
is_woken changed l = l.is_asleep && (waits changed l.waiting || (if has_session l.session then false else true))

abbrev pub Wakes : ℕ → LinkState → Bool → LinkState → Type 0
Wakes changed old woken new = (woken ≡ is_woken changed old)
    × (new ≡ record old { is_asleep = if is_woken changed old then false else old.is_asleep })
