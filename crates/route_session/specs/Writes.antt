-- What a writer to a link does. (This project's own choice.)
use Rattle.std.specs.Prelude.{◌≡◌, ℕ, ◌+◌, All, Bool, true, false, List, [], ◌∷◌, ◌++◌, flat_map, length}
use Rattle.netchange_core.specs.declared.message.Message.{Message}
use Rattle.netchange_core.specs.Calls.{carried}
use Rattle.route_history.specs.declared.entry.Entry.{Entry}
use Rattle.route_session.specs.declared.ends.Cause.{Cause}
use Rattle.route_session.specs.declared.ends.Cause.TheVariants as cause
use Rattle.route_session.specs.declared.ends.WriteEnd.{WriteEnd}
use Rattle.route_session.specs.Calls.{Gained, IsCauseAt, IsCauseIn, take}
use Rattle.route_session.specs.LinkTrace.{Rose, LinkTrace, grown, refuse_first}
use Rattle.routing_domain.specs.Batches.{is_replaced, newest}
use Rattle.slot_lock.specs.Passes.{Fragment, RouterView}

-- the call takes messages of this session
abbrev pub Takes : ℕ → Entry → Type 0
Takes session e = e.event ≡ take session

abbrev pub carried_by : Entry → List Message
carried_by e = carried e.reply

-- What is told of the messages of one reply: all of them, or the newest alone, which no later one of them about the same node follows.
abbrev pub messages_sent : Bool → List Message → List Message
messages_sent false messages = messages
messages_sent true messages = newest messages

abbrev pub told_by : Bool → Entry → List Message
told_by newest_only e = messages_sent newest_only (carried_by e)

-- Each call takes messages of the session. What is told of the replies, one after another, is what the link accepted, and then what is
-- left unsent, of which it did not take the first.
pub record Writes (newest_only : Bool) (session : ℕ) (old : Fragment) (t : LinkTrace) (calls : List Entry) (accepted unsent : List Message)
    (new : Fragment) (u : LinkTrace) : Type 0 where
  pub gained : Gained old calls new
  pub takes : All (Takes session) calls
  pub taken : flat_map (told_by newest_only) calls ≡ accepted ++ unsent
  pub given : u.given ≡ grown t.given accepted
  pub refused : u.first_refused ≡ refuse_first t.first_refused unsent
  pub handed : u.handed ≡ t.handed
  pub is_closed : u.closed ≡ t.closed

-- messages are left unsent exactly where the link failed; and a writer does not end because the link has ended
abbrev pub LeavesBy : Cause → List Message → Type 0
LeavesBy cause.LinkFault unsent = unsent ≡ [] → ⊥
LeavesBy cause.LinkEnded unsent = ⊥
LeavesBy _ unsent = unsent ≡ []

-- a writer ended so, of all messages or of the newest alone
pub record IsWrittenAs (newest_only : Bool) (r : RouterView) (session : ℕ) (old : Fragment) (t : LinkTrace) (end : WriteEnd) (new : Fragment)
    (u : LinkTrace) : Type 0 where
  pub calls : List Entry
  pub accepted : List Message
  pub writes : Writes newest_only session old t calls accepted end.unsent new u
  pub sent : length accepted ≡ end.sent
  pub leaves : LeavesBy end.cause end.unsent
  pub in_history : IsCauseIn end.cause r calls new
  pub at_link : IsCauseAt end.cause t u

-- of all messages
abbrev pub IsWrittenBy : RouterView → ℕ → Fragment → LinkTrace → WriteEnd → Fragment → LinkTrace → Type 0
IsWrittenBy r session old t end new u = IsWrittenAs false r session old t end new u

-- and so many messages were left out: what the replies carried, and was neither accepted nor left unsent
pub record LeavesOut (newest_only : Bool) (r : RouterView) (session : ℕ) (old : Fragment) (t : LinkTrace) (end : WriteEnd) (left_out : ℕ)
    (new : Fragment) (u : LinkTrace) : Type 0 where
  pub written : IsWrittenAs newest_only r session old t end new u
  pub counted : left_out + (end.sent + length end.unsent) ≡ length (flat_map carried_by written.calls)

-- whether a later message is about the same node as the first of these
abbrev pub is_first_replaced : List Message → Bool
is_first_replaced [] = false
is_first_replaced (m ∷ later) = is_replaced m later

-- messages are given to a link in order: what it accepted, and then what is left, which is none unless it failed at the first of it
pub record Hands (t : LinkTrace) (messages unsent : List Message) (u : LinkTrace) : Type 0 where
  pub accepted : List Message
  pub in_order : messages ≡ accepted ++ unsent
  pub given : u.given ≡ grown t.given accepted
  pub refused : u.first_refused ≡ refuse_first t.first_refused unsent
  pub handed : u.handed ≡ t.handed
  pub is_closed : u.closed ≡ t.closed
  pub ended : u.ended ≡ t.ended
  pub sent_all : unsent ≡ [] → u.failures ≡ t.failures
  pub failed : (unsent ≡ [] → ⊥) → Rose t.failures u.failures
