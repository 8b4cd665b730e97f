-- What the calls of a session add to what its pass knows, and why a session ends. (This project's own choice.)
use Rattle.std.specs.Prelude.{◌≡◌, ℕ, ◌+◌, ◌<◌, ◌≤◌, All, AllPairs, false, Some, List, [], ◌∷◌, ◌++◌, length, slice_get}
use Rattle.std.specs.List.{AllZip}
use Rattle.netchange_core.specs.declared.event.Event.{Event}
use Rattle.netchange_core.specs.declared.event.Event.TheVariants as event
use Rattle.netchange_core.specs.declared.message.Message.{Message}
use Rattle.netchange_core.specs.declared.reply.EventRefusal.TheVariants as refusal
use Rattle.netchange_core.specs.declared.reply.Reply.{Reply}
use Rattle.netchange_core.specs.declared.reply.Reply.TheVariants as reply
use Rattle.route_history.specs.declared.entry.Entry.{Entry}
use Rattle.route_history.specs.Beginning.{Begins}
use Rattle.route_history.specs.History.{IsLegal}
use Rattle.route_session.specs.declared.ends.Cause.{Cause}
use Rattle.route_session.specs.declared.ends.Cause.TheVariants as cause
use Rattle.route_session.specs.LinkTrace.{Rose, LinkTrace, ended_now}
use Rattle.slot_lock.specs.Passes.{Fragment}
use Rattle.slot_lock.specs.Passes.{IsOwn, IsPassOf, PassView, RouterView}

-- the event of a message that came in a session, and of taking at most 16 messages from its queue
abbrev pub receive : ℕ → Message → Event
receive session m = event.Receive session m.dest m.dist

abbrev pub take : ℕ → Event
take session = event.Take session 16

-- the entry stands in the history at this position
abbrev pub StandsAt : List Entry → ℕ → Entry → Type 0
StandsAt seen position e = slice_get seen position ≡ Some e

-- These calls, in this order, are what the caller's own calls grew by, and in this order they stand in the history, behind all that
-- it had seen. What it has seen goes on from before, and its shares are the same.
pub record Gained (old : Fragment) (calls : List Entry) (new : Fragment) : Type 0 where
  pub positions : List ℕ
  pub mine : new.mine ≡ old.mine ++ positions
  pub stand : AllZip (StandsAt new.seen) positions calls
  pub rising : AllPairs (λ a b. a < b) positions
  pub after : All (λ position. length old.seen ≤ position) positions
  pub begins : Begins old.seen new.seen
  pub failed_tries : old.failed_tries ≤ new.failed_tries
  pub shares : new.shares ≡ old.shares

-- what was right of a pass stays right: it is one of the router, its positions are its own, and what it has seen is legal
pub record StaysSound (r : RouterView) (old new : PassView) : Type 0 where
  pub of : IsPassOf r new
  pub own : IsOwn old.fragment → IsOwn new.fragment
  pub legal : IsLegal r.opening old.fragment.seen → IsLegal r.opening new.fragment.seen

-- the reply does not say that the session is over, and neither does that of a call
abbrev pub stale : Reply
stale = reply.Refused refusal.Stale

abbrev pub IsFresh : Entry → Type 0
IsFresh e = e.reply ≡ stale → ⊥

-- the last call was refused because the session is over, and no earlier one was
pub record EndsStale (calls : List Entry) : Type 0 where
  pub before : List Entry
  pub last : Entry
  pub calls_are : calls ≡ before ++ last ∷ []
  pub stale_at_last : last.reply ≡ stale
  pub fresh_before : All IsFresh before

-- what a cause says of the calls, and of the history that the pass has seen
abbrev pub IsCauseIn : Cause → RouterView → List Entry → Fragment → Type 0
IsCauseIn cause.Stale r calls new = EndsStale calls
IsCauseIn cause.Full r calls new = All IsFresh calls × (length new.seen ≡ new.forgot + r.limit) × (r.endless ≡ false → new.forgot ≡ 0)
IsCauseIn _ r calls new = All IsFresh calls

-- what a cause says of the link: it answered that it has ended, or it failed, or neither
abbrev pub IsCauseAt : Cause → LinkTrace → LinkTrace → Type 0
IsCauseAt cause.LinkEnded t u = (u.ended ≡ ended_now t.ended) × (u.failures ≡ t.failures)
IsCauseAt cause.LinkFault t u = (u.ended ≡ t.ended) × Rose t.failures u.failures
IsCauseAt _ t u = (u.ended ≡ t.ended) × (u.failures ≡ t.failures)
