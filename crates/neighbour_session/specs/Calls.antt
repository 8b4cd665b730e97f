-- The calls that begin and end a session. (This project's own choice.)
use Rattle.std.specs.Prelude.{◌≡◌, ℕ}
use Rattle.netchange_core.specs.declared.event.Event.TheVariants as event
use Rattle.netchange_core.specs.declared.reply.EventRefusal.{EventRefusal}
use Rattle.netchange_core.specs.declared.reply.Reply.TheVariants as reply
use Rattle.route_history.specs.declared.fault.CallFault.{CallFault}
use Rattle.route_history.specs.declared.fault.CallFault.TheVariants as fault
use Rattle.slot_lock.specs.Calls.{Answered, Refused}
use Rattle.slot_lock.specs.Passes.{PassView, RouterView}
use Rattle.slot_lock.specs.declared.answer.Answer.{Answer}
use Rattle.neighbour_session.specs.declared.ends.SessionEnd.{SessionEnd}
use Rattle.neighbour_session.specs.declared.ends.SessionEnd.TheVariants as end

-- what a call that was not entered says of a session
abbrev pub end_of : CallFault → SessionEnd
end_of fault.Full = end.Full
end_of fault.Memory = end.Memory

-- Up of a node was entered, and answered with a session
pub record Opens (r : RouterView) (node : ℕ) (old : PassView) (session : ℕ) (a : Answer) (new : PassView) : Type 0 where
  pub entered : Answered r old (event.Up node) a new
  pub session_is : a.reply ≡ reply.Opened session

-- it was entered, and refused
pub record OpensNone (r : RouterView) (node : ℕ) (old new : PassView) : Type 0 where
  pub answer : Answer
  pub entered : Answered r old (event.Up node) answer new
  pub why : EventRefusal
  pub refused : answer.reply ≡ reply.Refused why

-- why no session was opened: the router refused it; or nothing was entered
abbrev pub IsUnopened : SessionEnd → RouterView → ℕ → PassView → PassView → Type 0
IsUnopened end.Refused r node old new = OpensNone r node old new
IsUnopened end.Full r node old new = Refused fault.Full r old new
IsUnopened end.Memory r node old new = Refused fault.Memory r old new
IsUnopened _ r node old new = ⊥

-- Down of a session was entered
abbrev pub Closes : RouterView → ℕ → PassView → Answer → PassView → Type 0
Closes r session old a new = Answered r old (event.Down session) a new

-- it was not entered: why the session is over then
abbrev pub IsUnclosed : SessionEnd → RouterView → PassView → PassView → Type 0
IsUnclosed end.Full r old new = Refused fault.Full r old new
IsUnclosed end.Memory r old new = Refused fault.Memory r old new
IsUnclosed _ r old new = ⊥
