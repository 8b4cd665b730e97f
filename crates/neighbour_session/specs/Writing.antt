-- What who writes to a neighbour does. (This project's own choice.)
use Rattle.std.specs.Prelude.{◌≡◌, ◌⊎◌, ℕ, ◌-◌, ◌^◌, min, Bool, true, false, ⊤, List, Option, None, slice_get}
use Rattle.std.specs.Io.KnownBytes.{Appends}
use Rattle.message_streams.specs.Views.{WriterView}
use Rattle.route_session.specs.declared.ends.Cause.{Cause}
use Rattle.route_session.specs.declared.ends.Cause.TheVariants as cause
use Rattle.route_session.specs.declared.ends.WriteEnd.{WriteEnd}
use Rattle.route_session.specs.LinkTrace.{LinkTrace}
use Rattle.route_session.specs.Writes.{LeavesOut}
use Rattle.slot_lock.specs.Passes.{PassView, RouterView}
use Rattle.neighbour_session.specs.Ending.{Ends}
use Rattle.neighbour_session.specs.Links.{TearsLine, output_view}
use Rattle.neighbour_session.specs.Said.{AreLines}
use Rattle.neighbour_session.specs.Waiting.{IsFullEnd}
use Rattle.neighbour_session.specs.declared.ends.SessionEnd.{SessionEnd}
use Rattle.neighbour_session.specs.declared.ends.SessionEnd.TheVariants as end

-- what a link over one stream that is written tells at first
abbrev pub told_to : WriterView → LinkTrace
told_to output = (output_view output output output None false 0 false).told

-- why a writer's session is over, where it did not use up its turns: a line was not written, or a call was refused
abbrev pub IsWriterStopped : Bool → Cause → SessionEnd → Type 0
IsWriterStopped waits cause.Turns why = ⊥
IsWriterStopped waits cause.LinkEnded why = why ≡ end.Unwritten
IsWriterStopped waits cause.LinkFault why = why ≡ end.Unwritten
IsWriterStopped waits cause.Stale why = why ≡ end.Closed
IsWriterStopped waits cause.Full why = (why ≡ end.Full) × (waits ≡ false)
IsWriterStopped waits cause.Memory why = why ≡ end.Memory

-- it goes on, if the session is there, where it used up its turns, and where it waits until the history has room
abbrev pub WriterGoesOn : Bool → Cause → Type 0
WriterGoesOn waits cause.Turns = ⊤
WriterGoesOn waits cause.Full = waits ≡ true
WriterGoesOn waits _ = ⊥

-- an empty line was not written
abbrev pub IsUnwrittenEnd : WriterView → SessionEnd → Type 0
IsUnwrittenEnd later why = (why ≡ end.Unwritten) × (later.over ≡ true)

-- And where it used up its turns: the session was said not to be there, or an empty line was not written. A full history ends no session whose
-- writer waits, but for the same two reasons.
abbrev pub IsWriterOver : Bool → (Bool → Type 0) → Cause → WriterView → SessionEnd → Type 0
IsWriterOver waits may_be_present cause.Turns later why = ((why ≡ end.Closed) × may_be_present false) ⊎ IsUnwrittenEnd later why
IsWriterOver waits may_be_present cause.Full later why = IsFullEnd waits may_be_present why ⊎ ((waits ≡ true) × IsUnwrittenEnd later why)
IsWriterOver waits may_be_present c later why = IsWriterStopped waits c why

-- What the router queued was taken, and the neighbour's stream got the lines of it, each in its turn, and empty ones, but for the messages that a later one
-- of the same Take about the same node follows: so many were left out. Then, for a reason, the writer ended. Besides, what was taken and not
-- written is none, but where a line was not written: then the stream got a front of the line of the first of it, or nothing of that.
pub record WritesOut (waits : Bool) (may_be_present : Bool → Type 0) (r : RouterView) (session : ℕ) (old : PassView) (output : WriterView)
    (why : SessionEnd) (new : PassView) (later : WriterView) (left_out : ℕ) : Type 0 where
  pub end : WriteEnd
  pub last : LinkTrace
  pub count : ℕ
  pub written : LeavesOut true r session old.fragment (told_to output) end count new.fragment last
  pub counted : left_out ≡ min count (2 ^ 64 - 1)
  pub held : Option (List ℕ)
  pub lines : AreLines (Appends output.held held) last.given
  pub after : TearsLine (slice_get end.unsent 0) held later.held
  pub because : IsWriterOver waits may_be_present end.cause later why

-- and the session with it
pub record Serves (waits : Bool) (may_be_present may_be_first : Bool → Type 0) (r : RouterView) (session : ℕ) (old : PassView) (output : WriterView)
    (result : SessionEnd) (new : PassView) (later : WriterView) (left_out : ℕ) : Type 0 where
  pub before : PassView
  pub why : SessionEnd
  pub writes : WritesOut waits may_be_present r session old output why before later left_out
  pub ends : Ends may_be_first r session why before result new
