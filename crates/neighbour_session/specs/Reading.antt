-- What who reads a neighbour does. (This project's own choice.)
use Rattle.std.specs.Prelude.{◌≡◌, ℕ, Bool, false, Option, None, Some}
use Rattle.message_streams.specs.Views.{ReaderView}
use Rattle.route_session.specs.declared.ends.Cause.{Cause}
use Rattle.route_session.specs.declared.ends.Cause.TheVariants as cause
use Rattle.route_session.specs.declared.ends.ReadEnd.{ReadEnd}
use Rattle.route_session.specs.Reads.{IsReadBy}
use Rattle.route_session.specs.LinkTrace.{LinkTrace}
use Rattle.slot_lock.specs.Passes.{PassView, RouterView}
use Rattle.neighbour_session.specs.Ending.{Ends}
use Rattle.neighbour_session.specs.Links.{ReadsLines, input_view}
use Rattle.neighbour_session.specs.Waiting.{IsFullEnd, full_end}
use Rattle.neighbour_session.specs.declared.ends.SessionEnd.{SessionEnd}
use Rattle.neighbour_session.specs.declared.ends.SessionEnd.TheVariants as end

-- what a link over one stream that is read tells at first
abbrev pub told_by : ReaderView → LinkTrace
told_by input = (input_view input input input None false 0 false).told

-- why a session is over whose link hands out no more
abbrev pub link_end : Option SessionEnd → SessionEnd
link_end None = end.Closed
link_end (Some why) = why

-- why a reader's session is over, where it did not use up its turns: the neighbour's stream, or a call that was refused
abbrev pub IsReaderStopped : Bool → Cause → Option SessionEnd → SessionEnd → Type 0
IsReaderStopped waits cause.Turns over why = ⊥
IsReaderStopped waits cause.LinkEnded over why = why ≡ link_end over
IsReaderStopped waits cause.LinkFault over why = why ≡ link_end over
IsReaderStopped waits cause.Stale over why = why ≡ end.Closed
IsReaderStopped waits cause.Full over why = why ≡ full_end waits
IsReaderStopped waits cause.Memory over why = why ≡ end.Memory

-- And where it did: the session was said not to be there. A full history ends no session whose reader waits: it was said not to be there either.
abbrev pub IsReaderOver : Bool → (Bool → Type 0) → Cause → Option SessionEnd → SessionEnd → Type 0
IsReaderOver waits may_be_present cause.Turns over why = (why ≡ end.Closed) × may_be_present false
IsReaderOver waits may_be_present cause.Full over why = IsFullEnd waits may_be_present why
IsReaderOver waits may_be_present c over why = IsReaderStopped waits c over why

-- Each message that the lines of the neighbour's stream say was entered, once and in order; then, for a reason, the reader ended, and the
-- stream was left so. A message was lost only where the history is full or memory was refused; where the reader waits for room, a full
-- history loses one only if the session was ended meanwhile.
pub record ReadsOut (waits : Bool) (may_be_present : Bool → Type 0) (r : RouterView) (session : ℕ) (old : PassView) (input : ReaderView)
    (why : SessionEnd) (new : PassView) (left : ReaderView) : Type 0 where
  pub end : ReadEnd
  pub last : LinkTrace
  pub read : IsReadBy r session old.fragment (told_by input) end new.fragment last
  pub over : Option SessionEnd
  pub lines : ReadsLines input last.handed over left
  pub because : IsReaderOver waits may_be_present end.cause over why

-- and the session with it
pub record Hears (waits : Bool) (may_be_present may_be_first : Bool → Type 0) (r : RouterView) (session : ℕ) (old : PassView)
    (input : ReaderView) (result : SessionEnd) (new : PassView) (left : ReaderView) : Type 0 where
  pub before : PassView
  pub why : SessionEnd
  pub reads : ReadsOut waits may_be_present r session old input why before left
  pub ends : Ends may_be_first r session why before result new
