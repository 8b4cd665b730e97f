-- What becomes of a link. (This project's own choice.)
use Rattle.std.specs.Prelude.{◌≡◌, ◌⊎◌, ⊤, ℕ, Bool, true, false, List, Option, None, Some, string_bytes}
use Rattle.message_streams.specs.Views.{ReaderView, WriterView}
use Rattle.neighbour_session.specs.Calls.{Closes}
use Rattle.neighbour_session.specs.Ending.{Ends}
use Rattle.neighbour_session.specs.Words.{can_be_opened_again}
use Rattle.neighbour_session.specs.declared.ends.SessionEnd.{SessionEnd}
use Rattle.neighbour_session.specs.declared.ends.SessionEnd.TheVariants as end
use Rattle.neighbour_session.specs.declared.greeting.Domain.{Domain}
use Rattle.route_history.specs.declared.fault.CallFault.{CallFault}
use Rattle.router_options.specs.declared.parts.LinkFiles.{LinkFiles}
use Rattle.slot_lock.specs.Calls.{Refused}
use Rattle.slot_lock.specs.Passes.{PassView, RouterView}
use Rattle.slot_lock.specs.declared.answer.Answer.{Answer}
use Rattle.router_daemon.specs.Retries.{reopens, wait_before}
use Rattle.router_daemon.specs.Sessions.{ServesLast}

-- the Down of a session was entered
abbrev pub IsDownEntered : RouterView → ℕ → PassView → PassView → Type 0
IsDownEntered r session old new = (a : Answer) × Closes r session old a new

-- or it is owed still: memory was refused, or the history is full
abbrev pub IsOwed : RouterView → PassView → PassView → Type 0
IsOwed r old new = (why : CallFault) × Refused why r old new

-- A link whose neighbour was silent for its HOLD, of so many seconds, has no session, and nothing is entered; or it is ended: who is the first to
-- end it enters its Down, once, and who is not enters nothing.
abbrev pub EndsSilent : RouterView → ℕ → PassView → PassView → Type 0
EndsSilent r hold old new =
    (new ≡ old) ⊎ ((session : ℕ) × (why : SessionEnd) × Ends (λ _. ⊤) r session (end.Silent hold) old why new)

-- streams that nobody used
pub record AreFresh (input : ReaderView) (output : WriterView) : Type 0 where
  pub line : input.line ≡ 0
  pub readable : input.end ≡ None
  pub writable : output.over ≡ false

-- its files are opened, and sessions are served over them; the last one says whether the link can be opened again
pub record Opens (r : RouterView) (d : Domain) (neighbour : ℕ) (again : Bool) : Type 0 where
  pub why : SessionEnd
  pub last : ServesLast r d neighbour why
  pub again_is : again ≡ can_be_opened_again true why

-- A file was asked for to be read, and is not: it was not opened, or there is no memory to read it. `may_read` says what may be answered
-- where a file is to be read, `may_write` where it is to be written: whether it is opened.
abbrev pub IsUnreadable : (List ℕ → Bool → Type 0) → List ℕ → Type 0
IsUnreadable may_read name = may_read name false ⊎ may_read name true

-- so it was with the file that a neighbour's lines come from; or the one for the router's was not opened
abbrev pub IsUnopened : (List ℕ → Bool → Type 0) → (List ℕ → Bool → Type 0) → LinkFiles → Type 0
IsUnopened may_read may_write files = IsUnreadable may_read (string_bytes files.input) ⊎ may_write (string_bytes files.output) false

-- a link is opened once, or one of its files was not opened, and nothing is entered
abbrev pub KeepsOnce : (List ℕ → Bool → Type 0) → (List ℕ → Bool → Type 0) → RouterView → Domain → LinkFiles → PassView → Bool → PassView → Type 0
KeepsOnce may_read may_write r d files old again new =
    Opens r d files.node again ⊎ (IsUnopened may_read may_write files × (again ≡ true) × (new ≡ old))

-- A link is opened once. What that came to and `--retry` alone decide whether it is opened again, and after how many seconds, besides how long it
-- waited before and whether the session was a long one.
abbrev pub KeepsTurn : (List ℕ → Bool → Type 0) → (List ℕ → Bool → Type 0) → RouterView → Domain → LinkFiles → Option ℕ → Option ℕ → PassView →
    Option ℕ → Type 0
KeepsTurn may_read may_write r d files retry before old wait =
    (again : Bool) × (mid : PassView) × KeepsOnce may_read may_write r d files old again mid
    × (is_long : Bool) × (wait ≡ reopens retry again (wait_before is_long before))

-- A link stays closed after such a turn.
abbrev pub StaysClosed : (List ℕ → Bool → Type 0) → (List ℕ → Bool → Type 0) → RouterView → Domain → LinkFiles → Option ℕ → Type 0
StaysClosed may_read may_write r d files retry =
    (before : Option ℕ) × (old : PassView) × KeepsTurn may_read may_write r d files retry before old None
