-- The sessions of a link, each from the greeting to the Down. (This project's own choice.)
use Rattle.std.specs.Prelude.{◌≡◌, ◌⊎◌, ℕ, ◌-◌, ◌≤◌, true, [], Option, ⊤, is_some}
use Rattle.link_handshake.specs.declared.post.CameUp.{CameUp}
use Rattle.link_handshake.specs.declared.said.Said.{Said}
use Rattle.message_streams.specs.Views.{ReaderView}
use Rattle.neighbour_session.specs.Calls.{IsUnopened, Opens}
use Rattle.neighbour_session.specs.Ending.{GoesDown}
use Rattle.neighbour_session.specs.Greeting.{IsUnmet}
use Rattle.neighbour_session.specs.Greeting.{Meets as ComesUp}
use Rattle.neighbour_session.specs.Reading.{Hears}
use Rattle.neighbour_session.specs.declared.ends.SessionEnd.{SessionEnd}
use Rattle.neighbour_session.specs.declared.ends.SessionEnd.TheVariants as end
use Rattle.neighbour_session.specs.declared.greeting.Domain.{Domain}
use Rattle.route_history.specs.declared.fault.CallFault.TheVariants as fault
use Rattle.slot_lock.specs.Calls.{Refused}
use Rattle.slot_lock.specs.Passes.{Fragment, PassView, RouterView}
use Rattle.slot_lock.specs.declared.answer.Answer.{Answer}
use Rattle.router_daemon.specs.Passes.{TakesBack}

-- a pass that gave one share away
abbrev pub one_less : PassView → PassView
one_less p = record p { fragment = record p.fragment { shares = p.fragment.shares - 1 } }

-- the part that was given away: it has that share, has seen the same, and nothing was called by it
abbrev pub part_of : PassView → Fragment
part_of p = record { seen = p.fragment.seen; mine = []; failed_tries = 0; shares = 1; forgot = p.fragment.forgot }

-- A session whose Up was entered is over: it went down with nobody to serve it; or anybody entered what the neighbour said, and its Down.
abbrev pub IsOver : RouterView → ℕ → ReaderView → PassView → SessionEnd → PassView → Type 0
IsOver r session input old why new =
    GoesDown r session end.NotStarted old why new ⊎ ((left : ReaderView) × Hears true (λ _. ⊤) (λ _. ⊤) r session old input why new left)

-- until a pass is so, calls were made that a full history had no room for; or none was
abbrev pub HasWaited : RouterView → PassView → PassView → Type 0
HasWaited r old new = (new ≡ old) ⊎ Refused fault.Full r old new

-- the Up of a node opened a session, once there was room for it
pub record OpensLater (r : RouterView) (node : ℕ) (old : PassView) (session : ℕ) (a : Answer) (new : PassView) : Type 0 where
  pub mid : PassView
  pub waited : HasWaited r old mid
  pub opens : Opens r node mid session a new

-- or none: a full history is no reason
pub record OpensNever (r : RouterView) (node : ℕ) (old : PassView) (why : SessionEnd) (new : PassView) : Type 0 where
  pub mid : PassView
  pub waited : HasWaited r old mid
  pub unopened : IsUnopened why r node mid new
  pub passes : why ≡ end.Full → ⊥
  pub shares : new.fragment.shares ≡ old.fragment.shares

-- Up was entered, in the answer to which the router opened a session. Then one share of the pass is the writer's, by which nothing was called.
-- In the end the session goes down. No other share is missing: no part of the pass was split off, used and let go.
pub record HasSession (r : RouterView) (neighbour : ℕ) (input : ReaderView) (old : PassView) (why : SessionEnd) (new : PassView) : Type 0 where
  pub session : ℕ
  pub answer : Answer
  pub up : PassView
  pub opens : Opens r neighbour old session answer up
  pub writing : PassView
  pub part : writing.fragment ≡ part_of up
  pub over : IsOver r session input (one_less up) why new
  pub shares : new.fragment.shares ≡ old.fragment.shares - 1

-- what becomes of a neighbour that greeted as it has to: its Up opens no session, or one that is served
abbrev pub IsServed : RouterView → ℕ → ReaderView → PassView → SessionEnd → PassView → Type 0
IsServed r neighbour input old why new =
    OpensNever r neighbour old why new ⊎ ((mid : PassView) × HasWaited r old mid × HasSession r neighbour input mid why new)

-- It was served, and the pass of who wrote came back, and with it the share that it had.
pub record ServesNeighbour (r : RouterView) (neighbour : ℕ) (input : ReaderView) (old : PassView) (why : SessionEnd) (new : PassView) : Type 0 where
  pub mid : PassView
  pub served : IsServed r neighbour input old why mid
  pub back : TakesBack mid new
  pub shares : old.fragment.shares ≤ new.fragment.shares

-- the end of the link came up, on a greeting of the neighbour that answered its present attempt, and then the neighbour was served
pub record Meets (r : RouterView) (d : Domain) (neighbour : ℕ) (input : ReaderView) (first : Option Said) (old : PassView) (why : SessionEnd)
    (new : PassView) : Type 0 where
  pub meeting : CameUp
  pub i : ReaderView
  pub meets : ComesUp d neighbour first input meeting i
  pub serves : ServesNeighbour r neighbour i old why new

-- the pass has no share that it could give to a writer: no session is begun
pub record LacksShares (old : PassView) (why : SessionEnd) (new : PassView) : Type 0 where
  pub few : old.fragment.shares ≤ 1
  pub why_is : why ≡ end.NotStarted
  pub unchanged : new ≡ old

-- the neighbour did not greet as it has to: nothing is entered
pub record IsTurnedAway (d : Domain) (neighbour : ℕ) (old : PassView) (why : SessionEnd) (new : PassView) : Type 0 where
  pub i : ReaderView
  pub unmet : IsUnmet why d neighbour i
  pub unchanged : new ≡ old

-- A reload may give a domain another digest. One is wanted of neighbours if one was at the start.
pub record IsSince (start now : Domain) : Type 0 where
  pub size : now.size ≡ start.size
  pub me : now.me ≡ start.me
  pub wanted : is_some now.digest ≡ is_some start.digest

-- One session of a link: with a pass of one share there is none; of a neighbour that does not greet as it has to, in the domain as it is then, nothing
-- is entered.
abbrev pub Serves : RouterView → Domain → ℕ → ReaderView → Option Said → PassView → SessionEnd → PassView → Type 0
Serves r start neighbour input first old why new = LacksShares old why new
    ⊎ ((d : Domain) × IsSince start d × (IsTurnedAway d neighbour old why new ⊎ Meets r d neighbour input first old why new))

-- One of them was the last over its streams.
pub record ServesLast (r : RouterView) (d : Domain) (neighbour : ℕ) (why : SessionEnd) : Type 0 where
  pub input : ReaderView
  pub first : Option Said
  pub old : PassView
  pub new : PassView
  pub serves : Serves r d neighbour input first old why new
