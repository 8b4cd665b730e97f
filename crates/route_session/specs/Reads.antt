-- What a reader of a link does. (This project's own choice.)
use Rattle.std.specs.Prelude.{◌≡◌, ℕ, Option, Some, None, List, [], ◌∷◌, ◌++◌, length}
use Rattle.std.specs.List.{AllZip}
use Rattle.netchange_core.specs.declared.message.Message.{Message}
use Rattle.route_history.specs.declared.entry.Entry.{Entry}
use Rattle.route_session.specs.declared.ends.Cause.{Cause}
use Rattle.route_session.specs.declared.ends.Cause.TheVariants as cause
use Rattle.route_session.specs.declared.ends.ReadEnd.{ReadEnd}
use Rattle.route_session.specs.Calls.{Gained, IsCauseAt, IsCauseIn, receive}
use Rattle.route_session.specs.LinkTrace.{LinkTrace, grown}
use Rattle.slot_lock.specs.Passes.{Fragment}
use Rattle.slot_lock.specs.Passes.{RouterView}

-- the call is the Receive of this message
abbrev pub Receives : ℕ → Entry → Message → Type 0
Receives session e m = e.event ≡ receive session m

-- Each message that the link handed out was entered, once and in order, but for those that were lost at the end.
pub record Reads (session : ℕ) (old : Fragment) (t : LinkTrace) (calls : List Entry) (lost : List Message) (new : Fragment) (u : LinkTrace) : Type 0 where
  pub gained : Gained old calls new
  pub messages : List Message
  pub received : AllZip (Receives session) calls messages
  pub handed : u.handed ≡ grown t.handed (messages ++ lost)
  pub given : u.given ≡ t.given
  pub is_closed : u.closed ≡ t.closed

-- the one message that was handed out and not entered
pub record LosesOne (told : Option Message) (lost : List Message) : Type 0 where
  pub message : Message
  pub is_told : told ≡ Some message
  pub alone : lost ≡ message ∷ []

-- no message was lost
pub record LosesNone (told : Option Message) (lost : List Message) : Type 0 where
  pub is_told : told ≡ None
  pub none : lost ≡ []

-- one message was lost exactly where a call was refused
abbrev pub LosesBy : Cause → Option Message → List Message → Type 0
LosesBy cause.Full told lost = LosesOne told lost
LosesBy cause.Memory told lost = LosesOne told lost
LosesBy _ told lost = LosesNone told lost

-- a reader ended so
pub record IsReadBy (r : RouterView) (session : ℕ) (old : Fragment) (t : LinkTrace) (end : ReadEnd) (new : Fragment) (u : LinkTrace) : Type 0 where
  pub calls : List Entry
  pub lost : List Message
  pub reads : Reads session old t calls lost new u
  pub entered : length calls ≡ end.entered
  pub loses : LosesBy end.cause end.lost lost
  pub in_history : IsCauseIn end.cause r calls new
  pub at_link : IsCauseAt end.cause t u
