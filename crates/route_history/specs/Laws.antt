-- Laws of every legal history. (This project's own choice.)
use Rattle.std.specs.Prelude.{◌≡◌, ℕ, ◌≤◌, Some, List, ◌++◌, length}
use Rattle.netchange_core.specs.declared.event.Event.{Event}
use Rattle.netchange_core.specs.declared.event.Event.TheVariants as event
use Rattle.netchange_core.specs.declared.message.Message.{Message}
use Rattle.netchange_core.specs.Calls.{carried, session_of}
use Rattle.netchange_core.specs.OpeningView.{OpeningView}
use Rattle.netchange_core.specs.World.{neighbour_at}
use Rattle.route_history.specs.declared.entry.Entry.{Entry}
use Rattle.route_history.specs.Beginning.{Begins}
use Rattle.route_history.specs.History.{IsLegal, world_of}
use Rattle.route_history.specs.Sent.{sent, taken}

-- What a session took begins what it was sent. While it is the present session of a node, what it was sent is what it took
-- and then what waits for the node. Once it is over, both stay, whatever the history goes on with.
pub record TakesWhatWasSent (opening : OpeningView) (es : List Entry) (s : ℕ) : Type 0 where
  pub begins : Begins (taken es s) (sent opening es s)
  pub waits : (k : ℕ) → session_of (world_of opening es) k ≡ Some s →
      sent opening es s ≡ taken es s ++ (neighbour_at (world_of opening es).neighbours k).queue
  pub stays : s ≤ (world_of opening es).sessions → ((k : ℕ) → session_of (world_of opening es) k ≡ Some s → ⊥) →
      (more : List Entry) → IsLegal opening (es ++ more) →
      (sent opening (es ++ more) s ≡ sent opening es s) × (taken (es ++ more) s ≡ taken es s)

-- the reply to a Take has at most as many messages as were asked for
abbrev pub TakesAtMost : Event → List Message → Type 0
TakesAtMost (event.Take s max) messages = length messages ≤ max
TakesAtMost _ messages = Unit {0}

abbrev pub IsWithinTake : Entry → Type 0
IsWithinTake e = TakesAtMost e.event (carried e.reply)
