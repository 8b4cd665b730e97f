-- What an event does to the queue of a session.
use Rattle.std.proofs.Common.{◌≡◌, ◌∙◌, sym, ap, subst, refl, ℕ, ◌<◌, ◌≤◌, ◌==◌, ◌++◌, Bool, true, false}
use Rattle.std.proofs.Common.{if◌then◌else◌, Option, Some, None, List, [], append-nil, arith}
use Rattle.netchange_core.specs.declared.event.Event.{Event}
use Rattle.netchange_core.specs.declared.event.Event.TheVariants as event
use Rattle.netchange_core.specs.declared.message.Message.{Message}
use Rattle.netchange_core.specs.declared.reply.EventRefusal.{EventRefusal}
use Rattle.netchange_core.specs.declared.reply.Reply.TheVariants as reply
use Rattle.netchange_core.specs.Best.{best}
use Rattle.netchange_core.specs.Calls.{carried, session_of}
use Rattle.netchange_core.specs.Next.{Answered, answered, refused}
use Rattle.netchange_core.specs.World.{World, holder, neighbour_at}
use Rattle.route_history.specs.Sent.{queued_for, queued_in, taken_with}
use Rattle.route_history.proofs.Holders.{AreOwn}

-- what a session took by an event that is so answered
abbrev pub took_in : ℕ → Event → Answered → List Message
took_in s e a = taken_with e s (carried a.reply)

-- Where the session goes on, what it took and what still waits is what waited and what was queued. Where it begins, its
-- number is new, and what was queued waits. Where it is not present afterwards, it took nothing and was queued nothing.
pub record Advances (w : World) (s : ℕ) (e : Event) (a : Answered) : Type 0 where
  pub goes_on : (k : ℕ) → session_of a.world k ≡ Some s → session_of w k ≡ Some s →
      (neighbour_at w.neighbours k).queue ++ queued_in w s e a ≡ took_in s e a ++ (neighbour_at a.world.neighbours k).queue
  pub begins : (k : ℕ) → session_of a.world k ≡ Some s → (session_of w k ≡ Some s → ⊥) →
      (w.sessions < s) × (took_in s e a ≡ []) × (queued_in w s e a ≡ (neighbour_at a.world.neighbours k).queue)
  pub is_gone : ((k : ℕ) → session_of a.world k ≡ Some s → ⊥) → (took_in s e a ≡ []) × (queued_in w s e a ≡ [])
  pub own : AreOwn a.world
  pub more : w.sessions ≤ a.world.sessions

abbrev nothing : List Message
nothing = []

if_nothing : (b : Bool) → (if b then nothing else nothing) ≡ nothing
if_nothing true = refl
if_nothing false = refl

pub takes_nothing : (e : Event) (s : ℕ) → taken_with e s [] ≡ []
takes_nothing (event.Take t max) s = if_nothing (t == s)
takes_nothing (event.Up k) s = refl
takes_nothing (event.Down t) s = refl
takes_nothing (event.Receive t v d) s = refl
takes_nothing (event.SetImport k f) s = refl
takes_nothing (event.SetExport k f) s = refl
takes_nothing (event.Show v) s = refl

-- an event that changes nothing, queues nothing and carries nothing
unchanged : (w : World) (s : ℕ) (e : Event) (a : Answered) → AreOwn w → a.world ≡ w → carried a.reply ≡ [] →
    queued_in w s e a ≡ [] → Advances w s e a
unchanged w s e a own same none quiet =
    let took : took_in s e a ≡ [] = ap (taken_with e s) none ∙ takes_nothing e s in
    record {
      goes_on = λ k now before.
          ap (λ m. (neighbour_at w.neighbours k).queue ++ m) quiet ∙ append-nil (neighbour_at w.neighbours k).queue
          ∙ sym (ap (λ (m : List Message). m ++ (neighbour_at a.world.neighbours k).queue) took
          ∙ ap (λ (v : World). (neighbour_at v.neighbours k).queue) same);
      begins = λ k now before. absurd (before (sym (ap (λ (v : World). session_of v k) same) ∙ now));
      is_gone = λ _. (took, quiet);
      own = subst AreOwn (sym same) own;
      more = let e : a.world.sessions ≡ w.sessions = ap (λ (v : World). v.sessions) same in omega arith;
    }

quiet_show : (w : World) (s v : ℕ) (o : Option ℕ) → queued_for w w (event.Show v) o ≡ []
quiet_show w s v None = refl
quiet_show w s v (Some k) = refl

pub shown_advances : (w : World) (s v : ℕ) → AreOwn w →
    Advances w s (event.Show v) (answered w (reply.Route (best w v).dist (best w v).via))
shown_advances w s v own =
    unchanged w s (event.Show v) (answered w (reply.Route (best w v).dist (best w v).via)) own refl refl (quiet_show w s v (holder w s))

pub refused_advances : (w : World) (s : ℕ) (e : Event) (why : EventRefusal) → AreOwn w → Advances w s e (refused w why)
refused_advances w s e why own = unchanged w s e (refused w why) own refl refl refl
