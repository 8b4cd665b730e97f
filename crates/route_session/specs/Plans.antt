-- What a link in memory is going to do. (This project's own choice.)
use Rattle.std.specs.Prelude.{◌≡◌, ℕ, ◌+◌, ◌-◌, ◌^◌, min, Option, Some, List, [], ◌∷◌, drop, Result, Ok, Err}
use Rattle.netchange_core.specs.declared.message.Message.{Message}
use Rattle.route_session.specs.declared.link.Got.{Got}
use Rattle.route_session.specs.declared.link.Got.TheVariants as got
use Rattle.route_session.specs.declared.link.LinkFault.{LinkFault}
use Rattle.route_session.specs.declared.memory_link.MemoryLink.{MemoryLink}

-- the messages that it has not handed out yet, how many calls it counted, and at which of them it is to fail
pub record Plan : Type 0 where
  pub waiting : List Message
  pub calls : ℕ
  pub fails_at : Option ℕ

abbrev pub memory_plan : MemoryLink → Plan
memory_plan l = record { waiting = drop l.next l.waiting.items; calls = l.calls; fails_at = l.fails_at }

-- the number of the next call
abbrev pub next_call : Plan → ℕ
next_call p = min (p.calls + 1) (2 ^ 64 - 1)

abbrev pub IsToFail : Plan → Type 0
IsToFail p = p.fails_at ≡ Some (next_call p)

-- after that call, with these messages left to hand out
abbrev pub called : Plan → List Message → Plan
called p waiting = record p { waiting = waiting; calls = next_call p }

-- while it is open, it fails exactly at the call at which it is to fail, and else hands out the first message that waits; it has ended if none
-- does
abbrev pub HandsOut : Plan → Result Got LinkFault → Plan → Type 0
HandsOut p (Err fault) q = IsToFail p × (q ≡ called p p.waiting)
HandsOut p (Ok (got.Message m)) q = (IsToFail p → ⊥) × (p.waiting ≡ m ∷ q.waiting) × (q ≡ called p q.waiting)
HandsOut p (Ok got.Ended) q = (IsToFail p → ⊥) × (p.waiting ≡ []) × (q ≡ called p [])
HandsOut p (Ok got.Nothing) q = ⊥

-- while it is open, it does not take a message at the call at which it is to fail; it may fail at others too, since memory can be refused
abbrev pub TakesOne : Plan → Result (Unit {0}) LinkFault → Plan → Type 0
TakesOne p (Err fault) q = q ≡ called p p.waiting
TakesOne p (Ok done) q = (IsToFail p → ⊥) × (q ≡ called p p.waiting)
