-- Calls that begin and end a session.
use Rattle.std.proofs.Common.{◌≡◌, sym, ap, subst, refl, ℕ, ◌+◌, ◌==◌, Bool, true, false, cond, ◌⊎◌, inl, inr, List, [], ◌∷◌, ◌++◌}
use Rattle.netchange_core.specs.declared.event.Event.TheVariants as event
use Rattle.netchange_core.specs.declared.reply.EventRefusal.{EventRefusal}
use Rattle.netchange_core.specs.declared.reply.EventRefusal.TheVariants as refusal
use Rattle.netchange_core.specs.declared.reply.Reply.{Reply}
use Rattle.netchange_core.specs.declared.reply.Reply.TheVariants as reply
use Rattle.netchange_core.specs.Best.{distance}
use Rattle.netchange_core.specs.Next.{Answered as After, answered, is_no_neighbour, joined, last_session, next, refused, up}
use Rattle.netchange_core.specs.World.{World, changed, is_up, neighbour_at}
use Rattle.route_history.specs.declared.entry.Entry.{Entry}
use Rattle.route_history.specs.declared.fault.CallFault.{CallFault}
use Rattle.route_history.specs.declared.fault.CallFault.TheVariants as fault
use Rattle.route_history.specs.Calls.{entry}
use Rattle.route_history.specs.History.{IsLegal, IsLegalFrom, world_after, world_of}
use Rattle.route_session.specs.Calls.{StaysSound}
use Rattle.slot_lock.specs.Calls.{Answered, Refused}
use Rattle.slot_lock.specs.declared.answer.Answer.{Answer}
use Rattle.slot_lock.specs.Passes.{IsOwn, IsPassOf, PassView, RouterView}
use Rattle.neighbour_session.specs.Calls.{IsUnclosed, IsUnopened, OpensNone, end_of}

-- the reply to an Up opens a session, or refuses
IsUpReply : Reply → Type 0
IsUpReply r = ((s : ℕ) × (r ≡ reply.Opened s)) ⊎ ((why : EventRefusal) × (r ≡ reply.Refused why))

of_two : (b : Bool) (x y : After) → IsUpReply x.reply → IsUpReply y.reply → IsUpReply (cond b x y).reply
of_two true x y p q = p
of_two false x y p q = q

is_refusal : (why : EventRefusal) → IsUpReply (reply.Refused why)
unfolding IsUpReply
is_refusal why = inr (why, refl)

is_opened : (s : ℕ) → IsUpReply (reply.Opened s)
unfolding IsUpReply
is_opened s = inl (s, refl)

up_reply : (w : World) (k : ℕ) → IsUpReply (up w k).reply
up_reply w k =
    let opened : After = answered (record (changed w k (joined w.opening (distance w) (w.sessions + 1))) { sessions = w.sessions + 1 })
    (reply.Opened (w.sessions + 1)) in
    let third : After = cond (w.sessions == last_session) (refused w refusal.NoSession) opened in
    let second : After = cond (is_up (neighbour_at w.neighbours k)) (refused w refusal.AlreadyUp) third in
    of_two (is_no_neighbour w.opening k) (refused w refusal.NoNode) second (is_refusal refusal.NoNode)
    (of_two (is_up (neighbour_at w.neighbours k)) (refused w refusal.AlreadyUp) third (is_refusal refusal.AlreadyUp)
    (of_two (w.sessions == last_session) (refused w refusal.NoSession) opened (is_refusal refusal.NoSession) (is_opened (w.sessions + 1))))

-- the reply of the last entry of a legal history is the world's
last_reply : (w : World) (log : List Entry) (e : Entry) → IsLegalFrom w (log ++ e ∷ []) → (next (world_after w log) e.event).reply ≡ e.reply
last_reply w [] e h = h.0
last_reply w (x ∷ xs) e h = last_reply (next w x.event).world xs e h.1

-- an Up that opened no session was refused
not_opened : (r : Reply) → IsUpReply r → ((s : ℕ) → r ≡ reply.Opened s → ⊥) → (why : EventRefusal) × (r ≡ reply.Refused why)
unfolding IsUpReply
not_opened r h other = elim h [ inl p ↦ absurd (other p.0 p.1) | inr p ↦ p ]

pub opens_none : (r : RouterView) (node : ℕ) (old : PassView) (a : Answer) (new : PassView) → Answered r old (event.Up node) a new →
    ((s : ℕ) → a.reply ≡ reply.Opened s → ⊥) → OpensNone r node old new
opens_none r node old a new h other =
    let legal : IsLegal r.opening (h.log ++ entry (event.Up node) a.reply ∷ []) = subst (λ (l : List Entry). IsLegal r.opening l) h.seen h.legal in
    let is : (up (world_of r.opening h.log) node).reply ≡ a.reply = last_reply _ h.log (entry (event.Up node) a.reply) legal in
    let found = not_opened a.reply (subst IsUpReply is (up_reply (world_of r.opening h.log) node)) other in
    record { answer = a; entered = h; why = found.0; refused = found.1 }

-- a call that was not entered
pub unopened : (f : CallFault) (r : RouterView) (node : ℕ) (old new : PassView) → Refused f r old new → IsUnopened (end_of f) r node old new
unopened fault.Full r node old new h = h
unopened fault.Memory r node old new h = h

pub unclosed : (f : CallFault) (r : RouterView) (old new : PassView) → Refused f r old new → IsUnclosed (end_of f) r old new
unclosed fault.Full r old new h = h
unclosed fault.Memory r old new h = h

-- a pass is as right as it was after a call
pub sound_answered : (r : RouterView) (old : PassView) (e : _) (a : Answer) (new : PassView) → IsPassOf r new → IsOwn new.fragment →
    Answered r old e a new → StaysSound r old new
sound_answered r old e a new of own h = record { of = of; own = λ x. own; legal = λ x. h.legal }

pub sound_refused : (r : RouterView) (old : PassView) (f : CallFault) (new : PassView) → IsPassOf r new → IsOwn new.fragment →
    Refused f r old new → StaysSound r old new
sound_refused r old fault.Full new of own h = record { of = of; own = λ x. own; legal = λ x. h.legal }
sound_refused r old fault.Memory new of own h = record {
  of = of;
  own = λ x. own;
  legal = λ x. subst (λ (l : List Entry). IsLegal r.opening l) (sym (ap (λ (v : PassView). v.fragment.seen) h.1)) x;
}
