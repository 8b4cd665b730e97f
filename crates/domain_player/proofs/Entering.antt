-- What a router answers to an event, where it is sound.
use Rattle.std.proofs.Common.{◌≡◌, ℕ, ◌+◌, ◌<◌, false, cond, Some, None, is_some, length, sym, ap, ◌∙◌, eq-eqb, ne_eqb}
use Rattle.std.specs.Prelude.{◌||◌, nat_eq}
use Rattle.std.proofs.lemmas.Bool.{lt-leb}
use Rattle.netchange_core.specs.declared.event.Event.TheVariants as event
use Rattle.netchange_core.specs.declared.reply.EventRefusal.TheVariants as refusal
use Rattle.netchange_core.specs.declared.reply.Reply.TheVariants as reply
use Rattle.netchange_core.specs.Best.{distance}
use Rattle.netchange_core.specs.Calls.{queued_of, session_of, waiting_for}
use Rattle.netchange_core.specs.Next.{Answered, answered, is_no_neighbour, joined, last_session, next, refused}
use Rattle.netchange_core.specs.OpeningView.{OpeningView}
use Rattle.netchange_core.specs.World.{World, changed, is_up, neighbour_at}
use Rattle.netchange_core.proofs.Holders.{holder_found}
use Rattle.routing_domain.specs.Domain.{IsSound}

-- all that waits for a neighbour is what waits for its present session
pub queued_all : (size : ℕ) (r : World) (k s : ℕ) → IsSound size r → session_of r k ≡ Some s → queued_of r s ≡ length (neighbour_at r.neighbours k).queue
queued_all size r k s sound held = ap (waiting_for r) (holder_found r.neighbours s k sound.apart held)

pub none_queued : (size : ℕ) (r : World) (k : ℕ) → IsSound size r → k < size → session_of r k ≡ None → 0 ≡ length (neighbour_at r.neighbours k).queue
none_queued size r k sound below none = sym (ap length ((sound.queues k below).idle (ap is_some none)))

-- a node of the domain is a possible neighbour of another
pub is_neighbour : (o : OpeningView) (k : ℕ) → k < o.size → (k ≡ o.me → ⊥) → is_no_neighbour o k ≡ false
is_neighbour o k below apart = ap (λ t. t || nat_eq k o.me) (lt-leb o.size k below) ∙ ne_eqb k o.me apart

-- Up at a router that cannot open a session, and at one that can
abbrev pub opens : World → ℕ → Answered
opens r k = answered (record (changed r k (joined r.opening (distance r) (r.sessions + 1))) { sessions = r.sessions + 1 }) (reply.Opened (r.sessions + 1))

up_as : (r : World) (k : ℕ) → is_no_neighbour r.opening k ≡ false → is_up (neighbour_at r.neighbours k) ≡ false →
    next r (event.Up k) ≡ cond (nat_eq r.sessions last_session) (refused r refusal.NoSession) (opens r k)
up_as r k neighbour down =
    ap (λ b. cond b (refused r refusal.NoNode) (cond (is_up (neighbour_at r.neighbours k)) (refused r refusal.AlreadyUp)
    (cond (nat_eq r.sessions last_session) (refused r refusal.NoSession) (opens r k)))) neighbour
    ∙ ap (λ b. cond b (refused r refusal.AlreadyUp) (cond (nat_eq r.sessions last_session) (refused r refusal.NoSession) (opens r k))) down

pub up_spent : (r : World) (k : ℕ) → is_no_neighbour r.opening k ≡ false → is_up (neighbour_at r.neighbours k) ≡ false →
    r.sessions ≡ last_session → next r (event.Up k) ≡ refused r refusal.NoSession
up_spent r k neighbour down spent =
    up_as r k neighbour down ∙ ap (λ b. cond b (refused r refusal.NoSession) (opens r k)) (eq-eqb r.sessions last_session spent)

pub up_left : (r : World) (k : ℕ) → is_no_neighbour r.opening k ≡ false → is_up (neighbour_at r.neighbours k) ≡ false →
    (r.sessions ≡ last_session → ⊥) → next r (event.Up k) ≡ opens r k
up_left r k neighbour down left =
    up_as r k neighbour down ∙ ap (λ b. cond b (refused r refusal.NoSession) (opens r k)) (ne_eqb r.sessions last_session left)
