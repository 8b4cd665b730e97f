-- Events that are not refused.
use Rattle.std.proofs.Common.{◌≡◌, ℕ, ◌+◌, ◌<◌, ◌≤◌, false, cond, nat_eq, nat_le, min, Some, None, is_some, List, length}
use Rattle.std.proofs.Common.{◌++◌, drop, ap, sym, ◌∙◌, ⊎_elim, arith, eq-eqb, ne_eqb, leb-false, drop_of_length-le}
use Rattle.std.proofs.lemmas.Bool.{cases_lt, or_parts}
use Rattle.filter_verifier.specs.VerifiedView.{VerifiedView}
use Rattle.netchange_core.specs.declared.destination.Destination.{Destination}
use Rattle.netchange_core.specs.declared.message.Message.{Message}
use Rattle.netchange_core.specs.declared.reply.EventRefusal.TheVariants as refusal
use Rattle.netchange_core.specs.declared.reply.Reply.TheVariants as reply
use Rattle.netchange_core.specs.Kept.{AreKept, distance_by, kept_distance}
use Rattle.netchange_core.specs.Next.{answered, dequeued, exporting, importing, is_no_neighbour, joined}
use Rattle.netchange_core.specs.Next.{last_session, recomputed, refused, set_export, set_import, up}
use Rattle.netchange_core.specs.OpeningView.{OpeningView}
use Rattle.netchange_core.specs.World.{NeighbourView, change, changed, is_up, neighbour_at}
use Rattle.netchange_core.proofs.Unchanged.{messages_kept}
use Rattle.netchange_core.proofs.Worlds.{world}

-- a neighbour is a node
pub neighbour_below : (o : OpeningView) (k : ℕ) → is_no_neighbour o k ≡ false → k < o.size
neighbour_below o k e = leb-false o.size k (or_parts (nat_le o.size k) (nat_eq k o.me) e).0

pub up_goes : (o : OpeningView) (s k : ℕ) (ns : List NeighbourView) → is_no_neighbour o k ≡ false →
    (neighbour_at ns k).session ≡ None → (s ≡ 4294967295 → ⊥) →
    up (world o s ns) k ≡ answered (world o (s + 1) (change k (joined o (distance_by o ns) (s + 1)) ns)) (reply.Opened (s + 1))
up_goes o s k ns neighbour down left =
    let w = world o s ns in
    let last = answered (world o (s + 1) (change k (joined o (distance_by o ns) (s + 1)) ns)) (reply.Opened (s + 1)) in
    ap (λ b. cond b (refused w refusal.NoNode) (cond (is_up (neighbour_at ns k)) (refused w refusal.AlreadyUp)
    (cond (nat_eq s last_session) (refused w refusal.NoSession) last))) neighbour
    ∙ ap (λ b. cond b (refused w refusal.AlreadyUp) (cond (nat_eq s last_session) (refused w refusal.NoSession) last))
    (ap is_some down)
    ∙ ap (λ b. cond b (refused w refusal.NoSession) last) (ne_eqb s last_session left)

pub import_goes : (o : OpeningView) (s k : ℕ) (ns : List NeighbourView) (f : VerifiedView) → is_no_neighbour o k ≡ false →
    f.size ≡ o.size → set_import (world o s ns) k f ≡ recomputed (world o s ns) (changed (world o s ns) k (importing f))
import_goes o s k ns f neighbour fits =
    let w = world o s ns in
    ap (λ b. cond b (refused w refusal.NoNode)
    (cond (nat_eq f.size o.size) (recomputed w (changed w k (importing f))) (refused w refusal.OtherSize))) neighbour
    ∙ ap (λ b. cond b (recomputed w (changed w k (importing f))) (refused w refusal.OtherSize)) (eq-eqb f.size o.size fits)

pub export_goes : (o : OpeningView) (s k : ℕ) (ns : List NeighbourView) (f : VerifiedView) → is_no_neighbour o k ≡ false →
    f.size ≡ o.size →
    set_export (world o s ns) k f ≡ answered (world o s (change k (exporting o (distance_by o ns) f) ns)) (reply.Done 0)
export_goes o s k ns f neighbour fits =
    let w = world o s ns in
    let last = answered (world o s (change k (exporting o (distance_by o ns) f) ns)) (reply.Done 0) in
    ap (λ b. cond b (refused w refusal.NoNode) (cond (nat_eq f.size o.size) last (refused w refusal.OtherSize))) neighbour
    ∙ ap (λ b. cond b last (refused w refusal.OtherSize)) (eq-eqb f.size o.size fits)

-- with the distances kept, a neighbour joins and exports as with the world's
pub joined_kept : (o : OpeningView) (ns : List NeighbourView) (ds : List Destination) (session : ℕ) (n : NeighbourView) →
    AreKept o ns ds → joined o (kept_distance ds) session n ≡ joined o (distance_by o ns) session n
joined_kept o ns ds session n kept =
    ap (λ q. record (joined o (kept_distance ds) session n) { queue = q }) (messages_kept o n.exports ns ds kept)

pub exporting_kept : (o : OpeningView) (ns : List NeighbourView) (ds : List Destination) (f : VerifiedView) (n : NeighbourView) →
    AreKept o ns ds → exporting o (kept_distance ds) f n ≡ exporting o (distance_by o ns) f n
exporting_kept o ns ds f n kept =
    ap (λ q. record (exporting o (kept_distance ds) f n) { queue = cond (is_up n) (n.queue ++ q) n.queue })
    (messages_kept o (Some f) ns ds kept)

-- at most as many messages leave a queue as it has
drop_min : (n : ℕ) (xs : List Message) → drop (min n (length xs)) xs ≡ drop n xs
drop_min n xs =
    ⊎_elim
    (λ (less : n < length xs). let e : min n (length xs) ≡ n = omega arith in ap (λ m. drop m xs) e)
    (λ (more : length xs ≤ n).
    let e : min n (length xs) ≡ length xs = omega arith in
    ap (λ m. drop m xs) e ∙ drop_of_length-le xs (omega arith) ∙ sym (drop_of_length-le xs more)) (cases_lt n (length xs))

pub dequeued_min : (max count : ℕ) (n : NeighbourView) → count ≡ min max (length n.queue) → dequeued count n ≡ dequeued max n
dequeued_min max count n e =
    ap (λ q. record n { queue = q }) (ap (λ m. drop m n.queue) e ∙ drop_min max n.queue)
