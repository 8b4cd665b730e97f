-- New filters, and looks, keep a domain in order.
use Rattle.std.proofs.Common.{◌≡◌, ⊎_elim, ℕ, ◌<◌, zero, suc, true, cond, nat_eq, nat_le, Option, Some, All}
use Rattle.std.proofs.Common.{[], ◌∷◌, ◌++◌, length, refl, sym, ap, subst, ◌∙◌, arith, eq-eqb, ne_eqb}
use Rattle.std.specs.declared.sync.Arc.{Arc}
use Rattle.std.proofs.Common.{Global}
use Rattle.std.proofs.lemmas.Bool.{cases_eq, cond_both, eqb-true}
use Rattle.std.proofs.lemmas.List.Elements.{All-append}
use Rattle.filter_verifier.specs.VerifiedView.{VerifiedView}
use Rattle.netchange_core.specs.declared.event.Event.TheVariants as event
use Rattle.netchange_core.specs.declared.reply.EventRefusal.TheVariants as refusal
use Rattle.netchange_core.specs.declared.reply.Reply.TheVariants as reply
use Rattle.netchange_core.specs.Best.{best, best_by, distance, neighbour_distance, neighbour_distances}
use Rattle.netchange_core.specs.Kept.{IsNeighbour}
use Rattle.netchange_core.specs.Next.{Answered, all_messages, answered, exporting, importing, is_no_neighbour, message_of, recomputed, refused}
use Rattle.netchange_core.specs.OpeningView.{OpeningView}
use Rattle.netchange_core.specs.FilteredDistance.{filtered_distance}
use Rattle.netchange_core.specs.World.{NeighbourView, World, change, changed, is_up, neighbour_at, nobody}
use Rattle.netchange_core.proofs.Change.{change_good, changed_at, map_change_same}
use Rattle.netchange_core.proofs.Goes.{neighbour_below}
use Rattle.netchange_core.proofs.Good.{exporting_good, importing_good}
use Rattle.netchange_core.proofs.Opened.{best_within}
use Rattle.netchange_core.proofs.Queued.{changes_good}
use Rattle.routing_domain.specs.Domain.{Domain, IsInOrder, IsMember, IsQueued, IsWithin, last_told}
use Rattle.routing_domain.specs.Events.{enters}
use Rattle.routing_domain.specs.Steps.{with_router}
use Rattle.routing_domain.proofs.Keeping.{IsTold, KeepsLink, member_of, router_keeps_order}
use Rattle.routing_domain.proofs.Places.{router_same}
use Rattle.routing_domain.proofs.Recomputed.{changed_other, recomputed_tells}
use Rattle.routing_domain.proofs.Seen.{changed_seen, recomputed_seen}
use Rattle.routing_domain.proofs.Sound.{all_within, changed_sound, kept_own, recomputed_sound}
use Rattle.routing_domain.proofs.Told.{last_told_both}

-- who is told all distances is told each
pub told_all : (o : OpeningView) (exports : Option VerifiedView) (dist : ℕ → ℕ) (count v before : ℕ) → v < count →
    last_told v before (all_messages o exports dist count) ≡ filtered_distance o exports v (dist v)
told_all o exports dist zero v before below = absurd (omega (arith, below))
told_all o exports dist (suc u) v before below =
    last_told_both v before (all_messages o exports dist u) (message_of o exports u (dist u) ∷ [])
    ∙ ⊎_elim
    (λ here. ap (λ b. cond b (filtered_distance o exports u (dist u)) (last_told v before (all_messages o exports dist u))) (eq-eqb u v here)
    ∙ ap (λ x. filtered_distance o exports x (dist x)) here)
    (λ other. ap (λ b. cond b (filtered_distance o exports u (dist u)) (last_told v before (all_messages o exports dist u))) (ne_eqb u v other)
    ∙ told_all o exports dist u v before (omega (arith, below, other)))
    (cases_eq u v)

-- the import filter: all is told as after a message
pub import_member : (size u k : ℕ) (r : World) (f : VerifiedView) → IsMember size u r → k < size → f.size ≡ r.opening.size →
    IsMember size u (recomputed r (changed r k (importing f))).world
import_member size u k r f m short fits =
    let near : k < length r.neighbours = omega (arith, short, m.tables.one_a_node) in
    let n = neighbour_at r.neighbours k in
    let q = m.sound.queues k short in
    record {
      size = m.size;
      me = m.me;
      tables = changes_good r.opening size (distance r) (distance (changed r k (importing f))) r.opening.size (change k (importing f) r.neighbours)
          (change_good size k (importing f) r.neighbours near m.tables (importing_good size f n (fits ∙ m.size) (m.tables.each k nobody near)));
      sound = recomputed_sound size r k (importing f) m.size m.tables.one_a_node m.sound near (kept_own size r k m.sound)
          (record { within = q.within; idle = q.idle });
      apart = recomputed_seen is_up r k (importing f) u (λ _ _. refl) refl ∙ m.apart;
    }

pub import_keeps : (size u k b : ℕ) (r : World) (f : VerifiedView) → IsMember size u r → k < size → b < size →
    KeepsLink size r (recomputed r (changed r k (importing f))).world b
import_keeps size u k b r f m short to =
    let near : k < length r.neighbours = omega (arith, short, m.tables.one_a_node) in
    record {
      session = recomputed_seen (λ n. n.session) r k (importing f) b (λ _ _. refl) refl;
      advertised = recomputed_seen (λ n. n.advertised) r k (importing f) b (λ _ _. refl) refl;
      tells = λ up v before below told.
          recomputed_tells r k (importing f) near (record { session = refl; exports = refl; queue = refl }) b v before
          (omega (arith, to, m.tables.one_a_node)) up (omega (arith, below, m.size)) told;
    }

pub importing_keeps_order : (d : Domain) (u w : ℕ) (f : Arc VerifiedView Global) → IsInOrder d → u < d.size → IsInOrder (enters d u (event.SetImport w f))
importing_keeps_order d u w f o short =
    let r = d.router u in
    let m = member_of d u o short in
    let P : Answered → Type 0 = λ a. IsInOrder (with_router d u a.world) in
    let same : IsInOrder (with_router d u r) = subst IsInOrder (sym (router_same d u)) o in
    let after = recomputed r (changed r w (importing f.value)) in
    cond_both (is_no_neighbour r.opening w) (refused r refusal.NoNode) (cond (nat_eq f.value.size r.opening.size) after (refused r refusal.OtherSize)) P (λ _. same)
    (λ is. cond_both (nat_eq f.value.size r.opening.size) after (refused r refusal.OtherSize) P
    (λ fits.
    let to : w < d.size = omega (arith, m.size, neighbour_below r.opening w is) in
    router_keeps_order d u after.world o
    (import_member d.size u w r f.value m to (eqb-true f.value.size r.opening.size fits))
    (λ b near. import_keeps d.size u w b r f.value m to near))
    (λ _. same))

-- the export filter: all distances are told again
abbrev pub exporter : World → ℕ → VerifiedView → World
exporter r k f = changed r k (exporting r.opening (distance r) f)

pub exporter_distance : (r : World) (k : ℕ) (f : VerifiedView) (v : ℕ) → distance (exporter r k f) v ≡ distance r v
exporter_distance r k f v =
    ap (λ ds. (best_by r.opening v ds).dist) (map_change_same (neighbour_distance r.opening v) k (exporting r.opening (distance r) f) r.neighbours refl)

exporting_queued : (size : ℕ) (r : World) (f : VerifiedView) (n : NeighbourView) → r.opening.size ≡ size → IsQueued size n →
    IsQueued size (exporting r.opening (distance r) f n)
exporting_queued size r f n e q = record {
  within = cond_both (is_up n) (n.queue ++ all_messages r.opening (Some f) (distance r) r.opening.size) n.queue (All (IsWithin size))
      (λ _. All-append (IsWithin size) n.queue (all_messages r.opening (Some f) (distance r) r.opening.size) q.within
      (all_within r.opening (Some f) size (distance r) r.opening.size e (omega (arith, e))
      (λ v. omega (arith, e, best_within r.opening v (neighbour_distances r v)))))
      (λ _. q.within);
  idle = λ down. ap (λ b. cond b (n.queue ++ all_messages r.opening (Some f) (distance r) r.opening.size) n.queue) down ∙ q.idle down;
}

pub export_member : (size u k : ℕ) (r : World) (f : VerifiedView) → IsMember size u r → k < size → f.size ≡ r.opening.size →
    IsMember size u (exporter r k f)
export_member size u k r f m short fits =
    let near : k < length r.neighbours = omega (arith, short, m.tables.one_a_node) in
    let n = neighbour_at r.neighbours k in
    let change_of = exporting r.opening (distance r) f in
    record {
      size = m.size;
      me = m.me;
      tables = change_good size k change_of r.neighbours near m.tables
          (subst (λ s. IsNeighbour s (change_of n)) m.size
          (exporting_good r.opening (distance r) f n fits (subst (λ s. IsNeighbour s n) (sym m.size) (m.tables.each k nobody near))));
      sound = changed_sound size r.sessions r k change_of m.sound near (kept_own size r k m.sound) (exporting_queued size r f n m.size (m.sound.queues k short));
      apart = changed_seen is_up r k change_of u refl ∙ m.apart;
    }

pub export_keeps : (size u k b : ℕ) (r : World) (f : VerifiedView) → IsMember size u r → k < size → KeepsLink size r (exporter r k f) b
export_keeps size u k b r f m short = record {
  session = changed_seen (λ n. n.session) r k change_of b refl;
  advertised = changed_seen (λ n. n.advertised) r k change_of b refl;
  tells = tells;
}
  where
    change_of : NeighbourView → NeighbourView
    change_of = exporting r.opening (distance r) f

    near : k < length r.neighbours
    near = omega (arith, short, m.tables.one_a_node)

    tells : is_up (neighbour_at r.neighbours b) ≡ true → (v before : ℕ) → v < size → IsTold r b v before → IsTold (exporter r k f) b v before
    tells up v before below told =
        let n = neighbour_at r.neighbours k in
        let all = all_messages r.opening (Some f) (distance r) r.opening.size in
        ⊎_elim
        (λ here.
        let at_k : neighbour_at (exporter r k f).neighbours b ≡ exporting r.opening (distance r) f n =
        ap (λ x. neighbour_at (exporter r k f).neighbours x) here ∙ changed_at k (exporting r.opening (distance r) f) r.neighbours near in
        let up_there : is_up n ≡ true = ap (λ x. is_up (neighbour_at r.neighbours x)) (sym here) ∙ up in
        subst (λ y. last_told v before y.queue ≡ filtered_distance r.opening y.exports v (distance (exporter r k f) v)) (sym at_k)
        (ap (λ c. last_told v before (cond c (n.queue ++ all) n.queue)) up_there
        ∙ last_told_both v before n.queue all
        ∙ told_all r.opening (Some f) (distance r) r.opening.size v (last_told v before n.queue) (omega (arith, below, m.size))
        ∙ ap (λ x. filtered_distance r.opening (Some f) v x) (sym (exporter_distance r k f v))))
        (λ other.
        subst (λ y. last_told v before y.queue ≡ filtered_distance r.opening y.exports v (distance (exporter r k f) v))
        (sym (changed_other k b (exporting r.opening (distance r) f) r.neighbours near other))
        (told ∙ ap (λ x. filtered_distance r.opening (neighbour_at r.neighbours b).exports v x) (sym (exporter_distance r k f v))))
        (cases_eq b k)

pub exporting_keeps_order : (d : Domain) (u w : ℕ) (f : Arc VerifiedView Global) → IsInOrder d → u < d.size → IsInOrder (enters d u (event.SetExport w f))
exporting_keeps_order d u w f o short =
    let r = d.router u in
    let m = member_of d u o short in
    let P : Answered → Type 0 = λ a. IsInOrder (with_router d u a.world) in
    let same : IsInOrder (with_router d u r) = subst IsInOrder (sym (router_same d u)) o in
    let after = answered (exporter r w f.value) (reply.Done 0) in
    cond_both (is_no_neighbour r.opening w) (refused r refusal.NoNode) (cond (nat_eq f.value.size r.opening.size) after (refused r refusal.OtherSize)) P (λ _. same)
    (λ is. cond_both (nat_eq f.value.size r.opening.size) after (refused r refusal.OtherSize) P
    (λ fits.
    let to : w < d.size = omega (arith, m.size, neighbour_below r.opening w is) in
    router_keeps_order d u after.world o
    (export_member d.size u w r f.value m to (eqb-true f.value.size r.opening.size fits))
    (λ b near. export_keeps d.size u w b r f.value m to))
    (λ _. same))

-- a look changes nothing
pub looking_changes_nothing : (d : Domain) (u v : ℕ) → enters d u (event.Show v) ≡ d
looking_changes_nothing d u v =
    let r = d.router u in
    cond_both (nat_le r.opening.size v) (refused r refusal.BadDest) (answered r (reply.Route (best r v).dist (best r v).via))
    (λ a. with_router d u a.world ≡ d) (λ _. router_same d u) (λ _. router_same d u)

pub looking_keeps_order : (d : Domain) (u v : ℕ) → IsInOrder d → IsInOrder (enters d u (event.Show v))
looking_keeps_order d u v o = subst IsInOrder (sym (looking_changes_nothing d u v)) o
