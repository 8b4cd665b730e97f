-- A link that goes down at both ends keeps a domain in order.
use Rattle.std.proofs.Common.{◌≡◌, inr, ℕ, ◌<◌, true, false, Option, Some, [], length, refl, sym, ap, subst, ◌∙◌, arith}
use Rattle.std.proofs.lemmas.List.Elements.{All-nil}
use Rattle.netchange_core.specs.declared.event.Event.{Event}
use Rattle.netchange_core.specs.declared.event.Event.TheVariants as event
use Rattle.netchange_core.specs.Best.{distance}
use Rattle.netchange_core.specs.Kept.{IsNeighbour}
use Rattle.netchange_core.specs.Next.{down, gone, next, recomputed}
use Rattle.netchange_core.specs.World.{World, change, changed, holder, is_up, neighbour_at, nobody}
use Rattle.netchange_core.proofs.Change.{change_good, changed_at}
use Rattle.netchange_core.proofs.Good.{gone_good}
use Rattle.netchange_core.proofs.Holders.{holder_found, up_in}
use Rattle.netchange_core.proofs.Queued.{changes_good}
use Rattle.routing_domain.specs.Domain.{Domain, IsInOrder, IsMember, IsWithin, are_linked, neighbour}
use Rattle.routing_domain.specs.Events.{cuts, enters_in, in_session}
use Rattle.routing_domain.specs.Steps.{with_flight}
use Rattle.routing_domain.proofs.Keeping.{KeepsLink, member_of}
use Rattle.routing_domain.proofs.Pairs.{two_routers_keep_order}
use Rattle.routing_domain.proofs.Places.{flight_from_other, flight_here, flight_other, router_here, router_other}
use Rattle.routing_domain.proofs.Recomputed.{changed_other, told_again}
use Rattle.routing_domain.proofs.Seen.{recomputed_other, told_seen}
use Rattle.routing_domain.proofs.Sound.{down_own, recomputed_sound}

-- who holds a neighbour's present session is that neighbour
pub holds : (d : Domain) (u w s : ℕ) → IsInOrder d → u < d.size → (neighbour d u w).session ≡ Some s → holder (d.router u) s ≡ Some w
holds d u w s o short held = holder_found (d.router u).neighbours s w (o.sound u short).apart held

-- the world of the one whom another left
abbrev pub leaver : World → ℕ → World
leaver r k = (recomputed r (changed r k (gone r.opening))).world

near_of : (size u k : ℕ) (r : World) → IsMember size u r → k < size → k < length r.neighbours
near_of size u k r m short = omega (arith, short, m.tables.one_a_node)

pub leaver_member : (size u k : ℕ) (r : World) → IsMember size u r → k < size → (k ≡ u → ⊥) → IsMember size u (leaver r k)
leaver_member size u k r m short other =
    let near = near_of size u k r m short in
    let n = neighbour_at r.neighbours k in
    let f = gone r.opening in
    record {
      size = m.size;
      me = m.me;
      tables = changes_good r.opening size (distance r) (distance (changed r k f)) r.opening.size (change k f r.neighbours)
          (change_good size k f r.neighbours near m.tables
          (subst (λ s. IsNeighbour s (f n)) m.size (gone_good r.opening n (subst (λ s. IsNeighbour s n) (sym m.size) (m.tables.each k nobody near)))));
      sound = recomputed_sound size r k f m.size m.tables.one_a_node m.sound near (down_own r k) (record { within = All-nil (IsWithin size); idle = λ _. refl });
      apart = recomputed_other is_up r k f u (λ _ _. refl) near (λ e. other (sym e)) ∙ m.apart;
    }

pub leaver_keeps : (size u k b : ℕ) (r : World) → IsMember size u r → k < size → b < size → (b ≡ k → ⊥) → KeepsLink size r (leaver r k) b
leaver_keeps size u k b r m short to other =
    let near = near_of size u k r m short in
    let f = gone r.opening in
    let same : neighbour_at (change k f r.neighbours) b ≡ neighbour_at r.neighbours b = changed_other k b f r.neighbours near other in
    record {
      session = recomputed_other (λ n. n.session) r k f b (λ _ _. refl) near other;
      advertised = recomputed_other (λ n. n.advertised) r k f b (λ _ _. refl) near other;
      tells = λ up v before below told.
          told_again r k f b v before (near_of size u b r m to)
          (record { session = ap (λ n. n.session) same; exports = ap (λ n. n.exports) same; queue = ap (λ n. n.queue) same })
          up (omega (arith, below, m.size)) told;
    }

pub leaver_down : (size u k : ℕ) (r : World) → IsMember size u r → k < size → is_up (neighbour_at (leaver r k).neighbours k) ≡ false
leaver_down size u k r m short =
    told_seen is_up r k (gone r.opening) k (λ _ _. refl) ∙ ap is_up (changed_at k (gone r.opening) r.neighbours (near_of size u k r m short))

-- Down is not refused
pub down_leaves : (d : Domain) (u w s : ℕ) → IsInOrder d → u < d.size → (neighbour d u w).session ≡ Some s →
    next (d.router u) (event.Down s) ≡ recomputed (d.router u) (changed (d.router u) w (gone (d.router u).opening))
down_leaves d u w s o short held = ap (λ h. down (d.router u) h) (holds d u w s o short held)

abbrev pub goes : ℕ → Event
goes s = event.Down s

leaves : (d : Domain) (u w : ℕ) → IsInOrder d → u < d.size → are_linked d u w ≡ true →
    in_session (d.router u) (neighbour d u w).session goes ≡ leaver (d.router u) w
leaves d u w o short linked =
    let there = up_in (neighbour d u w) linked in
    ap (λ (s : Option ℕ). in_session (d.router u) s goes) there.1 ∙ ap (λ a. a.world) (down_leaves d u w there.0 o short there.1)

-- two neighbours are two nodes
pub unlike : (d : Domain) (u w : ℕ) → IsInOrder d → u < d.size → are_linked d u w ≡ true → u ≡ w → ⊥
unlike d u w o short linked same =
    let h : true ≡ false = sym (subst (λ x. are_linked d u x ≡ true) (sym same) linked) ∙ o.apart u short in cc

-- the domain after both, before what was on its way is lost
abbrev pub parts : Domain → ℕ → ℕ → Domain
parts d u w = enters_in (enters_in d u (neighbour d u w).session goes) w (neighbour d w u).session goes

pub cut_one : (d : Domain) (u w : ℕ) → IsInOrder d → u < d.size → w < d.size → are_linked d u w ≡ true → (cuts d u w).router u ≡ leaver (d.router u) w
cut_one d u w o from to linked =
    let s = (neighbour d u w).session in
    let t = (neighbour d w u).session in
    let e = enters_in d u s goes in
    router_other e w (in_session (e.router w) t goes) u (unlike d u w o from linked)
    ∙ router_here d u (in_session (d.router u) s goes)
    ∙ leaves d u w o from linked

pub cut_other : (d : Domain) (u w : ℕ) → IsInOrder d → u < d.size → w < d.size → are_linked d u w ≡ true → (cuts d u w).router w ≡ leaver (d.router w) u
cut_other d u w o from to linked =
    let s = (neighbour d u w).session in
    let t = (neighbour d w u).session in
    let e = enters_in d u s goes in
    router_here e w (in_session (e.router w) t goes)
    ∙ ap (λ r. in_session r t goes) (router_other d u (in_session (d.router u) s goes) w (λ h. unlike d u w o from linked (sym h)))
    ∙ leaves d w u o to (o.both_ways u w from to linked)

pub cut_third : (d : Domain) (u w x : ℕ) → (x ≡ u → ⊥) → (x ≡ w → ⊥) → (cuts d u w).router x ≡ d.router x
cut_third d u w x one other =
    let s = (neighbour d u w).session in
    let t = (neighbour d w u).session in
    let e = enters_in d u s goes in
    router_other e w (in_session (e.router w) t goes) x other ∙ router_other d u (in_session (d.router u) s goes) x one

pub cuts_in_order : (d : Domain) (u w : ℕ) → IsInOrder d → u < d.size → w < d.size → are_linked d u w ≡ true → IsInOrder (cuts d u w)
cuts_in_order d u w o from to linked =
    two_routers_keep_order d e u w (leaver r w) (leaver z u) o from to apart one other (λ x p q. cut_third d u w x p q)
    (leaver_member d.size u w r m to (λ h. apart (sym h)))
    (leaver_member d.size w u z n from apart)
    (λ b short far. leaver_keeps d.size u w b r m to short far)
    (λ b short far. leaver_keeps d.size w u b z n from short far)
    (λ a b p q i j.
    flight_other (with_flight (parts d u w) u w []) w u [] a b j ∙ flight_other (parts d u w) u w [] a b i)
    (inr (inr (record {
      down = ap (λ x. is_up (neighbour_at x.neighbours w)) one ∙ leaver_down d.size u w r m to;
      flight = flight_from_other (with_flight (parts d u w) u w []) w u [] u w apart ∙ flight_here (parts d u w) u w [];
    })))
    (inr (inr (record {
      down = ap (λ x. is_up (neighbour_at x.neighbours u)) other ∙ leaver_down d.size w u z n from;
      flight = flight_here (with_flight (parts d u w) u w []) w u [];
    })))
  where
    e : Domain
    e = cuts d u w

    r : World
    r = d.router u

    z : World
    z = d.router w

    m : IsMember d.size u r
    m = member_of d u o from

    n : IsMember d.size w z
    n = member_of d w o to

    apart : u ≡ w → ⊥
    apart = unlike d u w o from linked

    one : e.router u ≡ leaver r w
    one = cut_one d u w o from to linked

    other : e.router w ≡ leaver z u
    other = cut_other d u w o from to linked
