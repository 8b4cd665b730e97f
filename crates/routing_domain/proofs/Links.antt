-- A link that comes up at both ends keeps a domain in order.
use Rattle.std.proofs.Common.{◌≡◌, inl, inr, ℕ, ◌+◌, ◌<◌, true, false, nat_eq, nat_le, [], ◌++◌}
use Rattle.std.proofs.Common.{length, slice_index, refl, sym, ap, subst, ◌∙◌, arith, ne_eqb}
use Rattle.std.proofs.lemmas.Bool.{cases_eq, lt-leb, or_from}
use Rattle.netchange_core.specs.declared.event.Event.TheVariants as event
use Rattle.netchange_core.specs.declared.reply.Reply.TheVariants as reply
use Rattle.netchange_core.specs.Best.{best_by, distance, neighbour_distance, neighbour_distances}
use Rattle.netchange_core.specs.Kept.{IsNeighbour}
use Rattle.netchange_core.specs.Next.{answered, is_no_neighbour, joined, last_session, next, up}
use Rattle.netchange_core.specs.OpeningView.{OpeningView}
use Rattle.netchange_core.specs.FilteredDistance.{filtered_distance}
use Rattle.netchange_core.specs.World.{World, changed, is_up, neighbour_at, nobody}
use Rattle.netchange_core.proofs.Change.{change_good, changed_at, map_change_same}
use Rattle.netchange_core.proofs.Goes.{up_goes}
use Rattle.netchange_core.proofs.Good.{joined_distance, joined_good}
use Rattle.netchange_core.proofs.Holders.{down_none}
use Rattle.netchange_core.proofs.Opened.{best_within}
use Rattle.routing_domain.specs.Domain.{Domain, IsInOrder, IsMember, IsQueued, are_linked, last_told}
use Rattle.routing_domain.specs.Events.{CanLink, enters, links}
use Rattle.routing_domain.proofs.Filters.{told_all}
use Rattle.routing_domain.proofs.Receives.{ToldBy}
use Rattle.routing_domain.proofs.Keeping.{KeepsLink, member_of}
use Rattle.routing_domain.proofs.Pairs.{two_routers_keep_order}
use Rattle.routing_domain.proofs.Places.{router_here, router_other}
use Rattle.routing_domain.proofs.Recomputed.{changed_other}
use Rattle.routing_domain.proofs.Sound.{all_within, changed_sound, new_own}

-- the world of the one whom another joined
abbrev pub joiner : World → ℕ → World
joiner r k = record (changed r k (joined r.opening (distance r) (r.sessions + 1))) { sessions = r.sessions + 1 }

-- Up is not refused
pub no_neighbour : (o : OpeningView) (k : ℕ) → k < o.size → (k ≡ o.me → ⊥) → is_no_neighbour o k ≡ false
no_neighbour o k below other = or_from (nat_le o.size k) (nat_eq k o.me) (lt-leb o.size k below) (ne_eqb k o.me other)

pub up_joins : (size u k : ℕ) (r : World) → IsMember size u r → k < size → (k ≡ u → ⊥) → is_up (neighbour_at r.neighbours k) ≡ false →
    (r.sessions ≡ last_session → ⊥) → up r k ≡ answered (joiner r k) (reply.Opened (r.sessions + 1))
up_joins size u k r m below other down left =
    up_goes r.opening r.sessions k r.neighbours
    (no_neighbour r.opening k (omega (arith, below, m.size)) (λ e. other (e ∙ m.me)))
    (down_none (neighbour_at r.neighbours k) down) left

-- at the one whom another joined
near_of : (size u k : ℕ) (r : World) → IsMember size u r → k < size → k < length r.neighbours
near_of size u k r m short = omega (arith, short, m.tables.one_a_node)

pub joiner_member : (size u k : ℕ) (r : World) → IsMember size u r → k < size → (k ≡ u → ⊥) → IsMember size u (joiner r k)
joiner_member size u k r m short other =
    let near = near_of size u k r m short in
    let n = neighbour_at r.neighbours k in
    let f = joined r.opening (distance r) (r.sessions + 1) in
    let q : IsQueued size (f n) = record {
      within = all_within r.opening n.exports size (distance r) r.opening.size m.size (omega (arith, m.size))
          (λ v. omega (arith, m.size, best_within r.opening v (neighbour_distances r v)));
      idle = λ down. absurd (let h : true ≡ false = down in cc);
    } in
    record {
      size = m.size;
      me = m.me;
      tables = change_good size k f r.neighbours near m.tables
          (subst (λ s. IsNeighbour s (f n)) m.size
          (joined_good r.opening (distance r) (r.sessions + 1) n (subst (λ s. IsNeighbour s n) (sym m.size) (m.tables.each k nobody near))));
      sound = changed_sound size (r.sessions + 1) r k f m.sound near (new_own size r k m.sound) q;
      apart = ap is_up (changed_other k u f r.neighbours near (λ e. other (sym e))) ∙ m.apart;
    }

pub joiner_distance : (size u k v : ℕ) (r : World) → IsMember size u r → is_up (neighbour_at r.neighbours k) ≡ false → v < size →
    distance (joiner r k) v ≡ distance r v
joiner_distance size u k v r m down below =
    let n = neighbour_at r.neighbours k in
    ap (λ ds. (best_by r.opening v ds).dist)
    (map_change_same (neighbour_distance r.opening v) k (joined r.opening (distance r) (r.sessions + 1)) r.neighbours
    (joined_distance r.opening (distance r) (r.sessions + 1) v n (down_none n down) (omega (arith, below, m.size))))

pub joiner_keeps : (size u k b : ℕ) (r : World) → IsMember size u r → k < size → is_up (neighbour_at r.neighbours k) ≡ false → (b ≡ k → ⊥) →
    KeepsLink size r (joiner r k) b
joiner_keeps size u k b r m short down other =
    let same : neighbour_at (joiner r k).neighbours b ≡ neighbour_at r.neighbours b =
    changed_other k b (joined r.opening (distance r) (r.sessions + 1)) r.neighbours (near_of size u k r m short) other in
    record {
      session = ap (λ n. n.session) same;
      advertised = ap (λ n. n.advertised) same;
      tells = λ up v before below told.
          subst (λ y. last_told v before y.queue ≡ filtered_distance r.opening y.exports v (distance (joiner r k) v)) (sym same)
          (told ∙ ap (λ x. filtered_distance r.opening (neighbour_at r.neighbours b).exports v x) (sym (joiner_distance size u k v r m down below)));
    }

pub joiner_at : (size u k : ℕ) (r : World) → IsMember size u r → k < size →
    neighbour_at (joiner r k).neighbours k ≡ joined r.opening (distance r) (r.sessions + 1) (neighbour_at r.neighbours k)
joiner_at size u k r m short = changed_at k (joined r.opening (distance r) (r.sessions + 1)) r.neighbours (near_of size u k r m short)

pub joiner_up : (size u k : ℕ) (r : World) → IsMember size u r → k < size → is_up (neighbour_at (joiner r k).neighbours k) ≡ true
joiner_up size u k r m short = ap is_up (joiner_at size u k r m short)

pub joiner_tells : (size u k v : ℕ) (r rb : World) → IsMember size u r → k < size → is_up (neighbour_at r.neighbours k) ≡ false → v < size →
    ToldBy (joiner r k) rb [] u k v
joiner_tells size u k v r rb m short down below =
    let n = neighbour_at r.neighbours k in
    let advertised = slice_index (neighbour_at rb.neighbours u).advertised v in
    subst (λ y. last_told v advertised ([] ++ y.queue) ≡ filtered_distance r.opening y.exports v (distance (joiner r k) v)) (sym (joiner_at size u k r m short))
    (told_all r.opening n.exports (distance r) r.opening.size v advertised (omega (arith, below, m.size))
    ∙ ap (λ x. filtered_distance r.opening n.exports v x) (sym (joiner_distance size u k v r m down below)))

-- the two, and the others
pub other_end : (d : Domain) (u w : ℕ) → IsInOrder d → CanLink d u w → are_linked d w u ≡ false
other_end d u w o c =
    elim (Rattle.std.proofs.lemmas.Bool.cases_Bool (are_linked d w u)) [
      | inl up ↦ absurd (let h : true ≡ false = sym (o.both_ways w u c.to c.from up) ∙ c.unlinked in cc)
      | inr down ↦ down
    ]

pub up_at_one : (d : Domain) (u w : ℕ) → IsInOrder d → CanLink d u w →
    next (d.router u) (event.Up w) ≡ answered (joiner (d.router u) w) (reply.Opened ((d.router u).sessions + 1))
up_at_one d u w o c = up_joins d.size u w (d.router u) (member_of d u o c.from) c.to (λ e. c.apart (sym e)) c.unlinked c.left

pub up_at_other : (d : Domain) (u w : ℕ) → IsInOrder d → CanLink d u w →
    next (d.router w) (event.Up u) ≡ answered (joiner (d.router w) u) (reply.Opened ((d.router w).sessions + 1))
up_at_other d u w o c = up_joins d.size w u (d.router w) (member_of d w o c.to) c.from c.apart (other_end d u w o c) c.left_there

pub linked_one : (d : Domain) (u w : ℕ) → IsInOrder d → CanLink d u w → (links d u w).router u ≡ joiner (d.router u) w
linked_one d u w o c =
    let e = enters d u (event.Up w) in
    router_other e w (next (e.router w) (event.Up u)).world u c.apart
    ∙ router_here d u (next (d.router u) (event.Up w)).world
    ∙ ap (λ a. a.world) (up_at_one d u w o c)

pub linked_other : (d : Domain) (u w : ℕ) → IsInOrder d → CanLink d u w → (links d u w).router w ≡ joiner (d.router w) u
linked_other d u w o c =
    let e = enters d u (event.Up w) in
    router_here e w (next (e.router w) (event.Up u)).world
    ∙ ap (λ r. (next r (event.Up u)).world) (router_other d u (next (d.router u) (event.Up w)).world w (λ h. c.apart (sym h)))
    ∙ ap (λ a. a.world) (up_at_other d u w o c)

pub linked_third : (d : Domain) (u w x : ℕ) → (x ≡ u → ⊥) → (x ≡ w → ⊥) → (links d u w).router x ≡ d.router x
linked_third d u w x one other =
    let e = enters d u (event.Up w) in
    router_other e w (next (e.router w) (event.Up u)).world x other ∙ router_other d u (next (d.router u) (event.Up w)).world x one

pub links_in_order : (d : Domain) (u w : ℕ) → IsInOrder d → CanLink d u w → IsInOrder (links d u w)
links_in_order d u w o c =
    two_routers_keep_order d e u w s t o c.from c.to c.apart one other (λ x p q. linked_third d u w x p q)
    (joiner_member d.size u w r m c.to (λ h. c.apart (sym h)))
    (joiner_member d.size w u z n c.from c.apart)
    (λ b short unlike. joiner_keeps d.size u w b r m c.to c.unlinked unlike)
    (λ b short unlike. joiner_keeps d.size w u b z n c.from back unlike)
    (λ a b from to i j. refl)
    (inr (inl (record {
      up = up_u;
      up_there = up_w;
      flight = o.silent u w c.from c.to c.unlinked;
      told = λ v below. subst (λ f. ToldBy (e.router u) (e.router w) f u w v) (sym (o.silent u w c.from c.to c.unlinked))
          (subst (λ x. ToldBy x (e.router w) [] u w v) (sym one) (joiner_tells d.size u w v r (e.router w) m c.to c.unlinked below));
    })))
    (inr (inl (record {
      up = up_w;
      up_there = up_u;
      flight = o.silent w u c.to c.from back;
      told = λ v below. subst (λ f. ToldBy (e.router w) (e.router u) f w u v) (sym (o.silent w u c.to c.from back))
          (subst (λ x. ToldBy x (e.router u) [] w u v) (sym other) (joiner_tells d.size w u v z (e.router u) n c.from back below));
    })))
  where
    e : Domain
    e = links d u w

    r : World
    r = d.router u

    z : World
    z = d.router w

    s : World
    s = joiner r w

    t : World
    t = joiner z u

    m : IsMember d.size u r
    m = member_of d u o c.from

    n : IsMember d.size w z
    n = member_of d w o c.to

    back : are_linked d w u ≡ false
    back = other_end d u w o c

    one : e.router u ≡ s
    one = linked_one d u w o c

    other : e.router w ≡ t
    other = linked_other d u w o c

    up_u : are_linked e u w ≡ true
    up_u = ap (λ x. is_up (neighbour_at x.neighbours w)) one ∙ joiner_up d.size u w r m c.to

    up_w : are_linked e w u ≡ true
    up_w = ap (λ x. is_up (neighbour_at x.neighbours u)) other ∙ joiner_up d.size w u z n c.from
