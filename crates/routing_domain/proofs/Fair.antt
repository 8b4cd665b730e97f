-- A router whose neighbours tell what is right below a bound, but for the ends of some links, which may also tell nothing, or anything that is
-- not too near: its distance is right below the bound, where the distances of rest with those links and without them are one there.
use mathlib.Core.Logic.{inl, inr}
use Rattle.std.proofs.Common.{◌≡◌, ◌⊎◌, ⊎_elim, ℕ, ◌<◌, ◌≤◌, suc, Bool, true, false, cond, List, length, slice_index, refl, sym, ap, subst, ◌∙◌, arith}
use Rattle.std.specs.Prelude.{◌≢◌}
use Rattle.std.proofs.lemmas.Bool.{cases_Bool, cases_eq, cases_lt, cases_order, false_from_ne_true}
use Rattle.netchange_core.specs.declared.reply.Via.{Via}
use Rattle.netchange_core.specs.declared.reply.Via.TheVariants.{Local, Node, Nowhere}
use Rattle.netchange_core.specs.Best.{best, distance, neighbour_distances}
use Rattle.netchange_core.specs.FilteredDistance.{filtered_distance}
use Rattle.netchange_core.specs.Leading.{Leads, LeadsBy}
use Rattle.netchange_core.specs.World.{NeighbourView, World, is_up, neighbour_at, nobody}
use Rattle.netchange_core.proofs.Opened.{best_within, own_route}
use Rattle.routing_domain.specs.Domain.{Domain, IsInOrder, IsMember, are_linked, exported, imported, topology}
use Rattle.routing_domain.specs.Failures.{IsLoose, Loose, with_all, with_none}
use Rattle.routing_domain.specs.Rest.{IsRest, LeadsThrough}
use Rattle.routing_domain.specs.Ways.{GoesVia, LeadsFirst}
use Rattle.routing_domain.proofs.Alone.{leads_nearer}
use Rattle.routing_domain.proofs.Increasing.{filtered_farther, never_nearer}
use Rattle.routing_domain.proofs.Nearer.{at_neighbour, leads_of}
use Rattle.routing_domain.proofs.Nearing.{IsRight}

-- A domain that is watched, and one destination: its distances of rest with all links that may come and go and without them, which are one
-- below a bound.
pub record IsWatched (d : Domain) (v k : ℕ) (loose : Loose) (a b : ℕ → ℕ) : Type 0 where
  pub order : IsInOrder d
  pub loose_ends : IsLoose loose
  pub there : v < d.size
  pub fits : k ≤ d.size
  pub top : IsRest (with_all (topology d v) loose) v a
  pub bottom : IsRest (with_none (topology d v) loose) v b
  pub agree : (u : ℕ) → u < d.size → IsRight k (a u) (a u) (b u)

-- what may not be so of a link one way may not be so the other way, nor of its filters
beside_back : (loose : Loose) → IsLoose loose → (x y : ℕ) → loose.links x y ≡ false → loose.links y x ≡ false
beside_back loose i x y h = false_from_ne_true (loose.links y x) (λ t. let both : true ≡ false = sym (i.back y x t) ∙ h in cc)

steady : (loose : Loose) → IsLoose loose → (x y : ℕ) → loose.links x y ≡ false → loose.filters x y ≡ false
steady loose i x y h = false_from_ne_true (loose.filters x y) (λ t. let both : true ≡ false = sym (i.within x y t) ∙ h in cc)

-- What one node may have told another. Where a filter may be replaced: nothing nearer than its distance of rest. Else: what that comes to; or, where
-- it is at the bound or past it or the link may come and go, anything at the bound or past it.
abbrev pub IsFair : Bool → Bool → ℕ → ℕ → ℕ → ℕ → Type 0
IsFair flaps changes k wanted rest z =
    ((changes ≡ true) × (rest ≤ z)) ⊎ (((changes ≡ false) × (z ≡ wanted)) ⊎ ((flaps ≡ false → k ≤ rest) × (k ≤ z)))

abbrev pub Fair : Domain → ℕ → ℕ → Loose → (ℕ → ℕ) → ℕ → ℕ → ℕ → Type 0
Fair d v k loose a x y z = IsFair (loose.links x y) (loose.filters y x) k (exported d x y v (a x)) (a x) z

-- a router sees what it saw in the watched domain, but for what may change
pub record Sees (d : Domain) (v : ℕ) (loose : Loose) (u : ℕ) (r : World) : Type 0 where
  pub member : IsMember d.size u r
  pub up : (w : ℕ) → loose.links u w ≡ false → is_up (neighbour_at r.neighbours w) ≡ are_linked d u w
  pub imports : (w : ℕ) → loose.filters u w ≡ false → (z : ℕ) → filtered_distance r.opening (neighbour_at r.neighbours w).imports v z ≡ imported d u w v z
  pub exports : (w : ℕ) → loose.filters w u ≡ false → (z : ℕ) → filtered_distance r.opening (neighbour_at r.neighbours w).exports v z ≡ exported d u w v z

-- and it heard what is fair
abbrev pub HearsFair : Domain → ℕ → ℕ → Loose → (ℕ → ℕ) → ℕ → World → Type 0
HearsFair d v k loose a u r =
    (w : ℕ) → w < d.size → is_up (neighbour_at r.neighbours w) ≡ true → Fair d v k loose a w u (slice_index (neighbour_at r.neighbours w).advertised v)

abbrev gives : World → ℕ → ℕ → ℕ
gives r v w = slice_index (neighbour_distances r v) w

gives_up : (d : Domain) (v : ℕ) (loose : Loose) (u : ℕ) (r : World) → Sees d v loose u r → (w : ℕ) → w < d.size → is_up (neighbour_at r.neighbours w) ≡ true →
    loose.filters u w ≡ false → gives r v w ≡ imported d u w v (slice_index (neighbour_at r.neighbours w).advertised v)
gives_up d v loose u r s w near up fixed =
    let n = neighbour_at r.neighbours w in
    at_neighbour r v w (omega (arith, near, s.member.tables.one_a_node))
    ∙ ap (λ c. cond c (filtered_distance r.opening n.imports v (slice_index n.advertised v)) r.opening.size) up
    ∙ s.imports w fixed (slice_index n.advertised v)

gives_down : (d : Domain) (v : ℕ) (loose : Loose) (u : ℕ) (r : World) → Sees d v loose u r → (w : ℕ) → w < d.size → is_up (neighbour_at r.neighbours w) ≡ false →
    gives r v w ≡ d.size
gives_down d v loose u r s w near down =
    let n = neighbour_at r.neighbours w in
    at_neighbour r v w (omega (arith, near, s.member.tables.one_a_node))
    ∙ ap (λ c. cond c (filtered_distance r.opening n.imports v (slice_index n.advertised v)) r.opening.size) down
    ∙ s.member.size

-- who is up is linked, where the links are
up_linked : (d : Domain) (v : ℕ) (loose : Loose) (u : ℕ) (r : World) → Sees d v loose u r → (w : ℕ) → is_up (neighbour_at r.neighbours w) ≡ true →
    cond (loose.links u w) true (are_linked d u w) ≡ true
up_linked d v loose u r s w up =
    ⊎_elim
    (λ (yes : loose.links u w ≡ true). ap (λ c. cond c true (are_linked d u w)) yes)
    (λ (beside : loose.links u w ≡ false). ap (λ c. cond c true (are_linked d u w)) beside ∙ sym (s.up w beside) ∙ up)
    (cases_Bool (loose.links u w))

-- and gives no less than it told
no_less : (d : Domain) (v : ℕ) (loose : Loose) (u : ℕ) (r : World) → Sees d v loose u r → (w : ℕ) → w < d.size → is_up (neighbour_at r.neighbours w) ≡ true →
    slice_index (neighbour_at r.neighbours w).advertised v ≤ gives r v w
no_less d v loose u r s w near up =
    let n = neighbour_at r.neighbours w in
    let z = slice_index n.advertised v in
    let place : w < length r.neighbours = omega (arith, near, s.member.tables.one_a_node) in
    omega (
      arith,
      at_neighbour r v w place ∙ ap (λ c. cond c (filtered_distance r.opening n.imports v z) r.opening.size) up,
      (filtered_farther r.opening n.imports v z (omega (arith, (s.member.tables.each w nobody place).reachable v, s.member.size))).farther,
    )

-- no neighbour gives less than it should
gives_enough : (d : Domain) (v k : ℕ) (loose : Loose) (a b : ℕ → ℕ) (u : ℕ) (r : World) → IsWatched d v k loose a b → Sees d v loose u r → HearsFair d v k loose a u r →
    u < d.size → u ≢ v → (w : ℕ) → w < d.size → (a u ≤ suc (gives r v w)) ⊎ (k ≤ gives r v w)
gives_enough d v k loose a b u r watched s fair short other w near =
    ⊎_elim
    (λ (up : is_up n ≡ true). told up (fair w near up))
    (λ (down : is_up n ≡ false). inl (omega (arith, gives_down d v loose u r s w near down, watched.top.bounded u short)))
    (cases_Bool (is_up n))
  where
    n : NeighbourView
    n = neighbour_at r.neighbours w

    z : ℕ
    z = slice_index n.advertised v

    told : is_up n ≡ true → Fair d v k loose a w u z → (a u ≤ suc (gives r v w)) ⊎ (k ≤ gives r v w)
    told up (inl far) =
        inl (omega (
          arith,
          far.1,
          no_less d v loose u r s w near up,
          watched.top.least u short other w near (up_linked d v loose u r s w up),
          ap (λ c. cond c (a w) ((topology d v).filtered u w (a w))) far.0,
        ))
    told up (inr (inl is)) =
        inl (omega (
          arith,
          gives_up d v loose u r s w near up is.0 ∙ ap (imported d u w v) is.1,
          watched.top.least u short other w near (up_linked d v loose u r s w up),
          ap (λ c. cond c (a w) ((topology d v).filtered u w (a w))) is.0,
        ))
    told up (inr (inr past)) = inr (omega (arith, past.1, no_less d v loose u r s w near up))

-- some neighbour gives what it should, where that is below the bound
record Leader (d : Domain) (v k : ℕ) (a : ℕ → ℕ) (u : ℕ) (r : World) : Type 0 where
  node : ℕ
  near : node < d.size
  gives_it : a u ≡ suc (gives r v node)

cond_none : (c b : Bool) → cond c false b ≡ true → (c ≡ false) × (b ≡ true)
cond_none true b h = absurd (let no : false ≡ true = h in cc)
cond_none false b h = (refl, h)

-- one through which the route of rest without the links leads
led_gives : (d : Domain) (v k : ℕ) (loose : Loose) (a b : ℕ → ℕ) (u : ℕ) (r : World) → IsWatched d v k loose a b → Sees d v loose u r → HearsFair d v k loose a u r →
    u < d.size → a u < k → (w : ℕ) → LeadsThrough (with_none (topology d v) loose) v b u w → a u ≡ suc (gives r v w)
led_gives d v k loose a b u r watched s fair short near w l = told (fair w l.member up)
  where
    same_here : b u ≡ a u
    same_here =
        ⊎_elim (λ (is : b u ≡ a u). is) (λ (past : (k ≤ a u) × (k ≤ b u)). absurd (omega (arith, past.0, near))) (watched.agree u short)

    parts : (loose.links u w ≡ false) × (are_linked d u w ≡ true)
    parts = cond_none (loose.links u w) (are_linked d u w) l.linked

    fixed : loose.filters u w ≡ false
    fixed = steady loose watched.loose_ends u w (parts.0)

    up : is_up (neighbour_at r.neighbours w) ≡ true
    up = s.up w (parts.0) ∙ parts.1

    nearer : b w < b u
    nearer = leads_nearer (with_none (topology d v) loose) v b (never_nearer d watched.order v) watched.bottom u w short l

    same : a w ≡ b w
    same = ⊎_elim (λ (is : b w ≡ a w). sym is) (λ (past : (k ≤ a w) × (k ≤ b w)). absurd (omega (arith, past.1, nearer, same_here, near)))
        (watched.agree w l.member)

    told : Fair d v k loose a w u (slice_index (neighbour_at r.neighbours w).advertised v) → a u ≡ suc (gives r v w)
    told (inl far) = absurd (let both : true ≡ false = sym far.0 ∙ fixed in cc)
    told (inr (inl is)) =
        omega (
          arith,
          same_here,
          l.one_more,
          gives_up d v loose u r s w l.member up fixed ∙ ap (imported d u w v) is.1 ∙ ap (λ x. imported d u w v (exported d w u v x)) same,
        )
    told (inr (inr past)) =
        absurd (omega (arith, past.0 (beside_back loose watched.loose_ends u w (parts.0)), nearer, same, same_here, near))

leader : (d : Domain) (v k : ℕ) (loose : Loose) (a b : ℕ → ℕ) (u : ℕ) (r : World) → IsWatched d v k loose a b → Sees d v loose u r → HearsFair d v k loose a u r →
    u < d.size → u ≢ v → a u < k → Leader d v k a u r
leader d v k loose a b u r watched s fair short other near =
    let led : (w : ℕ) × LeadsThrough (with_none (topology d v) loose) v b u w = watched.bottom.led u short other (omega (arith, same_here, near, watched.fits)) in
    record { node = led.0; near = (led.1).member; gives_it = led_gives d v k loose a b u r watched s fair short near (led.0) (led.1) }
  where
    same_here : b u ≡ a u
    same_here =
        ⊎_elim (λ (is : b u ≡ a u). is) (λ (past : (k ≤ a u) × (k ≤ b u)). absurd (omega (arith, past.0, near))) (watched.agree u short)

-- the best route, as a relation
leads : (d : Domain) (v : ℕ) (loose : Loose) (u : ℕ) (r : World) → Sees d v loose u r → u ≢ v → Leads d.size d.size (neighbour_distances r v) (best r v)
leads d v loose u r s other =
    subst (λ n. Leads d.size n (neighbour_distances r v) (best r v)) s.member.tables.one_a_node
    (subst (λ n. Leads n (length r.neighbours) (neighbour_distances r v) (best r v)) s.member.size
    (leads_of r v (λ e. other (sym (e ∙ s.member.me)))))

enough_by : (d : Domain) (v k u : ℕ) (a : ℕ → ℕ) (ds : List ℕ) → a u ≤ d.size → ((w : ℕ) → w < d.size → (a u ≤ suc (slice_index ds w)) ⊎ (k ≤ slice_index ds w)) →
    (dist : ℕ) (via : Via) → LeadsBy d.size d.size ds dist via → (a u ≤ dist) ⊎ (k ≤ dist)
enough_by d v k u a ds most each dist Local l = absurd l
enough_by d v k u a ds most each dist (Node hop) l =
    ⊎_elim
    (λ (least : a u ≤ suc (slice_index ds hop)). inl (omega (arith, least, l.one_more)))
    (λ (past : k ≤ slice_index ds hop). inr (omega (arith, past, l.one_more)))
    (each hop l.is_neighbour)
enough_by d v k u a ds most each dist Nowhere l = inl (omega (arith, l.out_of_reach, most))

no_more_by : (size : ℕ) (ds : List ℕ) (dist : ℕ) (via : Via) → LeadsBy size size ds dist via → (w : ℕ) → w < size → dist ≤ suc (slice_index ds w)
no_more_by size ds dist Local l w near = absurd l
no_more_by size ds dist (Node hop) l w near = omega (arith, l.least w near)
no_more_by size ds dist Nowhere l w near = omega (arith, l.out_of_reach, l.none w near)

pub distance_fair : (d : Domain) (v k : ℕ) (loose : Loose) (a b : ℕ → ℕ) (u : ℕ) (r : World) → IsWatched d v k loose a b → Sees d v loose u r → HearsFair d v k loose a u r →
    u < d.size → IsRight k (a u) (a u) (distance r v)
distance_fair d v k loose a b u r watched s fair short =
    ⊎_elim
    (λ (own : u ≡ v). inl (ap (λ x. x.dist) (own_route r.opening v (neighbour_distances r v) (sym (s.member.me ∙ own))) ∙ sym (ap a own ∙ watched.top.own)))
    (λ (other : u ≡ v → ⊥). right other (low other))
    (cases_eq u v)
  where
    dist : ℕ
    dist = distance r v

    low : (u ≡ v → ⊥) → (a u ≤ dist) ⊎ (k ≤ dist)
    low other = enough_by d v k u a (neighbour_distances r v) (watched.top.bounded u short)
        (gives_enough d v k loose a b u r watched s fair short other) dist (best r v).via (leads d v loose u r s other)

    right : (u ≡ v → ⊥) → (a u ≤ dist) ⊎ (k ≤ dist) → IsRight k (a u) (a u) dist
    right other lower =
        ⊎_elim
        (λ (near : a u < k).
        let l : Leader d v k a u r = leader d v k loose a b u r watched s fair short other near in
        let high : dist ≤ a u =
        omega (arith, l.gives_it, no_more_by d.size (neighbour_distances r v) dist (best r v).via (leads d v loose u r s other) l.node l.near) in
        inl (omega (arith, lower, high, near)))
        (λ (far : k ≤ a u). inr (far, omega (arith, lower, far)))
        (cases_lt (a u) k)

-- what a router tells of such a distance is fair
pub told_fair : (d : Domain) (v k : ℕ) (loose : Loose) (a : ℕ → ℕ) (u : ℕ) (r : World) → Sees d v loose u r → IsRight k (a u) (a u) (distance r v) → (w : ℕ) →
    Fair d v k loose a u w (filtered_distance r.opening (neighbour_at r.neighbours w).exports v (distance r v))
told_fair d v k loose a u r s right w =
    ⊎_elim
    (λ (is : distance r v ≡ a u). ⊎_elim
    (λ (changes : loose.filters w u ≡ true). inl (changes, omega (arith, is, farther)))
    (λ (fixed : loose.filters w u ≡ false). inr (inl (fixed, s.exports w fixed (distance r v) ∙ ap (exported d u w v) is)))
    (cases_Bool (loose.filters w u)))
    (λ (past : (k ≤ a u) × (k ≤ distance r v)). inr (inr ((λ _. past.0), omega (arith, past.1, farther))))
    right
  where
    farther : distance r v ≤ filtered_distance r.opening (neighbour_at r.neighbours w).exports v (distance r v)
    farther =
        (filtered_farther r.opening (neighbour_at r.neighbours w).exports v (distance r v) (best_within r.opening v (neighbour_distances r v))).farther

-- and a next hop that is the same with the links and without them is that of the router
hop_by : (d : Domain) (v k : ℕ) (loose : Loose) (a b : ℕ → ℕ) (u : ℕ) (r : World) → IsWatched d v k loose a b → Sees d v loose u r → HearsFair d v k loose a u r →
    u < d.size → a u < k → (w : ℕ) → LeadsFirst (with_all (topology d v) loose) v a u w → LeadsFirst (with_none (topology d v) loose) v b u w →
    (dist : ℕ) (via : Via) → dist ≡ a u → LeadsBy d.size d.size (neighbour_distances r v) dist via → via ≡ Node w
hop_by d v k loose a b u r watched s fair short near w one other dist Local is l = absurd l
hop_by d v k loose a b u r watched s fair short near w one other dist Nowhere is l = absurd (omega (arith, l.out_of_reach, is, near, watched.fits))
hop_by d v k loose a b u r watched s fair short near w one other dist (Node hop) is l =
    ap (λ x. Node x)
    (⊎_elim (λ (same : hop ≡ w). same)
    (λ (apart : (hop < w) ⊎ (w < hop)). ⊎_elim
    (λ (before : hop < w). absurd (one.first hop before leads_too))
    (λ (past : w < hop). absurd (omega (arith, l.first w past, is, led_gives d v k loose a b u r watched s fair short near w other.leads)))
    apart)
    (cases_order hop w))
  where
    up : is_up (neighbour_at r.neighbours hop) ≡ true
    up = ⊎_elim
        (λ (yes : is_up (neighbour_at r.neighbours hop) ≡ true). yes)
        (λ (down : is_up (neighbour_at r.neighbours hop) ≡ false).
        absurd (omega (arith, l.one_more, gives_down d v loose u r s hop l.is_neighbour down, l.in_reach)))
        (cases_Bool (is_up (neighbour_at r.neighbours hop)))

    one_hop : Fair d v k loose a hop u (slice_index (neighbour_at r.neighbours hop).advertised v) →
        a u ≡ suc ((with_all (topology d v) loose).filtered u hop (a hop))
    one_hop (inl far) =
        omega (
          arith,
          far.1,
          is,
          l.one_more,
          no_less d v loose u r s hop l.is_neighbour up,
          watched.top.least u short one.leads.other hop l.is_neighbour (up_linked d v loose u r s hop up),
          ap (λ c. cond c (a hop) ((topology d v).filtered u hop (a hop))) far.0,
        )
    one_hop (inr (inl told)) =
        omega (
          arith,
          is,
          l.one_more,
          gives_up d v loose u r s hop l.is_neighbour up told.0 ∙ ap (imported d u hop v) told.1,
          ap (λ c. cond c (a hop) ((topology d v).filtered u hop (a hop))) told.0,
        )
    one_hop (inr (inr past)) = absurd (omega (arith, past.1, no_less d v loose u r s hop l.is_neighbour up, l.one_more, is, near))

    leads_too : LeadsThrough (with_all (topology d v) loose) v a u hop
    leads_too = record {
      other = one.leads.other;
      member = l.is_neighbour;
      linked = up_linked d v loose u r s hop up;
      one_more = one_hop (fair hop l.is_neighbour up);
      in_reach = omega (arith, near, watched.fits);
    }

pub via_fair : (d : Domain) (v k : ℕ) (loose : Loose) (a b : ℕ → ℕ) (u : ℕ) (r : World) → IsWatched d v k loose a b → Sees d v loose u r → HearsFair d v k loose a u r →
    u < d.size → a u < k → (via : Via) → GoesVia (with_all (topology d v) loose) v a u via → GoesVia (with_none (topology d v) loose) v b u via →
    (best r v).via ≡ via
via_fair d v k loose a b u r watched s fair short near Local one other =
    ap (λ x. x.via) (own_route r.opening v (neighbour_distances r v) (sym (s.member.me ∙ one)))
via_fair d v k loose a b u r watched s fair short near Nowhere one other = absurd (omega (arith, one.1, near, watched.fits))
via_fair d v k loose a b u r watched s fair short near (Node w) one other =
    hop_by d v k loose a b u r watched s fair short near w one other (distance r v) (best r v).via is (leads d v loose u r s one.leads.other)
  where
    is : distance r v ≡ a u
    is = ⊎_elim
        (λ (same : distance r v ≡ a u). same)
        (λ (past : (k ≤ a u) × (k ≤ distance r v)). absurd (omega (arith, past.0, near)))
        (distance_fair d v k loose a b u r watched s fair short)
