-- A domain that gains links, and whose filters keep order, brings no destination farther, and never has a loop.
use mathlib.Core.Logic.{inl, inr}
use Rattle.std.proofs.Common.{◌≡◌, ⊎_elim, ℕ, ◌+◌, ◌<◌, ◌≤◌, zero, suc, true, false, [], ◌∷◌, ◌++◌, slice_index}
use Rattle.std.proofs.Common.{refl, sym, ap, subst, ◌∙◌, arith}
use Rattle.std.specs.Prelude.{◌≢◌, Option}
use Rattle.filter_verifier.specs.VerifiedView.{VerifiedView}
use Rattle.std.proofs.lemmas.Bool.{cases_Bool, cases_eq}
use Rattle.std.proofs.lemmas.List.Elements.{All-weaker}
use Rattle.netchange_core.specs.declared.message.Message.{Message}
use Rattle.netchange_core.specs.declared.reply.Via.{Via}
use Rattle.netchange_core.specs.declared.reply.Via.TheVariants.{Local, Node, Nowhere}
use Rattle.netchange_core.specs.Best.{best, distance}
use Rattle.netchange_core.specs.FilteredDistance.{filtered_distance}
use Rattle.netchange_core.specs.Leading.{LeadsBy}
use Rattle.netchange_core.specs.Next.{all_messages, joined}
use Rattle.netchange_core.specs.World.{NeighbourView, World, is_up, neighbour_at}
use Rattle.netchange_core.proofs.Good.{filtered_unreached}
use Rattle.netchange_core.proofs.Opened.{best_within, own_route}
use Rattle.routing_domain.specs.Domain.{Domain, IsInOrder, IsMember, IsQuiet, KeepsLinksAndFilters, are_linked, exported, imported, last_told, neighbour, pending, topology}
use Rattle.routing_domain.specs.Events.{CanLink, links}
use Rattle.routing_domain.specs.Gains.{Gains, GainsLink, KeepsOrder}
use Rattle.routing_domain.specs.Phases.{awaited_after}
use Rattle.routing_domain.specs.Runs.{IsStep}
use Rattle.routing_domain.proofs.ComingUp.{unreached_at}
use Rattle.routing_domain.proofs.Ending.{step_keeps}
use Rattle.routing_domain.proofs.Falling.{Falls, all_say, falls_on, falls_once, falls_to_the_end, falls_without}
use Rattle.routing_domain.proofs.Forwarding.{Hops}
use Rattle.routing_domain.proofs.Increasing.{filtered_farther, never_nearer}
use Rattle.routing_domain.proofs.Keeping.{member_of}
use Rattle.routing_domain.proofs.Links.{joiner, joiner_at, joiner_distance, linked_one, linked_other, linked_third, links_in_order, other_end}
use Rattle.routing_domain.proofs.Moving.{Moves, Says, heard, step_exports, step_moves}
use Rattle.routing_domain.proofs.Nearing.{gives}
use Rattle.routing_domain.proofs.Order.{wide}
use Rattle.routing_domain.proofs.Places.{IsOther}
use Rattle.routing_domain.proofs.Quiet.{given, leads, least_by, size_of_down}
use Rattle.routing_domain.proofs.Recomputed.{changed_other}
use Rattle.routing_domain.proofs.Running.{step_keeps_order}
use Rattle.routing_domain.proofs.Topologies.{AreNow, kept_topology, links_topology, two_read}
use Rattle.routing_domain.proofs.Turning.{IsAbout}

-- what the second node hears of the first about a destination, and will hear, never gets farther
abbrev pub FallsOver : Domain → ℕ → ℕ → ℕ → Type 0
FallsOver d v x y = Falls (imported d y x v) v (heard d x y v) (pending d x y)

-- so over all links of a domain in order whose filters keep order
pub record IsFalling (d : Domain) (v : ℕ) : Type 0 where
  pub order : IsInOrder d
  pub there : v < d.size
  pub keeps : KeepsOrder (topology d v)
  pub falls : (x y : ℕ) → x < d.size → y < d.size → are_linked d x y ≡ true → FallsOver d v x y

-- nothing is awaited in a quiet domain
pub quiet_falls : (d : Domain) (v : ℕ) → IsInOrder d → IsQuiet d → v < d.size → KeepsOrder (topology d v) → IsFalling d v
quiet_falls d v o q there keeps = record {
  order = o;
  there = there;
  keeps = keeps;
  falls = λ x y from to linked. subst (Falls (imported d y x v) v (heard d x y v))
      (sym (ap (λ ms. ms ++ (neighbour d x y).queue) (q.flights x y from to) ∙ q.queues x y from to)) refl;
}

-- Where no neighbour of a node gives more than before, its distance is no farther.
distance_falls : (d e : Domain) → IsInOrder d → IsInOrder e → e.size ≡ d.size → (v u : ℕ) → u < d.size →
    ((w : ℕ) → w < d.size → slice_index (given e u v) w ≤ slice_index (given d u v) w) → distance (e.router u) v ≤ distance (d.router u) v
distance_falls d e o oe size v u short less =
    ⊎_elim
    (λ (own : u ≡ v). omega (
      arith,
      ap (λ b. b.dist) (own_route (e.router u).opening v (given e u v) (sym (oe.me u (omega (arith, short, size)) ∙ own))),
    ))
    (λ (other : u ≡ v → ⊥). by (distance (d.router u) v) (best (d.router u) v).via (leads d o u v short other) other)
    (cases_eq u v)
  where
    here : u < e.size
    here = omega (arith, short, size)

    by : (dist : ℕ) (via : Via) → LeadsBy d.size d.size (given d u v) dist via → u ≢ v → distance (e.router u) v ≤ dist
    by dist Local l other = absurd l
    by dist (Node hop) l other = omega (
      arith,
      l.one_more,
      less hop l.is_neighbour,
      least_by e u v (distance (e.router u) v) (best (e.router u) v).via (leads e oe u v here other) hop (omega (arith, l.is_neighbour, size)),
    )
    by dist Nowhere l other = omega (
      arith,
      l.out_of_reach,
      size,
      oe.size u here,
      best_within (e.router u).opening v (given e u v),
    )

-- one step
record FallsBy (d e : Domain) (v : ℕ) : Type 0 where
  falling : IsFalling e v
  size : e.size ≡ d.size
  nearer : (u : ℕ) → u < d.size → distance (e.router u) v ≤ distance (d.router u) v

step_imports : (d e : Domain) → IsStep d e → (a b v x : ℕ) → imported e a b v x ≡ imported d a b v x
step_imports d e step a b v x =
    let k : KeepsLinksAndFilters d e = step_keeps d e step in
    λ i. filtered_distance (k.openings a i) (k.imports a b i) v x

-- what is heard over a link gets no farther
heard_falls : (f : ℕ → ℕ) (d e : Domain) (v x y : ℕ) (left : ℕ → ℕ) → Moves d e x y left → Falls f v (heard d x y v) (pending d x y) →
    f (heard e x y v) ≤ f (heard d x y v)
heard_falls f d e v x y left (inl g) t = omega (arith, ap f ((g.0).same v))
heard_falls f d e v x y left (inr (inl h)) t =
    omega (arith, ap f ((h.0).told v), (subst (Falls f v (heard d x y v)) (h.0).messages t).0)
heard_falls f d e v x y left (inr (inr s)) t = omega (arith, ap f ((s.0).same v))

-- and what will be heard does not
rest_falls : (f : ℕ → ℕ) (d e : Domain) (v x y : ℕ) (left : ℕ → ℕ) → Moves d e x y left → (dist : ℕ) →
    f dist ≤ f (last_told v (heard d x y v) (pending d x y)) →
    ((m : Message) → Says e x y m → IsAbout v (λ z. z ≡ dist) m) →
    Falls f v (heard d x y v) (pending d x y) → Falls f v (heard e x y v) (pending e x y)
rest_falls f d e v x y left (inl g) dist less says t =
    subst (λ b. Falls f v b (pending e x y)) (sym ((g.0).same v))
    (subst (Falls f v (heard d x y v)) (sym (g.0).messages)
    (falls_on f v (heard d x y v) (pending d x y) (g.0).more t
    (falls_once f v (last_told v (heard d x y v) (pending d x y)) dist (g.0).more less
    (All-weaker (Says e x y) (IsAbout v (λ z. z ≡ dist)) says (g.0).more (g.0).says))))
rest_falls f d e v x y left (inr (inl h)) dist less says t =
    subst (λ b. Falls f v b (pending e x y)) (sym ((h.0).told v))
    (subst (Falls f v (heard d x y v)) (h.0).messages t).1
rest_falls f d e v x y left (inr (inr s)) dist less says t =
    subst (λ b. Falls f v b (pending e x y)) (sym ((s.0).same v))
    (subst (Falls f v (heard d x y v)) (sym (s.0).now)
    (falls_without f v (heard d x y v) (s.0).before (s.0).message ((s.0).between ++ (s.0).later ∷ (s.0).behind)
    (subst (Falls f v (heard d x y v)) (s.0).was t)))

step_falls : (d e : Domain) (v : ℕ) → IsFalling d v → IsStep d e → FallsBy d e v
step_falls d e v i step = record {
  falling = record { order = order; there = omega (arith, i.there, kept.size); keeps = keeps; falls = falls };
  size = kept.size;
  nearer = nearer;
}
  where
    kept : KeepsLinksAndFilters d e
    kept = step_keeps d e step

    order : IsInOrder e
    order = step_keeps_order d e i.order step

    same : topology e v ≡ topology d v
    same = kept_topology d e v kept

    keeps : KeepsOrder (topology e v)
    keeps = subst KeepsOrder (sym same) i.keeps

    moves : (x y : ℕ) → x < d.size → y < d.size → Moves d e x y (awaited_after d e step x y)
    moves x y from to = step_moves d e i.order step x y from to

    gives_less : (u : ℕ) → u < d.size → (w : ℕ) → w < d.size → slice_index (given e u v) w ≤ slice_index (given d u v) w
    gives_less u short w near =
        ⊎_elim
        (λ (linked : are_linked d u w ≡ true). omega (
          arith,
          gives d i.order u w v short near linked,
          gives e order u w v (omega (arith, short, kept.size)) (omega (arith, near, kept.size)) (kept.linked u w ∙ linked),
          step_imports d e step u w v (heard e w u v),
          heard_falls (imported d u w v) d e v w u (awaited_after d e step w u) (moves w u near short)
              (i.falls w u near short (i.order.both_ways u w short near linked)),
        ))
        (λ (down : are_linked d u w ≡ false). omega (
          arith,
          size_of_down d i.order u w v short near down,
          size_of_down e order u w v (omega (arith, short, kept.size)) (omega (arith, near, kept.size)) (kept.linked u w ∙ down),
          kept.size,
        ))
        (cases_Bool (are_linked d u w))

    nearer : (u : ℕ) → u < d.size → distance (e.router u) v ≤ distance (d.router u) v
    nearer u short = distance_falls d e i.order order kept.size v u short (gives_less u short)

    most : (u : ℕ) → u < d.size → distance (d.router u) v ≤ d.size
    most u short = subst (λ n. distance (d.router u) v ≤ n) (i.order.size u short) (best_within (d.router u).opening v (given d u v))

    falls : (x y : ℕ) → x < e.size → y < e.size → are_linked e x y ≡ true → FallsOver e v x y
    falls x y from to linked =
        let below_x : x < d.size = omega (arith, from, kept.size) in
        let below_y : y < d.size = omega (arith, to, kept.size) in
        let were : are_linked d x y ≡ true = sym (kept.linked x y) ∙ linked in
        let f : ℕ → ℕ = imported d y x v in
        subst (λ g. Falls g v (heard e x y v) (pending e x y)) (λ j z. sym (step_imports d e step y x v z) j)
        (rest_falls f d e v x y (awaited_after d e step x y) (moves x y below_x below_y) (exported d x y v (distance (e.router x) v))
        (omega (
          arith,
          ap f (i.order.told x y v below_x below_y i.there were),
          i.keeps y x (distance (e.router x) v) (distance (d.router x) v) below_y below_x (nearer x below_x) (most x below_x),
        ))
        (λ m says about. says ∙ ap (λ w. exported e x y w (distance (e.router x) w)) about ∙ step_exports d e step x y v (distance (e.router x) v))
        (i.falls x y below_x below_y were))

-- A new link. The one end has joined the other, and tells it all distances, of which it has told none.
record IsNewOver (d e : Domain) (u w : ℕ) : Type 0 where
  one : e.router u ≡ joiner (d.router u) w
  other : e.router w ≡ joiner (d.router w) u
  nothing : e.flight u w ≡ []

new_falls : (d e : Domain) (v u w : ℕ) → IsInOrder d → v < d.size → u < d.size → w < d.size → IsNewOver d e u w → FallsOver e v u w
new_falls d e v u w o there from to n =
    subst (Falls f v (heard e u w v)) (sym told)
    (falls_once f v (heard e u w v) x (all_messages r.opening exports (distance r) r.opening.size)
    (omega (arith, ap f unheard, far, (filtered_farther (e.router w).opening (neighbour e w u).imports v x little).within, wide_e))
    (all_say r.opening exports (distance r) v r.opening.size))
  where
    r : World
    r = d.router u

    s : World
    s = d.router w

    f : ℕ → ℕ
    f = imported e w u v

    exports : Option VerifiedView
    exports = (neighbour d u w).exports

    x : ℕ
    x = filtered_distance r.opening exports v (distance r v)

    wide_e : (e.router w).opening.size ≡ d.size
    wide_e = ap (λ y. y.opening.size) n.other ∙ o.size w to

    little : x ≤ (e.router w).opening.size
    little = omega (
      arith,
      wide_e,
      o.size u from,
      (filtered_farther r.opening exports v (distance r v) (best_within r.opening v (given d u v))).within,
    )

    unheard : heard e u w v ≡ (e.router w).opening.size
    unheard =
        ap (λ y. slice_index (neighbour_at y.neighbours u).advertised v) n.other
        ∙ ap (λ y. slice_index y.advertised v) (joiner_at d.size w u s (member_of d w o to) from)
        ∙ unreached_at s.opening.size v (omega (arith, there, o.size w to))
        ∙ sym (ap (λ y. y.opening.size) n.other)

    far : f (e.router w).opening.size ≡ (e.router w).opening.size
    far = filtered_unreached (e.router w).opening (neighbour e w u).imports v

    told : pending e u w ≡ all_messages r.opening exports (distance r) r.opening.size
    told =
        ap (λ ms. ms ++ (neighbour e u w).queue) n.nothing
        ∙ ap (λ y. (neighbour_at y.neighbours w).queue) n.one
        ∙ ap (λ y. y.queue) (joiner_at d.size u w r (member_of d u o from) to)

link_falls : (d e : Domain) (v : ℕ) → IsFalling d v → GainsLink d e → FallsBy d e v
link_falls d e v i g = subst (λ c. FallsBy d c v) (sym g.after) (record {
  falling = record {
    order = links_in_order d u w i.order c;
    there = i.there;
    keeps = subst KeepsOrder (sym (links_topology d u w v i.order c)) i.keeps;
    falls = falls;
  };
  size = refl;
  nearer = λ x short. omega (arith, stays x short);
})
  where
    u : ℕ
    u = g.from

    w : ℕ
    w = g.to

    c : CanLink d u w
    c = g.can

    l : Domain
    l = links d u w

    back : are_linked d w u ≡ false
    back = other_end d u w i.order c

    now : AreNow d l u w (joiner (d.router u) w) (joiner (d.router w) u)
    now = record { one = linked_one d u w i.order c; other = linked_other d u w i.order c; third = λ x p q. linked_third d u w x p q }

    mine : IsMember d.size u (d.router u)
    mine = member_of d u i.order c.from

    theirs : IsMember d.size w (d.router w)
    theirs = member_of d w i.order c.to

    stays : (x : ℕ) → x < d.size → distance (l.router x) v ≡ distance (d.router x) v
    stays x short = two_read (λ r. distance r v) d l u w (joiner (d.router u) w) (joiner (d.router w) u) now x
        (λ _. joiner_distance d.size u w v (d.router u) mine c.unlinked i.there)
        (λ _. joiner_distance d.size w u v (d.router w) theirs back i.there)

    -- what is read of a neighbour that is not at the other end of the new link
    read : {A : Type 0} (g : NeighbourView → A) (a b : ℕ) → IsOther u w a b → IsOther w u a b →
        g (neighbour l a b) ≡ g (neighbour d a b)
    read g a b p q = two_read (λ r. g (neighbour_at r.neighbours b)) d l u w (joiner (d.router u) w) (joiner (d.router w) u) now a
        (λ h. ap g (changed_other w b (joined (d.router u).opening (distance (d.router u)) ((d.router u).sessions + 1)) (d.router u).neighbours
        (omega (arith, c.to, wide d i.order u c.from)) (p.other h)))
        (λ h. ap g (changed_other u b (joined (d.router w).opening (distance (d.router w)) ((d.router w).sessions + 1)) (d.router w).neighbours
        (omega (arith, c.from, wide d i.order w c.to)) (q.other h)))

    opening : (a : ℕ) → (l.router a).opening ≡ (d.router a).opening
    opening a = two_read (λ r. r.opening) d l u w (joiner (d.router u) w) (joiner (d.router w) u) now a (λ _. refl) (λ _. refl)

    flip : (a b x y : ℕ) → IsOther a b x y → IsOther b a y x
    flip a b x y p = record { other = λ h k. p.other k h }

    elsewhere : (x y : ℕ) → x < d.size → y < d.size → IsOther u w x y → IsOther w u x y → are_linked l x y ≡ true → FallsOver l v x y
    elsewhere x y from to p q linked =
        let before = i.falls x y from to (sym (read is_up x y p q) ∙ linked) in
        let pq : IsOther u w y x = flip w u x y q in
        let qp : IsOther w u y x = flip u w x y p in
        subst (λ h. Falls h v (heard l x y v) (pending l x y))
        (λ j z. filtered_distance (sym (opening y) j) (sym (read (λ n. n.imports) y x pq qp) j) v z)
        (subst (λ b. Falls (imported d y x v) v b (pending l x y)) (sym (read (λ n. slice_index n.advertised v) y x pq qp))
        (subst (Falls (imported d y x v) v (heard d x y v)) (sym (ap (λ ms. d.flight x y ++ ms) (read (λ n. n.queue) x y p q))) before))

    falls : (x y : ℕ) → x < d.size → y < d.size → are_linked l x y ≡ true → FallsOver l v x y
    falls x y from to linked =
        ⊎_elim
        (λ (one : x ≡ u). ⊎_elim
        (λ (two : y ≡ w). subst (λ a. FallsOver l v a y) (sym one) (subst (FallsOver l v u) (sym two)
        (new_falls d l v u w i.order i.there c.from c.to (record { one = now.one; other = now.other; nothing = i.order.silent u w c.from c.to c.unlinked }))))
        (λ (far : y ≡ w → ⊥). elsewhere x y from to (record { other = λ p q. far q }) (record { other = λ p q. c.apart (sym one ∙ p) }) linked)
        (cases_eq y w))
        (λ (far : x ≡ u → ⊥). ⊎_elim
        (λ (one : x ≡ w). ⊎_elim
        (λ (two : y ≡ u). subst (λ a. FallsOver l v a y) (sym one) (subst (FallsOver l v w) (sym two)
        (new_falls d l v w u i.order i.there c.to c.from (record { one = now.other; other = now.one; nothing = i.order.silent w u c.to c.from back }))))
        (λ (distant : y ≡ u → ⊥). elsewhere x y from to (record { other = λ p q. far p }) (record { other = λ p q. distant q }) linked)
        (cases_eq y u))
        (λ (distant : x ≡ w → ⊥). elsewhere x y from to (record { other = λ p q. far p }) (record { other = λ p q. distant p }) linked)
        (cases_eq x w))
        (cases_eq x u)

-- from one moment to a later one
pub record IsGained (d e : Domain) (v : ℕ) : Type 0 where
  pub falling : IsFalling e v
  pub size : e.size ≡ d.size
  pub nearer : (u : ℕ) → u < d.size → distance (e.router u) v ≤ distance (d.router u) v

pub gained : (k : ℕ) (d e : Domain) (v : ℕ) → IsFalling d v → Gains k d e → IsGained d e v
gained zero d e v i run = subst (λ c. IsGained d c v) run (record { falling = i; size = refl; nearer = λ u short. omega arith })
gained (suc k) d e v i run =
    let one : FallsBy d (run.0) v =
    ⊎_elim (λ (step : IsStep d (run.0)). step_falls d (run.0) v i step) (λ (link : GainsLink d (run.0)). link_falls d (run.0) v i link) (run.1) in
    let rest : IsGained (run.0) e v = gained k (run.0) e v one.falling (run.2) in
    record {
      falling = rest.falling;
      size = rest.size ∙ one.size;
      nearer = λ u short. omega (arith, one.nearer u short, rest.nearer u (omega (arith, short, one.size)));
    }

-- At each moment the next hop is nearer than who forwards to it.
record Hop (d : Domain) (v u : ℕ) : Type 0 where
  node : ℕ
  member : node < d.size
  via : (best (d.router u) v).via ≡ Node node
  nearer : distance (d.router node) v < distance (d.router u) v

hop_by : (d : Domain) (v u : ℕ) → IsFalling d v → u < d.size → distance (d.router u) v < d.size → (via : Via) → (best (d.router u) v).via ≡ via →
    LeadsBy d.size d.size (given d u v) (distance (d.router u) v) via → Hop d v u
hop_by d v u i short reach Local is l = absurd l
hop_by d v u i short reach (Node w) is l = record { node = w; member = l.is_neighbour; via = is; nearer = nearer }
  where
    down : are_linked d u w ≡ false → ⊥
    down h = omega (arith, l.one_more, size_of_down d i.order u w v short l.is_neighbour h, reach)

    up : are_linked d u w ≡ true → distance (d.router w) v < distance (d.router u) v
    up h =
        let back : are_linked d w u ≡ true = i.order.both_ways u w short l.is_neighbour h in
        let most : distance (d.router w) v ≤ d.size =
        subst (λ n. distance (d.router w) v ≤ n) (i.order.size w l.is_neighbour) (best_within (d.router w).opening v (given d w v)) in
        omega (
          arith,
          l.one_more,
          gives d i.order u w v short l.is_neighbour h,
          falls_to_the_end (imported d u w v) v (heard d w u v) (pending d w u) (i.falls w u l.is_neighbour short back),
          ap (imported d u w v) (i.order.told w u v l.is_neighbour short i.there back),
          never_nearer d i.order v u w (distance (d.router w) v) short l.is_neighbour most,
        )

    nearer : distance (d.router w) v < distance (d.router u) v
    nearer = ⊎_elim up (λ (h : are_linked d u w ≡ false). absurd (down h)) (cases_Bool (are_linked d u w))
hop_by d v u i short reach Nowhere is l = absurd (omega (arith, l.out_of_reach, reach))

at_the_end : (d : Domain) (v u : ℕ) → u ≡ v → Hops d v u
at_the_end d v u own = record { count = 0; few = omega arith; forwards = own }

within : (d : Domain) (v : ℕ) → IsFalling d v → (n u : ℕ) → u < d.size → distance (d.router u) v < d.size → distance (d.router u) v ≤ n → Hops d v u
within d v i zero u short reach bound =
    ⊎_elim (λ (own : u ≡ v). at_the_end d v u own)
    (λ (other : u ≡ v → ⊥).
    absurd (omega (arith, bound, (hop_by d v u i short reach (best (d.router u) v).via refl (leads d i.order u v short other)).nearer)))
    (cases_eq u v)
within d v i (suc n) u short reach bound =
    ⊎_elim (λ (own : u ≡ v). at_the_end d v u own)
    (λ (other : u ≡ v → ⊥).
    let h : Hop d v u = hop_by d v u i short reach (best (d.router u) v).via refl (leads d i.order u v short other) in
    let rest : Hops d v h.node = within d v i n h.node h.member (omega (arith, h.nearer, reach)) (omega (arith, h.nearer, bound)) in
    record { count = suc rest.count; few = omega (arith, rest.few, h.nearer); forwards = (h.node, h.via, rest.forwards) })
    (cases_eq u v)

pub forwards_while_gaining : (d : Domain) (v u : ℕ) → IsFalling d v → u < d.size → distance (d.router u) v < d.size → Hops d v u
forwards_while_gaining d v u i short reach = within d v i (distance (d.router u) v) u short reach (omega arith)
