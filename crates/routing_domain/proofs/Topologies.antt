-- What there is between the nodes, after a step or an event.
use Rattle.std.proofs.Common.{◌≡◌, ⊎_elim, ℕ, ◌+◌, ◌<◌, Bool, true, false, cond, nat_eq, nat_le}
use Rattle.std.proofs.Common.{Some, List, length, refl, sym, ap, ◌∙◌, arith, eq-eqb}
use Rattle.std.specs.Prelude.{◌&&◌, ◌||◌, nat_lt}
use Rattle.std.specs.declared.sync.Arc.{Arc}
use Rattle.std.proofs.Common.{Global}
use Rattle.std.proofs.lemmas.Bool.{cases_eq, cond_both, eqb-true, or_from}
use Rattle.filter_verifier.specs.VerifiedView.{VerifiedView}
use Rattle.netchange_core.specs.declared.event.Event.TheVariants as event
use Rattle.netchange_core.specs.declared.message.Message.{Message}
use Rattle.netchange_core.specs.declared.reply.EventRefusal.TheVariants as refusal
use Rattle.netchange_core.specs.Best.{distance}
use Rattle.netchange_core.specs.Next.{Answered, advertising, dequeued, exporting, gone, importing, joined, receive, recomputed, refused}
use Rattle.netchange_core.specs.FilteredDistance.{filtered_distance}
use Rattle.netchange_core.specs.World.{World, changed, is_up, neighbour_at}
use Rattle.netchange_core.proofs.Change.{changed_at}
use Rattle.netchange_core.proofs.Goes.{export_goes, import_goes}
use Rattle.routing_domain.specs.Changes.{is_between, is_pair, with_link, with_filtered, without_link}
use Rattle.routing_domain.specs.Domain.{Domain, IsInOrder, IsMember, KeepsLinksAndFilters, are_linked, exported, imported, topology}
use Rattle.routing_domain.specs.Events.{CanLink, cuts, enters, links}
use Rattle.routing_domain.specs.Rest.{Topology}
use Rattle.routing_domain.specs.Steps.{receives, sends, with_router}
use Rattle.routing_domain.proofs.Cuts.{cut_one, cut_other, cut_third, leaver, leaver_down, unlike}
use Rattle.routing_domain.proofs.Filters.{exporter}
use Rattle.routing_domain.proofs.Keeping.{member_of}
use Rattle.routing_domain.proofs.Links.{joiner, joiner_up, linked_one, linked_other, linked_third, no_neighbour}
use Rattle.routing_domain.proofs.Places.{IsOther, router_here, router_other}
use Rattle.routing_domain.proofs.Recomputed.{changed_other}
use Rattle.routing_domain.proofs.Seen.{changed_seen, recomputed_other, recomputed_seen, told_seen}

-- the test of a pair, and of a pair both ways
no_both : (x y : Bool) → (x ≡ true → y ≡ true → ⊥) → (x && y) ≡ false
no_both true true h = absurd (h refl refl)
no_both true false h = refl
no_both false y h = refl

pub pair_is : (u w : ℕ) → is_pair u w u w ≡ true
pair_is u w = ap (λ b. b && nat_eq w w) (eq-eqb u u refl) ∙ eq-eqb w w refl

pub pair_not : (u w a b : ℕ) → IsOther u w a b → is_pair u w a b ≡ false
pair_not u w a b i = no_both (nat_eq a u) (nat_eq b w) (λ p q. i.other (eqb-true a u p) (eqb-true b w q))

-- what has one value at a pair, and is as it was elsewhere
pub pair_set : (f g : ℕ → ℕ → ℕ → ℕ) (u w : ℕ) (now : ℕ → ℕ) → ((x : ℕ) → f u w x ≡ now x) →
    ((a b x : ℕ) → IsOther u w a b → f a b x ≡ g a b x) → (a b x : ℕ) → f a b x ≡ cond (is_pair u w a b) (now x) (g a b x)
pair_set f g u w now here elsewhere a b x =
    ⊎_elim
    (λ one. ⊎_elim
    (λ two.
    ap (λ y. f y b x) one ∙ ap (λ y. f u y x) two ∙ here x
    ∙ sym (ap (λ c. cond c (now x) (g a b x)) (ap (λ y. is_pair u w y b) one ∙ ap (λ y. is_pair u w u y) two ∙ pair_is u w)))
    (λ far. otherwise (record { other = λ p q. far q }))
    (cases_eq b w))
    (λ far. otherwise (record { other = λ p q. far p }))
    (cases_eq a u)
  where
    otherwise : IsOther u w a b → f a b x ≡ cond (is_pair u w a b) (now x) (g a b x)
    otherwise i = elsewhere a b x i ∙ sym (ap (λ c. cond c (now x) (g a b x)) (pair_not u w a b i))

pub between_set : (f g : ℕ → ℕ → Bool) (u w : ℕ) (now : Bool) → (u ≡ w → ⊥) → f u w ≡ now → f w u ≡ now →
    ((a b : ℕ) → IsOther u w a b → IsOther w u a b → f a b ≡ g a b) → (a b : ℕ) → f a b ≡ cond (is_between u w a b) now (g a b)
between_set f g u w now apart there back elsewhere a b =
    ⊎_elim
    (λ one. ⊎_elim
    (λ two.
    ap (λ y. f y b) one ∙ ap (λ y. f u y) two ∙ there
    ∙ sym (ap (λ c. cond c now (g a b)) (ap (λ y. is_between u w y b) one ∙ ap (λ y. is_between u w u y) two ∙ ap (λ c. c || is_pair w u u w) (pair_is u w))))
    (λ far. otherwise (record { other = λ p q. far q }) (record { other = λ p q. apart (sym one ∙ p) }))
    (cases_eq b w))
    (λ far. ⊎_elim
    (λ one. ⊎_elim
    (λ two.
    ap (λ y. f y b) one ∙ ap (λ y. f w y) two ∙ back
    ∙ sym (ap (λ c. cond c now (g a b)) (ap (λ y. is_between u w y b) one ∙ ap (λ y. is_between u w w y) two
    ∙ ap (λ c. c || is_pair w u w u) (pair_not u w w u (record { other = λ p q. apart q })) ∙ pair_is w u)))
    (λ distant. otherwise (record { other = λ p q. far p }) (record { other = λ p q. distant q }))
    (cases_eq b u))
    (λ distant. otherwise (record { other = λ p q. far p }) (record { other = λ p q. distant p }))
    (cases_eq a w))
    (cases_eq a u)
  where
    otherwise : IsOther u w a b → IsOther w u a b → f a b ≡ cond (is_between u w a b) now (g a b)
    otherwise i j = elsewhere a b i j ∙ sym (ap (λ c. cond c now (g a b)) (or_from (is_pair u w a b) (is_pair w u a b) (pair_not u w a b i) (pair_not w u a b j)))

-- what is read of each router, where one changed, and where two did
pub one_read : {A : Type 0} (g : World → A) (d : Domain) (u : ℕ) (s : World) (x : ℕ) → (x ≡ u → g s ≡ g (d.router u)) →
    g ((with_router d u s).router x) ≡ g (d.router x)
one_read g d u s x same =
    ⊎_elim
    (λ here. ap (λ y. g ((with_router d u s).router y)) here ∙ ap g (router_here d u s) ∙ same here ∙ ap (λ y. g (d.router y)) (sym here))
    (λ other. ap g (router_other d u s x other))
    (cases_eq x u)

-- two routers, and what became of them
pub record AreNow (d e : Domain) (u w : ℕ) (s t : World) : Type 0 where
  pub one : e.router u ≡ s
  pub other : e.router w ≡ t
  pub third : (x : ℕ) → (x ≡ u → ⊥) → (x ≡ w → ⊥) → e.router x ≡ d.router x

pub two_read : {A : Type 0} (g : World → A) (d e : Domain) (u w : ℕ) (s t : World) → AreNow d e u w s t → (x : ℕ) →
    (x ≡ u → g s ≡ g (d.router u)) → (x ≡ w → g t ≡ g (d.router w)) → g (e.router x) ≡ g (d.router x)
two_read g d e u w s t now x same_u same_w =
    ⊎_elim
    (λ here. ap (λ y. g (e.router y)) here ∙ ap g now.one ∙ same_u here ∙ ap (λ y. g (d.router y)) (sym here))
    (λ far. ⊎_elim
    (λ here. ap (λ y. g (e.router y)) here ∙ ap g now.other ∙ same_w here ∙ ap (λ y. g (d.router y)) (sym here))
    (λ distant. ap g (now.third x far distant))
    (cases_eq x w))
    (cases_eq x u)

-- the toll between two nodes is of their openings and of two filters
toll_as : (ra sa rb sb : World) (a b v x : ℕ) → sa.opening ≡ ra.opening → (neighbour_at sa.neighbours b).imports ≡ (neighbour_at ra.neighbours b).imports →
    sb.opening ≡ rb.opening → (neighbour_at sb.neighbours a).exports ≡ (neighbour_at rb.neighbours a).exports →
    filtered_distance sa.opening (neighbour_at sa.neighbours b).imports v (filtered_distance sb.opening (neighbour_at sb.neighbours a).exports v x)
    ≡ filtered_distance ra.opening (neighbour_at ra.neighbours b).imports v (filtered_distance rb.opening (neighbour_at rb.neighbours a).exports v x)
toll_as ra sa rb sb a b v x oa im ob ex = λ i. filtered_distance (oa i) (im i) v (filtered_distance (ob i) (ex i) v x)

-- what a router sees of its neighbours that is of the topology: who is up, and the filters
record SeesAs (r s : World) : Type 0 where
  pub opening : s.opening ≡ r.opening
  pub up : (b : ℕ) → is_up (neighbour_at s.neighbours b) ≡ is_up (neighbour_at r.neighbours b)
  pub imports : (b : ℕ) → (neighbour_at s.neighbours b).imports ≡ (neighbour_at r.neighbours b).imports
  pub exports : (b : ℕ) → (neighbour_at s.neighbours b).exports ≡ (neighbour_at r.neighbours b).exports

sees_itself : (r : World) → SeesAs r r
sees_itself r = record { opening = refl; up = λ b. refl; imports = λ b. refl; exports = λ b. refl }

-- the topology is of links and filters
pub kept_topology : (d e : Domain) (v : ℕ) → KeepsLinksAndFilters d e → topology e v ≡ topology d v
kept_topology d e v k = λ i. record {
  size = k.size i;
  linked = λ a b. k.linked a b i;
  filtered = λ a b x. toll_as (d.router a) (e.router a) (d.router b) (e.router b) a b v x (k.openings a) (k.imports a b) (k.openings b) (k.exports b a) i;
}

pub kept_itself : (d : Domain) → KeepsLinksAndFilters d d
kept_itself d = record { size = refl; openings = λ u. refl; linked = λ u w. refl; imports = λ u w. refl; exports = λ u w. refl }

pub kept_on : (d e f : Domain) → KeepsLinksAndFilters d e → KeepsLinksAndFilters e f → KeepsLinksAndFilters d f
kept_on d e f one next = record {
  size = next.size ∙ one.size;
  openings = λ u. next.openings u ∙ one.openings u;
  linked = λ u w. next.linked u w ∙ one.linked u w;
  imports = λ u w. next.imports u w ∙ one.imports u w;
  exports = λ u w. next.exports u w ∙ one.exports u w;
}

-- one router that sees the same keeps them
seen_kept : (d e : Domain) (u : ℕ) (s : World) → e.size ≡ d.size → ((x : ℕ) → e.router x ≡ (with_router d u s).router x) → SeesAs (d.router u) s →
    KeepsLinksAndFilters d e
seen_kept d e u s size routers sees = record {
  size = size;
  openings = λ a. read (λ r. r.opening) a sees.opening;
  linked = λ a b. read (λ r. is_up (neighbour_at r.neighbours b)) a (sees.up b);
  imports = λ a b. read (λ r. (neighbour_at r.neighbours b).imports) a (sees.imports b);
  exports = λ a b. read (λ r. (neighbour_at r.neighbours b).exports) a (sees.exports b);
}
  where
    read : {A : Type 0} (g : World → A) (a : ℕ) → g s ≡ g (d.router u) → g (e.router a) ≡ g (d.router a)
    read g a same = ap g (routers a) ∙ one_read g d u s a (λ _. same)

pub sends_kept : (d : Domain) (u w max : ℕ) → KeepsLinksAndFilters d (sends d u w max)
sends_kept d u w max =
    seen_kept d (sends d u w max) u (changed (d.router u) w (dequeued max)) refl (λ x. refl) (record {
      opening = refl;
      up = λ b. changed_seen is_up (d.router u) w (dequeued max) b refl;
      imports = λ b. changed_seen (λ n. n.imports) (d.router u) w (dequeued max) b refl;
      exports = λ b. changed_seen (λ n. n.exports) (d.router u) w (dequeued max) b refl;
    })

pub receives_kept : (d : Domain) (u w : ℕ) (m : Message) (rest : List Message) → KeepsLinksAndFilters d (receives d u w m rest)
receives_kept d u w m rest = seen_kept d (receives d u w m rest) w (receive r (Some u) m.dest m.dist).world refl (λ x. refl) sees
  where
    r : World
    r = d.router w

    sees : SeesAs r (receive r (Some u) m.dest m.dist).world
    sees =
        let f = advertising m.dest m.dist in
        let after = recomputed r (changed r u f) in
        let P : Answered → Type 0 = λ a. SeesAs r a.world in
        cond_both (nat_le r.opening.size m.dest) (refused r refusal.BadDest) (cond (nat_lt r.opening.size m.dist) (refused r refusal.BadDist) after) P
        (λ _. sees_itself r)
        (λ _. cond_both (nat_lt r.opening.size m.dist) (refused r refusal.BadDist) after P (λ _. sees_itself r)
        (λ _. record {
          opening = refl;
          up = λ b. recomputed_seen is_up r u f b (λ _ _. refl) refl;
          imports = λ b. recomputed_seen (λ n. n.imports) r u f b (λ _ _. refl) refl;
          exports = λ b. recomputed_seen (λ n. n.exports) r u f b (λ _ _. refl) refl;
        }))

-- a router whose link with one neighbour changed, and nothing else of the topology
pub record SeesBut (r s : World) (k : ℕ) (now : Bool) : Type 0 where
  pub opening : s.opening ≡ r.opening
  pub here : is_up (neighbour_at s.neighbours k) ≡ now
  pub up : (b : ℕ) → (b ≡ k → ⊥) → is_up (neighbour_at s.neighbours b) ≡ is_up (neighbour_at r.neighbours b)
  pub imports : (b : ℕ) → (neighbour_at s.neighbours b).imports ≡ (neighbour_at r.neighbours b).imports
  pub exports : (b : ℕ) → (neighbour_at s.neighbours b).exports ≡ (neighbour_at r.neighbours b).exports

-- the topology with that link so
abbrev with_links : Topology → ℕ → ℕ → Bool → Topology
with_links m u w now = record m { linked = λ a b. cond (is_between u w a b) now (m.linked a b) }

link_topology : (d e : Domain) (u w v : ℕ) (s t : World) (now : Bool) → e.size ≡ d.size → (u ≡ w → ⊥) → AreNow d e u w s t →
    SeesBut (d.router u) s w now → SeesBut (d.router w) t u now → topology e v ≡ with_links (topology d v) u w now
link_topology d e u w v s t now size apart are su sw = λ i. record {
  size = size i;
  linked = λ a b. between_set (are_linked e) (are_linked d) u w now apart
      (ap (λ r. is_up (neighbour_at r.neighbours w)) are.one ∙ su.here) (ap (λ r. is_up (neighbour_at r.neighbours u)) are.other ∙ sw.here)
      (λ x y p q. two_read (λ r. is_up (neighbour_at r.neighbours y)) d e u w s t are x (λ h. su.up y (p.other h)) (λ h. sw.up y (q.other h)))
      a b i;
  filtered = λ a b x. toll_as (d.router a) (e.router a) (d.router b) (e.router b) a b v x
      (opening a) (two_read (λ r. (neighbour_at r.neighbours b).imports) d e u w s t are a (λ _. su.imports b) (λ _. sw.imports b))
      (opening b) (two_read (λ r. (neighbour_at r.neighbours a).exports) d e u w s t are b (λ _. su.exports a) (λ _. sw.exports a)) i;
}
  where
    opening : (x : ℕ) → (e.router x).opening ≡ (d.router x).opening
    opening x = two_read (λ r. r.opening) d e u w s t are x (λ _. su.opening) (λ _. sw.opening)

pub joiner_sees : (size u k : ℕ) (r : World) → IsMember size u r → k < size → SeesBut r (joiner r k) k true
joiner_sees size u k r m short =
    let f = joined r.opening (distance r) (r.sessions + 1) in
    record {
      opening = refl;
      here = joiner_up size u k r m short;
      up = λ b other. ap is_up (changed_other k b f r.neighbours (omega (arith, short, m.tables.one_a_node)) other);
      imports = λ b. changed_seen (λ n. n.imports) r k f b refl;
      exports = λ b. changed_seen (λ n. n.exports) r k f b refl;
    }

pub leaver_sees : (size u k : ℕ) (r : World) → IsMember size u r → k < size → SeesBut r (leaver r k) k false
leaver_sees size u k r m short =
    let f = gone r.opening in
    record {
      opening = refl;
      here = leaver_down size u k r m short;
      up = λ b other. recomputed_other is_up r k f b (λ _ _. refl) (omega (arith, short, m.tables.one_a_node)) other;
      imports = λ b. recomputed_seen (λ n. n.imports) r k f b (λ _ _. refl) refl;
      exports = λ b. recomputed_seen (λ n. n.exports) r k f b (λ _ _. refl) refl;
    }

pub links_topology : (d : Domain) (u w v : ℕ) → IsInOrder d → CanLink d u w → topology (links d u w) v ≡ with_link (topology d v) u w
links_topology d u w v o c =
    link_topology d (links d u w) u w v (joiner (d.router u) w) (joiner (d.router w) u) true refl c.apart
    (record { one = linked_one d u w o c; other = linked_other d u w o c; third = λ x p q. linked_third d u w x p q })
    (joiner_sees d.size u w (d.router u) (member_of d u o c.from) c.to) (joiner_sees d.size w u (d.router w) (member_of d w o c.to) c.from)

pub cuts_topology : (d : Domain) (u w v : ℕ) → IsInOrder d → u < d.size → w < d.size → are_linked d u w ≡ true →
    topology (cuts d u w) v ≡ without_link (topology d v) u w
cuts_topology d u w v o from to linked =
    link_topology d (cuts d u w) u w v (leaver (d.router u) w) (leaver (d.router w) u) false refl (unlike d u w o from linked)
    (record { one = cut_one d u w o from to linked; other = cut_other d u w o from to linked; third = λ x p q. cut_third d u w x p q })
    (leaver_sees d.size u w (d.router u) (member_of d u o from) to) (leaver_sees d.size w u (d.router w) (member_of d w o to) from)

-- new filters
pub import_topology : (d : Domain) (u w v : ℕ) (f : Arc VerifiedView Global) → IsInOrder d → u < d.size → w < d.size → (u ≡ w → ⊥) → f.value.size ≡ d.size →
    topology (enters d u (event.SetImport w f)) v
    ≡ with_filtered (topology d v) u w (λ x. filtered_distance (d.router u).opening (Some f.value) v (exported d w u v x))
import_topology d u w v f o from to apart fits =
    ap (λ a. topology (with_router d u a.world) v)
    (import_goes r.opening r.sessions w r.neighbours f.value (no_neighbour r.opening w (omega (arith, to, o.size u from)) (λ h. apart (sym (h ∙ o.me u from)))) (fits ∙ sym (o.size u from)))
    ∙ after
  where
    r : World
    r = d.router u

    s : World
    s = (recomputed r (changed r w (importing f.value))).world

    e : Domain
    e = with_router d u s

    near : w < length r.neighbours
    near = omega (arith, to, (o.tables u from).one_a_node)

    linked : (a b : ℕ) → are_linked e a b ≡ are_linked d a b
    linked a b = one_read (λ y. is_up (neighbour_at y.neighbours b)) d u s a (λ _. recomputed_seen is_up r w (importing f.value) b (λ _ _. refl) refl)

    opening : (x : ℕ) → (e.router x).opening ≡ (d.router x).opening
    opening x = one_read (λ y. y.opening) d u s x (λ _. refl)

    exports : (b a : ℕ) → (neighbour_at (e.router b).neighbours a).exports ≡ (neighbour_at (d.router b).neighbours a).exports
    exports b a = one_read (λ y. (neighbour_at y.neighbours a).exports) d u s b (λ _. recomputed_seen (λ n. n.exports) r w (importing f.value) a (λ _ _. refl) refl)

    here : (neighbour_at (e.router u).neighbours w).imports ≡ Some f.value
    here = ap (λ y. (neighbour_at y.neighbours w).imports) (router_here d u s)
        ∙ told_seen (λ n. n.imports) r w (importing f.value) w (λ _ _. refl) ∙ ap (λ n. n.imports) (changed_at w (importing f.value) r.neighbours near)

    filtered : (a b x : ℕ) → (topology e v).filtered a b x ≡ (with_filtered (topology d v) u w (λ y. filtered_distance (d.router u).opening (Some f.value) v (exported d w u v y))).filtered a b x
    filtered = pair_set (topology e v).filtered (topology d v).filtered u w (λ y. filtered_distance (d.router u).opening (Some f.value) v (exported d w u v y))
        (λ x i. filtered_distance (opening u i) (here i) v (filtered_distance (opening w i) (exports w u i) v x))
        (λ a b x p. toll_as (d.router a) (e.router a) (d.router b) (e.router b) a b v x (opening a)
        (one_read (λ y. (neighbour_at y.neighbours b).imports) d u s a (λ h. recomputed_other (λ n. n.imports) r w (importing f.value) b (λ _ _. refl) near (p.other h)))
        (opening b) (exports b a))

    after : topology e v ≡ with_filtered (topology d v) u w (λ x. filtered_distance (d.router u).opening (Some f.value) v (exported d w u v x))
    after = λ i. record { size = d.size; linked = λ a b. linked a b i; filtered = λ a b x. filtered a b x i }

pub export_topology : (d : Domain) (u w v : ℕ) (f : Arc VerifiedView Global) → IsInOrder d → u < d.size → w < d.size → (u ≡ w → ⊥) → f.value.size ≡ d.size →
    topology (enters d u (event.SetExport w f)) v
    ≡ with_filtered (topology d v) w u (λ x. imported d w u v (filtered_distance (d.router u).opening (Some f.value) v x))
export_topology d u w v f o from to apart fits =
    ap (λ a. topology (with_router d u a.world) v)
    (export_goes r.opening r.sessions w r.neighbours f.value (no_neighbour r.opening w (omega (arith, to, o.size u from)) (λ h. apart (sym (h ∙ o.me u from)))) (fits ∙ sym (o.size u from)))
    ∙ after
  where
    r : World
    r = d.router u

    s : World
    s = exporter r w f.value

    e : Domain
    e = with_router d u s

    near : w < length r.neighbours
    near = omega (arith, to, (o.tables u from).one_a_node)

    linked : (a b : ℕ) → are_linked e a b ≡ are_linked d a b
    linked a b = one_read (λ y. is_up (neighbour_at y.neighbours b)) d u s a (λ _. changed_seen is_up r w (exporting r.opening (distance r) f.value) b refl)

    opening : (x : ℕ) → (e.router x).opening ≡ (d.router x).opening
    opening x = one_read (λ y. y.opening) d u s x (λ _. refl)

    imports : (a b : ℕ) → (neighbour_at (e.router a).neighbours b).imports ≡ (neighbour_at (d.router a).neighbours b).imports
    imports a b = one_read (λ y. (neighbour_at y.neighbours b).imports) d u s a (λ _. changed_seen (λ n. n.imports) r w (exporting r.opening (distance r) f.value) b refl)

    here : (neighbour_at (e.router u).neighbours w).exports ≡ Some f.value
    here = ap (λ y. (neighbour_at y.neighbours w).exports) (router_here d u s)
        ∙ ap (λ n. n.exports) (changed_at w (exporting r.opening (distance r) f.value) r.neighbours near)

    filtered : (a b x : ℕ) → (topology e v).filtered a b x ≡ (with_filtered (topology d v) w u (λ y. imported d w u v (filtered_distance (d.router u).opening (Some f.value) v y))).filtered a b x
    filtered = pair_set (topology e v).filtered (topology d v).filtered w u (λ y. imported d w u v (filtered_distance (d.router u).opening (Some f.value) v y))
        (λ x i. filtered_distance (opening w i) (imports w u i) v (filtered_distance (opening u i) (here i) v x))
        (λ a b x p. toll_as (d.router a) (e.router a) (d.router b) (e.router b) a b v x (opening a) (imports a b) (opening b)
        (one_read (λ y. (neighbour_at y.neighbours a).exports) d u s b (λ h. ap (λ n. n.exports) (changed_other w a (exporting r.opening (distance r) f.value) r.neighbours near (λ q. p.other q h)))))

    after : topology e v ≡ with_filtered (topology d v) w u (λ x. imported d w u v (filtered_distance (d.router u).opening (Some f.value) v x))
    after = λ i. record { size = d.size; linked = λ a b. linked a b i; filtered = λ a b x. filtered a b x i }
