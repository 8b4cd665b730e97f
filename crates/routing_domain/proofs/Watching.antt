-- Where watching begins: in a whole network that has been left alone for as many phases as the bound.
use mathlib.Core.Logic.{inl, inr}
use Rattle.std.proofs.Common.{◌≡◌, ⊎_elim, ℕ, ◌<◌, ◌≤◌, zero, suc, Bool, true, false, cond, All, List, [], ◌∷◌, ◌++◌, refl, sym, ap, subst, ◌∙◌, arith}
use Rattle.std.proofs.lemmas.Bool.{cases_Bool, cases_eq, cases_lt}
use Rattle.std.proofs.lemmas.List.Elements.{All-cons, All-head, All-nil, All-tail, All-weaker}
use Rattle.netchange_core.specs.declared.message.Message.{Message}
use Rattle.netchange_core.specs.Best.{best, distance}
use Rattle.netchange_core.specs.declared.reply.Via.{Via}
use Rattle.routing_domain.specs.Domain.{Domain, IsInOrder, KeepsLinksAndFilters, are_linked, exported, neighbour, pending, topology}
use Rattle.routing_domain.specs.Failures.{AreOneBelow, HappenAll, IsLoose, Loose, with_all, with_none}
use Rattle.routing_domain.specs.Network.{IsOrderly, IsWhole, Network}
use Rattle.routing_domain.specs.Phases.{Phases}
use Rattle.routing_domain.specs.Rest.{IsRest, LeadsThrough, NeverNearer, Topology}
use Rattle.routing_domain.specs.Ways.{GoesVia}
use Rattle.routing_domain.proofs.Alone.{leads_nearer}
use Rattle.routing_domain.proofs.Emptied.{ends_at, ends_rest}
use Rattle.routing_domain.proofs.Fair.{Fair, IsWatched, via_fair}
use Rattle.routing_domain.proofs.Increasing.{filtered_farther, never_nearer}
use Rattle.routing_domain.proofs.Keeping.{member_of}
use Rattle.routing_domain.proofs.Moving.{heard}
use Rattle.routing_domain.proofs.Nearing.{IsRight}
use Rattle.routing_domain.proofs.Standing.{Stands, distance_stands, all_stand}
use Rattle.routing_domain.proofs.Topologies.{kept_topology}
use Rattle.routing_domain.proofs.Turned.{AreTold, all_right_below_none, phases_keep, phases_told}
use Rattle.routing_domain.proofs.Turning.{IsAbout}
use Rattle.routing_domain.proofs.Whole.{in_order}

-- the parts of a list
front : (P : Message → Type 0) (xs ys : List Message) → All P (xs ++ ys) → All P xs
front P [] ys all = All-nil P
front P (x ∷ xs) ys all = All-cons P x xs (All-head P x (xs ++ ys) all) (front P xs ys (All-tail P x (xs ++ ys) all))

back : (P : Message → Type 0) (xs ys : List Message) → All P (xs ++ ys) → All P ys
back P [] ys all = all
back P (x ∷ xs) ys all = back P xs ys (All-tail P x (xs ++ ys) all)

-- the rest of the present topology, which has some of the links that come and go
abbrev Agree : Topology → (ℕ → ℕ) → (ℕ → ℕ) → ℕ → Type 0
Agree m a c j = (u : ℕ) → u < m.size → (a u < j → c u ≡ a u) × (c u < j → c u ≡ a u)

cond_all : (t b : Bool) → b ≡ true → cond t true b ≡ true
cond_all true b h = refl
cond_all false b h = h

cond_none : (t b : Bool) → cond t false b ≡ true → b ≡ true
cond_none true b h = absurd (let no : false ≡ true = h in cc)
cond_none false b h = h

-- where a filter may be replaced, the toll with all these links is less than without them, if any
no_more : (t : Bool) (x y : ℕ) {z : ℕ} → x ≤ y → z ≤ suc (cond t x y) → z ≤ suc y
no_more true x y less most = omega (arith, less, most)
no_more false x y less most = most

agree_more : (m : Topology) (v k : ℕ) (loose : Loose) (a b c : ℕ → ℕ) → NeverNearer m → k ≤ m.size → IsRest (with_all m loose) v a → IsRest (with_none m loose) v b →
    IsRest m v c → AreOneBelow m.size k a b → (j : ℕ) → j < k → Agree m a c j → Agree m a c (suc j)
agree_more m v k loose a b c never fits top bottom rest one j room agree u short =
    ⊎_elim
    (λ (own : u ≡ v). let same : c u ≡ a u = ap c own ∙ rest.own ∙ sym (ap a own ∙ top.own) in ((λ _. same), (λ _. same)))
    (λ (other : u ≡ v → ⊥). (
      λ near. ⊎_elim (λ (before : a u < j). (agree u short).0 before) (λ (past : j ≤ a u). from_top other (omega (arith, near, past))) (cases_lt (a u) j),
      λ near. ⊎_elim (λ (before : c u < j). (agree u short).1 before) (λ (past : j ≤ c u). from_rest other (omega (arith, near, past))) (cases_lt (c u) j),
    ))
    (cases_eq u v)
  where
    same_below : (w : ℕ) → w < m.size → b w < k → a w ≡ b w
    same_below w below low =
        ⊎_elim (λ (is : b w ≡ a w). sym is) (λ (past : (k ≤ a w) × (k ≤ b w)). absurd (omega (arith, past.1, low))) (one w below)

    from_top : (u ≡ v → ⊥) → a u ≡ j → c u ≡ a u
    from_top other is =
        let here : b u ≡ a u =
        ⊎_elim (λ (same : b u ≡ a u). same) (λ (past : (k ≤ a u) × (k ≤ b u)). absurd (omega (arith, past.0, is, room))) (one u short) in
        let led : (w : ℕ) × LeadsThrough (with_none m loose) v b u w = bottom.led u short other (omega (arith, here, is, room, fits)) in
        let w : ℕ = led.0 in
        let l : LeadsThrough (with_none m loose) v b u w = led.1 in
        let nearer : b w < b u = leads_nearer (with_none m loose) v b never bottom u w short l in
        let low : a w ≡ b w = same_below w l.member (omega (arith, nearer, here, is, room)) in
        let there : c w ≡ a w = (agree w l.member).0 (omega (arith, low, nearer, here, is)) in
        let most : c u ≤ suc (m.filtered u w (c w)) = rest.least u short other w l.member (cond_none (loose.links u w) (m.linked u w) l.linked) in
        let upper : c u ≤ a u = omega (arith, most, here, l.one_more, ap (m.filtered u w) (there ∙ low)) in
        ⊎_elim (λ (before : c u < j). (agree u short).1 before) (λ (past : j ≤ c u). omega (arith, past, upper, is)) (cases_lt (c u) j)

    from_rest : (u ≡ v → ⊥) → c u ≡ j → c u ≡ a u
    from_rest other is =
        let led : (w : ℕ) × LeadsThrough m v c u w = rest.led u short other (omega (arith, is, room, fits)) in
        let w : ℕ = led.0 in
        let l : LeadsThrough m v c u w = led.1 in
        let nearer : c w < c u = leads_nearer m v c never rest u w short l in
        let there : c w ≡ a w = (agree w l.member).1 (omega (arith, nearer, is)) in
        let most : a u ≤ suc (m.filtered u w (a w)) =
        no_more (loose.filters u w) (a w) (m.filtered u w (a w)) (never u w (a w) short l.member (top.bounded w l.member))
        (top.least u short other w l.member (cond_all (loose.links u w) (m.linked u w) l.linked)) in
        let upper : a u ≤ c u = omega (arith, most, l.one_more, ap (m.filtered u w) there) in
        ⊎_elim (λ (before : a u < j). (agree u short).0 before) (λ (past : j ≤ a u). omega (arith, past, upper, is)) (cases_lt (a u) j)

agree_below : (m : Topology) (v k : ℕ) (loose : Loose) (a b c : ℕ → ℕ) → NeverNearer m → k ≤ m.size → IsRest (with_all m loose) v a → IsRest (with_none m loose) v b →
    IsRest m v c → AreOneBelow m.size k a b → (j : ℕ) → j ≤ k → Agree m a c j
agree_below m v k loose a b c never fits top bottom rest one zero room =
    λ u short. ((λ near. absurd (omega (arith, near))), (λ near. absurd (omega (arith, near))))
agree_below m v k loose a b c never fits top bottom rest one (suc j) room =
    agree_more m v k loose a b c never fits top bottom rest one j room (agree_below m v k loose a b c never fits top bottom rest one j (omega (arith, room)))

agrees : (m : Topology) (v k : ℕ) (loose : Loose) (a b c : ℕ → ℕ) → NeverNearer m → k ≤ m.size → IsRest (with_all m loose) v a → IsRest (with_none m loose) v b →
    IsRest m v c → AreOneBelow m.size k a b → (u : ℕ) → u < m.size → IsRight k (a u) (a u) (c u)
agrees m v k loose a b c never fits top bottom rest one u short =
    let both : (a u < k → c u ≡ a u) × (c u < k → c u ≡ a u) = agree_below m v k loose a b c never fits top bottom rest one k (omega arith) u short in
    ⊎_elim
    (λ (near : a u < k). inl (both.0 near))
    (λ (far : k ≤ a u). ⊎_elim (λ (near : c u < k). inl (both.1 near)) (λ (past : k ≤ c u). inr (far, past)) (cases_lt (c u) k))
    (cases_lt (a u) k)

-- what is right by one routing is fair by another that is one with it below the bound
right_is_fair : (d : Domain) (v k : ℕ) (loose : Loose) (a c : ℕ → ℕ) (x y z : ℕ) → IsInOrder d → x < d.size → c x ≤ d.size → IsRight k (a x) (a x) (c x) →
    IsRight k (exported d x y v (c x)) (c x) z → Fair d v k loose a x y z
right_is_fair d v k loose a c x y z o from limit agree right =
    ⊎_elim
    (λ (same : c x ≡ a x). ⊎_elim
    (λ (is : z ≡ exported d x y v (c x)). ⊎_elim
    (λ (changes : loose.filters y x ≡ true). inl (changes, omega (arith, same, is, farther)))
    (λ (fixed : loose.filters y x ≡ false). inr (inl (fixed, is ∙ ap (exported d x y v) same)))
    (cases_Bool (loose.filters y x)))
    (λ (past : (k ≤ c x) × (k ≤ z)). inr (inr ((λ _. omega (arith, past.0, same)), past.1)))
    right)
    (λ (far : (k ≤ a x) × (k ≤ c x)). ⊎_elim
    (λ (is : z ≡ exported d x y v (c x)). inr (inr ((λ _. far.0), omega (arith, far.1, is, farther))))
    (λ (past : (k ≤ c x) × (k ≤ z)). inr (inr ((λ _. far.0), past.1)))
    right)
    agree
  where
    farther : c x ≤ exported d x y v (c x)
    farther = (filtered_farther (d.router x).opening (neighbour d x y).exports v (c x) (omega (arith, limit, o.size x from))).farther

-- so a domain in which all that was told is right by one of the two stands
told_stands : (d : Domain) (v k : ℕ) (loose : Loose) (a c : ℕ → ℕ) → IsInOrder d → AreTold d v c k → ((x : ℕ) → x < d.size → IsRight k (a x) (a x) (c x)) →
    Stands d v k loose a d
told_stands d v k loose a c o t agree = record {
  size = refl;
  sees = λ u from. record { member = member_of d u o from; up = λ w _. refl; imports = λ w _ z. refl; exports = λ w _ z. refl };
  hears = λ u from w near up. fair w u near from (heard d w u v) ((t.right w u near from (o.both_ways u w from near up)).0);
  queues = λ u w from to. ⊎_elim
      (λ (linked : are_linked d u w ≡ true). back (IsAbout v (Fair d v k loose a u w)) (d.flight u w) (neighbour d u w).queue (all_fair u w from to linked))
      (λ (down : are_linked d u w ≡ false). subst (All (IsAbout v (Fair d v k loose a u w))) (sym (((o.sound u from).queues w to).idle down))
      (All-nil (IsAbout v (Fair d v k loose a u w))))
      (cases_Bool (are_linked d u w));
  flights = λ u w from to. ⊎_elim
      (λ (linked : are_linked d u w ≡ true). front (IsAbout v (Fair d v k loose a u w)) (d.flight u w) (neighbour d u w).queue (all_fair u w from to linked))
      (λ (down : are_linked d u w ≡ false). subst (All (IsAbout v (Fair d v k loose a u w))) (sym (o.silent u w from to down))
      (All-nil (IsAbout v (Fair d v k loose a u w))))
      (cases_Bool (are_linked d u w));
}
  where
    fair : (x y : ℕ) → x < d.size → y < d.size → (z : ℕ) → IsRight k (exported d x y v (c x)) (c x) z → Fair d v k loose a x y z
    fair x y from to z right = right_is_fair d v k loose a c x y z o from (t.rest.bounded x from) (agree x from) right

    all_fair : (x y : ℕ) → x < d.size → y < d.size → are_linked d x y ≡ true → All (IsAbout v (Fair d v k loose a x y)) (pending d x y)
    all_fair x y from to linked =
        All-weaker (IsAbout v (IsRight k (exported d x y v (c x)) (c x))) (IsAbout v (Fair d v k loose a x y))
        (λ m right about. fair x y from to m.dist (right about)) (pending d x y) ((t.right x y from to linked).1)

-- what stands in a network after what happened far away
pub record IsFar (d : Domain) (v k : ℕ) (loose : Loose) (a b : ℕ → ℕ) (e : Domain) : Type 0 where
  pub watched : IsWatched d v k loose a b
  pub stands : Stands d v k loose a e

pub far_from : (n m : Network) (k : ℕ) (d : Domain) (loose : Loose) (v : ℕ) (a b : ℕ → ℕ) → IsOrderly n → IsWhole n → k ≤ n.domain.size → IsInOrder d →
    Phases k d n.domain → IsLoose loose → v < n.domain.size → IsRest (with_all (topology n.domain v) loose) v a →
    IsRest (with_none (topology n.domain v) loose) v b → AreOneBelow n.domain.size k a b → (j : ℕ) → HappenAll j loose n m → IsFar n.domain v k loose a b m.domain
far_from n m k d loose v a b orderly whole fits o phases both there top bottom agree j happen =
    record { watched = watched; stands = all_stand j e v k loose a b watched n m start happen }
  where
    e : Domain
    e = n.domain

    order : IsInOrder e
    order = in_order n orderly whole

    watched : IsWatched e v k loose a b
    watched = record { order = order; loose_ends = both; there = there; fits = fits; top = top; bottom = bottom; agree = agree }

    kept : KeepsLinksAndFilters d e
    kept = phases_keep k d e phases

    same : topology e v ≡ topology d v
    same = kept_topology d e v kept

    c : ℕ → ℕ
    c = ends_at e order v

    rest : IsRest (topology e v) v c
    rest = ends_rest e order v there

    told : AreTold e v c k
    told =
        phases_told k d e v c 0 k
        (all_right_below_none d v c o (omega (arith, there, kept.size)) (subst (λ t. IsRest t v c) same rest))
        phases (omega arith)

    start : Stands e v k loose a e
    start = told_stands e v k loose a c order told (agrees (topology e v) v k loose a b c (never_nearer e order v) fits top bottom rest agree)

-- the distances, and the next hops that are the same with the links and without them
pub far_distance : (d : Domain) (v k : ℕ) (loose : Loose) (a b : ℕ → ℕ) (e : Domain) → IsFar d v k loose a b e → (u : ℕ) → u < d.size → a u < k →
    distance (e.router u) v ≡ a u
far_distance d v k loose a b e f u short near = distance_stands d v k loose a b f.watched e f.stands u short near

pub far_via : (d : Domain) (v k : ℕ) (loose : Loose) (a b : ℕ → ℕ) (e : Domain) → IsFar d v k loose a b e → (u : ℕ) → u < d.size → a u < k → (via : Via) →
    GoesVia (with_all (topology d v) loose) v a u via → GoesVia (with_none (topology d v) loose) v b u via → (best (e.router u) v).via ≡ via
far_via d v k loose a b e f u short near via one other =
    via_fair d v k loose a b u (e.router u) f.watched (f.stands.sees u short) (f.stands.hears u short) short near via one other
