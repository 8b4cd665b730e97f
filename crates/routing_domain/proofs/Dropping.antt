-- A message is left out that a later one about the same node follows: what a link will have told is the same, the domain stays in order, and it
-- gets lighter.
use Rattle.std.proofs.Common.{◌≡◌, ⊎_elim, ℕ, ◌<◌, cond, nat_eq, All, List, [], ◌∷◌, ◌++◌, slice_index, refl, sym, ap, subst, ◌∙◌, arith, append_assoc, eq-eqb}
use Rattle.std.proofs.lemmas.Bool.{cases_eq, cond_both, eqb-true}
use Rattle.netchange_core.specs.declared.message.Message.{Message}
use Rattle.netchange_core.specs.Best.{distance}
use Rattle.routing_domain.specs.Domain.{Domain, IsInOrder, IsWithin, KeepsLinksAndFilters, advertised_in_the_end, exported, last_told, neighbour, pending}
use Rattle.routing_domain.specs.Runs.{DropsOne}
use Rattle.routing_domain.specs.Steps.{with_flight}
use Rattle.routing_domain.specs.Weight.{link_weight, mass, router_weight, weight}
use Rattle.routing_domain.proofs.Places.{IsOther, flight_from_other, flight_here, flight_other, flight_to_other}
use Rattle.routing_domain.proofs.Sums.{sum_less, sum_same}
use Rattle.routing_domain.proofs.Turning.{all_without}
use Rattle.routing_domain.proofs.Weighing.{mass_both, weigh_positive}

-- what was said of a node before does not matter where a later message is about it
told_forget : (v b c : ℕ) (ys : List Message) (later : Message) (zs : List Message) → later.dest ≡ v →
    last_told v b (ys ++ later ∷ zs) ≡ last_told v c (ys ++ later ∷ zs)
told_forget v b c [] later zs about =
    ap (λ x. last_told v x zs) (ap (λ t. cond t later.dist b) (eq-eqb later.dest v about) ∙ sym (ap (λ t. cond t later.dist c) (eq-eqb later.dest v about)))
told_forget v b c (y ∷ ys) later zs about = told_forget v (cond (nat_eq y.dest v) y.dist b) (cond (nat_eq y.dest v) y.dist c) ys later zs about

pub told_without : (v b : ℕ) (xs : List Message) (m : Message) (ys : List Message) (later : Message) (zs : List Message) → later.dest ≡ m.dest →
    last_told v b (xs ++ m ∷ (ys ++ later ∷ zs)) ≡ last_told v b (xs ++ (ys ++ later ∷ zs))
told_without v b [] m ys later zs about =
    cond_both (nat_eq m.dest v) m.dist b (λ x. last_told v x (ys ++ later ∷ zs) ≡ last_told v b (ys ++ later ∷ zs))
    (λ same. told_forget v m.dist b ys later zs (about ∙ eqb-true m.dest v same)) (λ _. refl)
told_without v b (x ∷ xs) m ys later zs about = told_without v (cond (nat_eq x.dest v) x.dist b) xs m ys later zs about

-- the link that it was on, with what waits there
pub link_was : (d e : Domain) (x : DropsOne d e) →
    pending d x.from x.to ≡ x.before ++ x.message ∷ (x.between ++ x.later ∷ (x.behind ++ (neighbour d x.from x.to).queue))
link_was d e x =
    let q = (neighbour d x.from x.to).queue in
    ap (λ f. f ++ q) x.flight
    ∙ append_assoc x.before (x.message ∷ (x.between ++ x.later ∷ x.behind)) q
    ∙ ap (λ f. x.before ++ x.message ∷ f) (append_assoc x.between (x.later ∷ x.behind) q)

pub link_is : (d e : Domain) (x : DropsOne d e) →
    pending e x.from x.to ≡ x.before ++ (x.between ++ x.later ∷ (x.behind ++ (neighbour d x.from x.to).queue))
link_is d e x =
    let q = (neighbour d x.from x.to).queue in
    ap (λ c. pending c x.from x.to) x.after
    ∙ ap (λ f. f ++ q) (flight_here d x.from x.to (x.before ++ (x.between ++ x.later ∷ x.behind)))
    ∙ append_assoc x.before (x.between ++ x.later ∷ x.behind) q
    ∙ ap (λ f. x.before ++ f) (append_assoc x.between (x.later ∷ x.behind) q)

pub link_other : (d e : Domain) (x : DropsOne d e) (a b : ℕ) → IsOther x.from x.to a b → pending e a b ≡ pending d a b
link_other d e x a b i =
    ap (λ c. pending c a b) x.after
    ∙ ap (λ f. f ++ (neighbour d a b).queue) (flight_other d x.from x.to (x.before ++ (x.between ++ x.later ∷ x.behind)) a b i)

-- links and filters are what they were
pub drop_keeps : (d e : Domain) → DropsOne d e → KeepsLinksAndFilters d e
drop_keeps d e x = subst (KeepsLinksAndFilters d) (sym x.after) (record {
  size = refl;
  openings = λ u. refl;
  linked = λ u w. refl;
  imports = λ u w. refl;
  exports = λ u w. refl;
})

-- the domain stays in order
pub drop_keeps_order : (d e : Domain) → IsInOrder d → DropsOne d e → IsInOrder e
drop_keeps_order d e o x = subst IsInOrder (sym x.after) (record {
  size = o.size;
  me = o.me;
  tables = o.tables;
  sound = o.sound;
  apart = o.apart;
  both_ways = o.both_ways;
  within = λ a b from to. of_flight (All (IsWithin d.size)) a b (o.within a b from to)
      (all_without (IsWithin d.size) x.before x.message (x.between ++ x.later ∷ x.behind) (subst (All (IsWithin d.size)) x.flight (o.within x.from x.to x.member x.member_there)));
  silent = λ a b from to down. silent a b (o.silent a b from to down);
  told = λ a b v from to below linked. told a b v (o.told a b v from to below linked);
})
  where
    rest : List Message
    rest = x.between ++ x.later ∷ x.behind

    f : Domain
    f = with_flight d x.from x.to (x.before ++ rest)

    -- what is so of both flights is so of each
    of_flight : (P : List Message → Type 0) (a b : ℕ) → P (d.flight a b) → P (x.before ++ rest) → P (f.flight a b)
    of_flight P a b was now = ⊎_elim
        (λ (one : a ≡ x.from). ⊎_elim
        (λ (two : b ≡ x.to). subst (λ y. P (f.flight y b)) (sym one) (subst (λ y. P (f.flight x.from y)) (sym two)
        (subst P (sym (flight_here d x.from x.to (x.before ++ rest))) now)))
        (λ (far : b ≡ x.to → ⊥). subst P (sym (flight_to_other d x.from x.to (x.before ++ rest) a b far)) was)
        (cases_eq b x.to))
        (λ (far : a ≡ x.from → ⊥). subst P (sym (flight_from_other d x.from x.to (x.before ++ rest) a b far)) was)
        (cases_eq a x.from)

    nothing_left : (xs ys : List Message) (m : Message) → xs ++ m ∷ ys ≡ [] → ⊥
    nothing_left [] ys m h = cc
    nothing_left (y ∷ xs) ys m h = cc

    silent : (a b : ℕ) → d.flight a b ≡ [] → f.flight a b ≡ []
    silent a b none = ⊎_elim
        (λ (one : a ≡ x.from). ⊎_elim
        (λ (two : b ≡ x.to). absurd (nothing_left x.before rest x.message
        (sym x.flight ∙ ap (λ y. d.flight y x.to) (sym one) ∙ ap (d.flight a) (sym two) ∙ none)))
        (λ (far : b ≡ x.to → ⊥). flight_to_other d x.from x.to (x.before ++ rest) a b far ∙ none)
        (cases_eq b x.to))
        (λ (far : a ≡ x.from → ⊥). flight_from_other d x.from x.to (x.before ++ rest) a b far ∙ none)
        (cases_eq a x.from)

    told_here : (v : ℕ) → advertised_in_the_end f x.from x.to v ≡ advertised_in_the_end d x.from x.to v
    told_here v =
        ap (last_told v (slice_index (neighbour d x.to x.from).advertised v)) (sym (ap (λ c. pending c x.from x.to) x.after) ∙ link_is d e x)
        ∙ sym (told_without v (slice_index (neighbour d x.to x.from).advertised v) x.before x.message x.between x.later
        (x.behind ++ (neighbour d x.from x.to).queue) x.about)
        ∙ ap (last_told v (slice_index (neighbour d x.to x.from).advertised v)) (sym (link_was d e x))

    told : (a b v : ℕ) → advertised_in_the_end d a b v ≡ exported d a b v (distance (d.router a) v) →
        advertised_in_the_end f a b v ≡ exported f a b v (distance (f.router a) v)
    told a b v was = ⊎_elim
        (λ (one : a ≡ x.from). ⊎_elim
        (λ (two : b ≡ x.to).
        ap (λ y. advertised_in_the_end f y b v) one ∙ ap (λ y. advertised_in_the_end f x.from y v) two ∙ told_here v
        ∙ sym (ap (λ y. advertised_in_the_end d y b v) one ∙ ap (λ y. advertised_in_the_end d x.from y v) two) ∙ was)
        (λ (far : b ≡ x.to → ⊥). elsewhere (flight_to_other d x.from x.to (x.before ++ rest) a b far))
        (cases_eq b x.to))
        (λ (far : a ≡ x.from → ⊥). elsewhere (flight_from_other d x.from x.to (x.before ++ rest) a b far))
        (cases_eq a x.from)
      where
        elsewhere : f.flight a b ≡ d.flight a b → advertised_in_the_end f a b v ≡ exported f a b v (distance (f.router a) v)
        elsewhere same =
            ap (λ ms. last_told v (slice_index (neighbour d b a).advertised v) (ms ++ (neighbour d a b).queue)) same ∙ was

-- and gets lighter
drop_mass : (size : ℕ) (xs : List Message) (m : Message) (ys : List Message) → 0 < size → mass size (xs ++ ys) < mass size (xs ++ m ∷ ys)
drop_mass size xs m ys some = omega (arith, mass_both size xs ys, mass_both size xs (m ∷ ys), weigh_positive size m.dist some)

pub drop_is_lighter : (d e : Domain) → DropsOne d e → weight e < weight d
drop_is_lighter d e x = subst (λ c. weight c < weight d) (sym x.after)
    (sum_less d.size x.from (router_weight f) (router_weight d) x.member router_less (λ a short far. omega (arith, router_same a far)))
  where
    rest : List Message
    rest = x.between ++ x.later ∷ x.behind

    f : Domain
    f = with_flight d x.from x.to (x.before ++ rest)

    link_less : link_weight f x.from x.to < link_weight d x.from x.to
    link_less =
        omega (
          arith,
          ap (mass d.size) (flight_here d x.from x.to (x.before ++ rest)),
          ap (mass d.size) x.flight,
          drop_mass d.size x.before x.message rest (omega (arith, x.member)),
        )

    router_less : router_weight f x.from < router_weight d x.from
    router_less =
        let less = sum_less d.size x.to (link_weight f x.from) (link_weight d x.from) x.member_there link_less
        (λ y short far. omega (arith, ap (mass d.size) (flight_to_other d x.from x.to (x.before ++ rest) x.from y far))) in
        omega (arith, less)

    router_same : (a : ℕ) → (a ≡ x.from → ⊥) → router_weight f a ≡ router_weight d a
    router_same a far =
        let same = sum_same d.size (link_weight f a) (link_weight d a)
        (λ y short. omega (arith, ap (mass d.size) (flight_from_other d x.from x.to (x.before ++ rest) a y far))) in
        omega (arith, same)
