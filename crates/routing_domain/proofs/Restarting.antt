-- A network of routers that were just opened is orderly, and one stays so when a router is opened anew.
use Rattle.std.proofs.Common.{◌≡◌, ⊎_elim, ℕ, ◌<◌, true, false, cond, All, [], slice_index, replicate, refl, sym, ap, subst, ◌∙◌, eq-eqb, ne_eqb, arith}
use Rattle.std.specs.Prelude.{◌≢◌}
use Rattle.std.proofs.lemmas.Bool.{cases_eq}
use Rattle.std.proofs.lemmas.List.{get_or-replicate}
use Rattle.std.proofs.lemmas.List.Elements.{All-nil}
use Rattle.std.proofs.lemmas.Option.{none-some}
use Rattle.netchange_core.specs.Calls.{newcomer, opened}
use Rattle.netchange_core.specs.Kept.{AreNeighbours}
use Rattle.netchange_core.specs.OpeningView.{OpeningView}
use Rattle.netchange_core.specs.World.{is_up, neighbour_at, nobody}
use Rattle.routing_domain.specs.Domain.{AreOpenings, Domain, IsMember, IsWithin}
use Rattle.routing_domain.specs.Network.{IsDirection, IsOrderly, Network, opened_network, restarts}
use Rattle.routing_domain.proofs.ComingUp.{unreached_at}
use Rattle.routing_domain.proofs.Keeping.{KeepsLink, keeps_itself}
use Rattle.routing_domain.proofs.OneEnd.{kept_direction}
use Rattle.routing_domain.proofs.Starting.{down_at, idle_at, queued_at, tables_of}

pub opened_member : (n u : ℕ) (o : OpeningView) → o.size ≡ n → o.me ≡ u → IsMember n u (opened o)
opened_member n u o size me = record {
  size = size;
  me = me;
  tables = subst (λ s. AreNeighbours s (opened o).neighbours) size (tables_of o);
  sound = record {
    opened = λ k s held. absurd (none-some s (sym ((idle_at o k).0) ∙ held));
    apart = λ j k s held same. absurd (none-some s (sym ((idle_at o k).0) ∙ held));
    queues = λ k near. queued_at n o k;
  };
  apart = down_at o u;
}

-- a router that was just opened knows nothing of anybody
opened_unheard : (n k v : ℕ) (o : OpeningView) → o.size ≡ n → k < n → v < n → slice_index (neighbour_at (opened o).neighbours k).advertised v ≡ n
opened_unheard n k v o size near below =
    ap (λ x. slice_index x.advertised v) (get_or-replicate o.size k (newcomer o) nobody (omega (arith, near, size)))
    ∙ ap (λ s. slice_index (replicate s s) v) size
    ∙ unreached_at n v below

pub opened_orderly : (n : ℕ) (openings : ℕ → OpeningView) → AreOpenings n openings → IsOrderly (opened_network n openings)
opened_orderly n openings a = record {
  members = λ u short. opened_member n u (openings u) (a.size u short) (a.me u short);
  directions = λ u w from to. record {
    within = All-nil (IsWithin n);
    unheard = λ down v below. opened_unheard n u v (openings w) (a.size w to) from below;
    told = λ linked. absurd (let h : true ≡ false = sym linked ∙ down_at (openings u) w in cc);
  };
}

pub restarts_orderly : (n : Network) (u : ℕ) (o : OpeningView) → IsOrderly n → u < n.domain.size → o.size ≡ n.domain.size → o.me ≡ u →
    IsOrderly (restarts n u o)
restarts_orderly n u o orderly short size me = record {
  members = λ x near. ⊎_elim
      (λ (here : x ≡ u). subst (λ y. IsMember d.size y (e.router y)) (sym here) (subst (IsMember d.size u) (sym now) (opened_member d.size u o size me)))
      (λ (other : x ≡ u → ⊥). subst (IsMember d.size x) (sym (still x other)) (orderly.members x near)) (cases_eq x u);
  directions = directions;
}
  where
    d : Domain
    d = n.domain

    m : Network
    m = restarts n u o

    e : Domain
    e = m.domain

    now : e.router u ≡ opened o
    now = ap (λ b. cond b (opened o) (d.router u)) (eq-eqb u u refl)

    still : (x : ℕ) → x ≢ u → e.router x ≡ d.router x
    still x other = ap (λ b. cond b (opened o) (d.router x)) (ne_eqb x u other)

    -- to the router nothing gets, and it knows nothing
    to_it : (a : ℕ) → a < d.size → IsDirection m a u
    to_it a from = record {
      within = subst (λ f. All (IsWithin d.size) f) (sym (ap (λ b. cond b [] (d.flight a u)) (eq-eqb u u refl))) (All-nil (IsWithin d.size));
      unheard = λ down v below. ap (λ x. slice_index (neighbour_at x.neighbours a).advertised v) now ∙ opened_unheard d.size a v o size from below;
      told = λ linked carried. absurd (let h : true ≡ false = sym carried ∙ ap (λ b. cond b false (n.carries a u)) (eq-eqb u u refl) in cc);
    }

    flight_still : (a b : ℕ) → b ≢ u → e.flight a b ≡ d.flight a b
    flight_still a b other = ap (λ c. cond c [] (d.flight a b)) (ne_eqb b u other)

    carries_still : (a b : ℕ) → b ≢ u → m.carries a b ≡ n.carries a b
    carries_still a b other = ap (λ c. cond c false (n.carries a b)) (ne_eqb b u other)

    -- it is up with nobody
    from_it : (b : ℕ) → b < d.size → b ≢ u → IsDirection m u b
    from_it b to other = record {
      within = subst (λ f. All (IsWithin d.size) f) (sym (flight_still u b other)) (orderly.directions u b short to).within;
      unheard = λ down v below.
          ap (λ x. slice_index (neighbour_at x.neighbours u).advertised v) (still b other)
          ∙ (orderly.directions u b short to).unheard (sym (ap (λ x. is_up (neighbour_at x.neighbours u)) (still b other)) ∙ down) v below;
      told = λ linked. absurd (let h : true ≡ false = sym linked ∙ ap (λ x. is_up (neighbour_at x.neighbours b)) now ∙ down_at o b in cc);
    }

    kept : (a b : ℕ) → a ≢ u → KeepsLink d.size (d.router a) (e.router a) b
    kept a b other = subst (λ r. KeepsLink d.size (d.router a) r b) (sym (still a other)) (keeps_itself d.size (d.router a) b)

    directions : (a b : ℕ) → a < d.size → b < d.size → IsDirection m a b
    directions a b from to =
        ⊎_elim
        (λ (here : b ≡ u). subst (λ y. IsDirection m a y) (sym here) (to_it a from))
        (λ (far : b ≡ u → ⊥). ⊎_elim
        (λ (here : a ≡ u). subst (λ x. IsDirection m x b) (sym here) (from_it b to far))
        (λ (other : a ≡ u → ⊥). kept_direction n e.router e.flight m.carries a b
        (record { here = kept a b other; there = kept b a far; flight = flight_still a b far; carries = carries_still a b far }) (orderly.directions a b from to))
        (cases_eq a u))
        (cases_eq b u)
