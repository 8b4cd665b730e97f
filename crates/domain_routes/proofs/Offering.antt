-- After a node is done the routes are the best so far again.
use Rattle.std.proofs.Common.{◌≡◌, ◌≢◌, ⊎_elim, inr, ℕ, suc, ◌<◌, ◌≤◌, Bool, true, false, sym, ap, subst, ◌∙◌, arith}
use Rattle.std.proofs.lemmas.Bool.{cases_Bool, cases_eq, false≢true}
use Rattle.netchange_core.specs.declared.reply.Via.{Via}
use Rattle.netchange_core.specs.declared.reply.Via.TheVariants.{Local, Node, Nowhere}
use Rattle.routing_domain.specs.Rest.{Topology}
use Rattle.domain_routes.specs.declared.best.Best.{Best}
use Rattle.domain_routes.specs.Left.{AreBestBefore}
use Rattle.domain_routes.specs.Offers.{ComesBefore, StaysBehind, hop_of, way}
use Rattle.domain_routes.specs.Solving.{AreBestSoFar, AreOffered, IsBestSoFar, IsFound}
use Rattle.domain_routes.proofs.Kept.{IsRound, keeps, keeps_done, no_nearer}

-- A node is done, and its neighbours were offered the way through it. Those that are done keep their routes, and the destination its own.
pub record IsStep (m : Topology) (to : ℕ) (old new : ℕ → Best) (before after : ℕ → Bool) (w : ℕ) : Type 0 where
  pub settled : AreBestBefore m to old before m.size
  pub member : w < m.size
  pub offered : AreOffered m w old new
  pub keeps : (x : ℕ) → x < m.size → after x ≡ true → new x ≡ old x
  pub own : new to ≡ old to
  pub done : after w ≡ true
  pub others : (x : ℕ) → x ≢ w → after x ≡ before x

-- what led through a node that was done does so still
found_still : (m : Topology) (to : ℕ) (old new : ℕ → Best) (before after : ℕ → Bool) (w : ℕ) → IsStep m to old new before after w →
    (u dist : ℕ) (via : Via) → IsFound m old before u dist via → IsFound m new after u dist via
found_still m to old new before after w r u dist Local f = f
found_still m to old new before after w r u dist (Node x) f =
    let done : after x ≡ true =
    ⊎_elim (λ same. ap after same ∙ r.done) (λ other. r.others x other ∙ f.before) (cases_eq x w) in
    record {
      member = f.member;
      before = done;
      linked = f.linked;
      one_more = subst (λ b. dist ≡ suc (m.filtered u x b.dist)) (sym (r.keeps x f.member done)) f.one_more;
      in_reach = f.in_reach;
    }
found_still m to old new before after w r u dist Nowhere f = f

-- a route before which the way through the node does not come, and none that came before it
behind_still : (m : Topology) (to : ℕ) (old new : ℕ → Best) (before after : ℕ → Bool) (w : ℕ) → IsStep m to old new before after w →
    (u : ℕ) → (route : Best) → (m.linked u w ≡ true → StaysBehind (suc (m.filtered u w (old w).dist)) w route) →
    ((x : ℕ) → x < m.size → before x ≡ true → m.linked u x ≡ true → StaysBehind (suc (m.filtered u x (old x).dist)) x route) →
    (x : ℕ) → x < m.size → after x ≡ true → m.linked u x ≡ true → StaysBehind (suc (m.filtered u x (new x).dist)) x route
behind_still m to old new before after w r u route here there x short done linked =
    subst (λ (b : Best). StaysBehind (suc (m.filtered u x b.dist)) x route) (sym (r.keeps x short done))
    (⊎_elim
    (λ (same : x ≡ w). subst (λ n. m.linked u n ≡ true → StaysBehind (suc (m.filtered u n (old n).dist)) n route) (sym same) here linked)
    (λ (other : x ≡ w → ⊥). there x short (sym (r.others x other) ∙ done) linked)
    (cases_eq x w))

-- a route that stays is the best so far
best_kept : (m : Topology) (to : ℕ) (old new : ℕ → Best) (before after : ℕ → Bool) (w : ℕ) → IsStep m to old new before after w →
    (u : ℕ) → IsBestSoFar m old before u (old u) → (m.linked u w ≡ true → StaysBehind (suc (m.filtered u w (old w).dist)) w (old u)) →
    IsBestSoFar m new after u (old u)
best_kept m to old new before after w r u best here = record {
  found = found_still m to old new before after w r u (old u).dist (old u).via best.found;
  behind = λ x short done linked. behind_still m to old new before after w r u (old u) here best.behind x short done linked;
}

-- a way that comes before a route is in reach
pub tie_in_reach : (m : Topology) (old : ℕ → Best) (before : ℕ → Bool) (u dist hop : ℕ) (via : Via) → IsFound m old before u dist via →
    hop < hop_of via → dist < m.size
tie_in_reach m old before u dist hop Local f less = absurd f
tie_in_reach m old before u dist hop (Node x) f less = f.in_reach
tie_in_reach m old before u dist hop Nowhere f less = absurd (omega (arith, less))

-- what comes after a route comes after a way that comes before it
pub behind_way : (length hop : ℕ) (route : Best) → ComesBefore length hop route → (more other : ℕ) → StaysBehind more other route →
    StaysBehind more other (way length hop)
behind_way length hop route comes more other behind =
    ⊎_elim
    (λ (shorter : length < route.dist). record {
      near = omega (arith, shorter, behind.near);
      first = λ same. absurd (omega (arith, shorter, behind.near, same));
    })
    (λ (tie : (length ≡ route.dist) × (hop < hop_of route.via)). record {
      near = omega (arith, tie.0, behind.near);
      first = λ same. omega (arith, tie.1, behind.first (sym (tie.0) ∙ same));
    })
    comes

-- a way that is taken is the best so far
best_taken : (m : Topology) (to : ℕ) (old new : ℕ → Best) (before after : ℕ → Bool) (w : ℕ) → IsStep m to old new before after w →
    (u : ℕ) → u < m.size → IsBestSoFar m old before u (old u) → m.linked u w ≡ true → ComesBefore (suc (m.filtered u w (old w).dist)) w (old u) →
    IsBestSoFar m new after u (way (suc (m.filtered u w (old w).dist)) w)
best_taken m to old new before after w r u short best linked comes =
    let length : ℕ = suc (m.filtered u w (old w).dist) in
    record {
      found = record {
        member = r.member;
        before = r.done;
        linked = linked;
        one_more = ap (λ (b : Best). suc (m.filtered u w b.dist)) (sym (r.keeps w r.member r.done));
        in_reach = ⊎_elim
            (λ (shorter : suc (m.filtered u w (old w).dist) < (old u).dist). omega (arith, shorter, r.settled.bounded u short))
            (λ (tie : (suc (m.filtered u w (old w).dist) ≡ (old u).dist) × (w < hop_of (old u).via)).
            omega (arith, tie.0, tie_in_reach m old before u (old u).dist w (old u).via best.found (tie.1)))
            comes;
      };
      behind = λ x within done there. behind_still m to old new before after w r u (way (suc (m.filtered u w (old w).dist)) w)
          (λ _. record { near = omega arith; first = λ _. omega arith })
          (λ y member was joined. behind_way (suc (m.filtered u w (old w).dist)) w (old u) comes (suc (m.filtered u y (old y).dist)) y (best.behind y member was joined))
          x within done there;
    }

best_after : (m : Topology) (to : ℕ) (old new : ℕ → Best) (before after : ℕ → Bool) (w : ℕ) → IsStep m to old new before after w →
    (u : ℕ) → u < m.size → u ≢ to → IsBestSoFar m new after u (new u)
best_after m to old new before after w r u short other =
    let best : IsBestSoFar m old before u (old u) = r.settled.best u short other (inr short) in
    ⊎_elim
    (λ (linked : m.linked u w ≡ true). ⊎_elim
    (λ (taken : (new u ≡ way (suc (m.filtered u w (old w).dist)) w) × ComesBefore (suc (m.filtered u w (old w).dist)) w (old u)).
    subst (IsBestSoFar m new after u) (sym (taken.0)) (best_taken m to old new before after w r u short best linked (taken.1)))
    (λ (kept : (new u ≡ old u) × StaysBehind (suc (m.filtered u w (old w).dist)) w (old u)).
    subst (IsBestSoFar m new after u) (sym (kept.0)) (best_kept m to old new before after w r u best (λ _. kept.1)))
    ((r.offered u short).taken linked))
    (λ (apart : m.linked u w ≡ false).
    subst (IsBestSoFar m new after u) (sym ((r.offered u short).kept apart))
    (best_kept m to old new before after w r u best (λ linked. absurd (false≢true (sym apart ∙ linked)))))
    (cases_Bool (m.linked u w))

-- a node's route changes only for a shorter one or as short a one
no_farther : (m : Topology) (to : ℕ) (old new : ℕ → Best) (before after : ℕ → Bool) (w : ℕ) → IsStep m to old new before after w →
    (u : ℕ) → u < m.size → (new u).dist ≤ (old u).dist
no_farther m to old new before after w r u short =
    ⊎_elim
    (λ linked. ⊎_elim
    (λ taken. ⊎_elim
    (λ shorter. omega (arith, ap dist taken.0, shorter)) (λ tie. omega (arith, ap dist taken.0, tie.0)) (taken.1))
    (λ kept. omega (arith, ap dist kept.0))
    ((r.offered u short).taken linked))
    (λ apart. omega (arith, ap dist ((r.offered u short).kept apart)))
    (cases_Bool (m.linked u w))
  where
    dist : Best → ℕ
    dist b = b.dist

pub step_settles : (m : Topology) (to : ℕ) (old new : ℕ → Best) (before after : ℕ → Bool) (w : ℕ) → IsStep m to old new before after w →
    AreBestBefore m to new after m.size
step_settles m to old new before after w r = record {
  own = r.own ∙ r.settled.own;
  bounded = λ u short. omega (arith, no_farther m to old new before after w r u short, r.settled.bounded u short);
  best = λ u short other _. best_after m to old new before after w r u short other;
}

-- a round in Dijkstra's order is such a step
step_of : (m : Topology) (to : ℕ) (old new : ℕ → Best) (before after : ℕ → Bool) (w : ℕ) → IsRound m to old new before after w →
    IsStep m to old new before after w
step_of m to old new before after w r = record {
  settled = record { own = r.settled.own; bounded = r.settled.bounded; best = λ u short other _. r.settled.best u short other };
  member = r.nearest.member;
  offered = r.offered;
  keeps = λ x short done. keeps_done m to old new before after w r x short done;
  own = keeps m to old new before after w r to r.destination (omega (arith, ap (λ (b : Best). b.dist) r.settled.own));
  done = r.done;
  others = r.others;
}

-- no node that waits is nearer than one that is done
order_after : (m : Topology) (to : ℕ) (old new : ℕ → Best) (before after : ℕ → Bool) (w : ℕ) → IsRound m to old new before after w →
    (x u : ℕ) → x < m.size → u < m.size → after x ≡ true → after u ≡ false → (new x).dist ≤ (new u).dist
order_after m to old new before after w r x u short within done waits =
    let near : (old x).dist ≤ (old w).dist =
    ⊎_elim
    (λ same. omega (arith, ap (λ n. (old n).dist) same))
    (λ other. r.settled.order x w short r.nearest.member (sym (r.others x other) ∙ done) r.nearest.waits)
    (cases_eq x w) in
    let other : u ≢ w = λ same. false≢true (sym waits ∙ ap after same ∙ r.done) in
    omega (
      arith,
      near,
      ap (λ (b : Best). b.dist) (keeps_done m to old new before after w r x short done),
      no_nearer m to old new before after w r u within (sym (r.others u other) ∙ waits),
    )

pub round_settles : (m : Topology) (to : ℕ) (old new : ℕ → Best) (before after : ℕ → Bool) (w : ℕ) → IsRound m to old new before after w →
    AreBestSoFar m to new after
round_settles m to old new before after w r =
    let all : AreBestBefore m to new after m.size = step_settles m to old new before after w (step_of m to old new before after w r) in
    record {
      own = all.own;
      bounded = all.bounded;
      best = λ u short other. all.best u short other (inr short);
      order = λ x u short within done waits. order_after m to old new before after w r x u short within done waits;
    }
