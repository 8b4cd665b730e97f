-- Each change leaves a neighbour of the domain, and each distance where it does not speak of it.
use Rattle.std.proofs.Common.{◌≡◌, ℕ, ◌<◌, ◌≤◌, true, cond, Option, Some, None, is_some, length, slice_index, slice_set, ap}
use Rattle.std.proofs.Common.{sym, subst, refl, ◌∙◌, ⊎_elim, arith, eq-eqb, length-set, get_or-set_same, get_or-set_other}
use Rattle.std.proofs.lemmas.Bool.{cases_eq}
use Rattle.std.proofs.lemmas.List.{get_or-replicate, length-replicate}
use Rattle.filter_code.specs.Machine.{outcome_of}
use Rattle.filter_machine.specs.Verdicts.{announced}
use Rattle.filter_verifier.specs.VerifiedView.{VerifiedView}
use Rattle.netchange_core.specs.Best.{neighbour_distance}
use Rattle.netchange_core.specs.Kept.{IsNeighbour}
use Rattle.netchange_core.specs.Next.{advertising, dequeued, exporting, gone, importing, joined}
use Rattle.netchange_core.specs.OpeningView.{OpeningView}
use Rattle.netchange_core.specs.FilteredDistance.{distance_given, filtered_distance, prefix_of}
use Rattle.netchange_core.specs.World.{NeighbourView, is_up}
use Rattle.netchange_core.proofs.Lists.{below_repeated}

pub gone_good : (o : OpeningView) (n : NeighbourView) → IsNeighbour o.size n → IsNeighbour o.size (gone o n)
gone_good o n p = record {
  one_a_node = length-replicate o.size o.size;
  reachable = below_repeated o.size o.size;
  imports = p.imports;
  exports = p.exports;
}

pub joined_good : (o : OpeningView) (dist : ℕ → ℕ) (session : ℕ) (n : NeighbourView) → IsNeighbour o.size n →
    IsNeighbour o.size (joined o dist session n)
joined_good o dist session n p = record {
  one_a_node = length-replicate o.size o.size;
  reachable = below_repeated o.size o.size;
  imports = p.imports;
  exports = p.exports;
}

pub advertising_good : (size v d : ℕ) (n : NeighbourView) → v < size → d ≤ size → IsNeighbour size n → IsNeighbour size (advertising v d n)
advertising_good size v d n h within p = record {
  one_a_node = length-set n.advertised v d ∙ p.one_a_node;
  reachable = λ u.
      ⊎_elim (λ (same : u ≡ v).
      subst (λ w. slice_index (slice_set n.advertised v d) w ≤ size) (sym same)
      (subst (λ x. x ≤ size) (sym (get_or-set_same n.advertised v d 0 (omega (arith, p.one_a_node)))) within))
      (λ (other : u ≡ v → ⊥). subst (λ x. x ≤ size) (sym (get_or-set_other n.advertised v u d 0 other)) (p.reachable u)) (cases_eq u v);
  imports = p.imports;
  exports = p.exports;
}

pub importing_good : (size : ℕ) (f : VerifiedView) (n : NeighbourView) → f.size ≡ size → IsNeighbour size n →
    IsNeighbour size (importing f n)
importing_good size f n e p =
    record { one_a_node = p.one_a_node; reachable = p.reachable; imports = e; exports = p.exports }

pub exporting_good : (o : OpeningView) (dist : ℕ → ℕ) (f : VerifiedView) (n : NeighbourView) → f.size ≡ o.size →
    IsNeighbour o.size n → IsNeighbour o.size (exporting o dist f n)
exporting_good o dist f n e p =
    record { one_a_node = p.one_a_node; reachable = p.reachable; imports = p.imports; exports = e }

pub dequeued_good : (size max : ℕ) (n : NeighbourView) → IsNeighbour size n → IsNeighbour size (dequeued max n)
dequeued_good size max n p =
    record { one_a_node = p.one_a_node; reachable = p.reachable; imports = p.imports; exports = p.exports }

-- what cannot be reached stays so under each filter
pub filtered_unreached : (o : OpeningView) (f : Option VerifiedView) (v : ℕ) → filtered_distance o f v o.size ≡ o.size
unfolding filtered_distance
filtered_unreached o None v = refl
filtered_unreached o (Some f) v =
    ap (λ b. cond b o.size (distance_given o.size (outcome_of f.program (announced (prefix_of o v) o.size o.size))))
    (eq-eqb o.size o.size refl)

-- a neighbour that joins has told no distance, as one that is down
pub joined_distance : (o : OpeningView) (dist : ℕ → ℕ) (session v : ℕ) (n : NeighbourView) → n.session ≡ None → v < o.size →
    neighbour_distance o v (joined o dist session n) ≡ neighbour_distance o v n
joined_distance o dist session v n e h =
    ap (λ x. filtered_distance o n.imports v x) (get_or-replicate o.size v o.size 0 h) ∙ filtered_unreached o n.imports v
    ∙ sym (ap (λ s. cond (is_some s) (filtered_distance o n.imports v (slice_index n.advertised v)) o.size) e)

-- a filter of what is told changes nothing while the neighbour is down
pub importing_distance : (o : OpeningView) (f : VerifiedView) (v : ℕ) (n : NeighbourView) → n.session ≡ None →
    neighbour_distance o v (importing f n) ≡ neighbour_distance o v n
importing_distance o f v n e =
    ap (λ s. cond (is_some s) (filtered_distance o (Some f) v (slice_index n.advertised v)) o.size) e
    ∙ sym (ap (λ s. cond (is_some s) (filtered_distance o n.imports v (slice_index n.advertised v)) o.size) e)

-- a distance that is advertised is that of one node
pub advertising_distance : (o : OpeningView) (v d u : ℕ) (n : NeighbourView) → (u ≡ v → ⊥) →
    neighbour_distance o u (advertising v d n) ≡ neighbour_distance o u n
advertising_distance o v d u n other =
    ap (λ x. cond (is_up n) (filtered_distance o n.imports u x) o.size) (get_or-set_other n.advertised v u d 0 other)

pub advertising_here : (o : OpeningView) (v d : ℕ) (n : NeighbourView) → v < length n.advertised → is_up n ≡ true →
    neighbour_distance o v (advertising v d n) ≡ filtered_distance o n.imports v d
advertising_here o v d n h up =
    ap (λ b. cond b (filtered_distance o n.imports v (slice_index (slice_set n.advertised v d) v)) o.size) up
    ∙ ap (λ x. filtered_distance o n.imports v x) (get_or-set_same n.advertised v d 0 h)
