-- Where filters keep the order of metrics, so do the links between routers.
use Rattle.std.proofs.Common.{◌≡◌, ℕ, ◌<◌, ◌≤◌, ◌+◌, nat_eq, length, Option, Some, None, refl, sym, ap, subst, arith}
use Rattle.std.specs.Prelude.{IfSome}
use Rattle.std.proofs.lemmas.Bool.{cond_both, eqb-false, eqb-true}
use Rattle.filter_code.specs.CodeView.{CodeView}
use Rattle.filter_code.specs.Machine.{outcome_of}
use Rattle.filter_code.specs.declared.outcome.Outcome.{Outcome}
use Rattle.filter_code.specs.declared.outcome.Outcome.TheVariants as outcome
use Rattle.filter_diff.specs.Ordering.{IsDisorder, KeepsOrder as KeepsMetrics, comes_to, route_with}
use Rattle.filter_diff.specs.declared.ordering.Disorder.{Disorder}
use Rattle.filter_machine.specs.Verdicts.{announced}
use Rattle.filter_verifier.specs.VerifiedView.{VerifiedView}
use Rattle.netchange_core.specs.FilteredDistance.{distance_given, filtered_distance, prefix_of}
use Rattle.netchange_core.specs.OpeningView.{OpeningView}
use Rattle.ordered_filters.specs.Filters.{HasOrderedFilters, IsFoundKept}
use Rattle.prefix_patterns.specs.Bits.{address_length}
use Rattle.routing_domain.specs.Domain.{Domain, IsInOrder, exported, neighbour, topology}
use Rattle.routing_domain.specs.Gains.{KeepsOrder}
use Rattle.routing_domain.proofs.Increasing.{IsFarther, filtered_farther}

-- what an outcome gives is what it comes to
given_is : (size : ℕ) (end : Outcome) → distance_given size end ≡ comes_to size end
given_is size (outcome.Accept d) = refl
given_is size outcome.Reject = refl
given_is size (outcome.Fault kind at) = refl

module _ (o : OpeningView) (v x y : ℕ) (fits : length (prefix_of o v) ≤ address_length) (less : x ≤ y) (limit : y ≤ o.size) where
  -- of two distances below the size
  given_kept : (program : CodeView) → KeepsMetrics program o.size → y < o.size
      → distance_given o.size (outcome_of program (announced (prefix_of o v) x o.size))
      ≤ distance_given o.size (outcome_of program (announced (prefix_of o v) y o.size))
  given_kept program keeps below =
      let kept : comes_to o.size (outcome_of program (route_with o.size (prefix_of o v) x))
      ≤ comes_to o.size (outcome_of program (route_with o.size (prefix_of o v) y)) = keeps (prefix_of o v) x y fits less below in
      omega (
        arith,
        kept,
        given_is o.size (outcome_of program (announced (prefix_of o v) x o.size)),
        given_is o.size (outcome_of program (announced (prefix_of o v) y o.size)),
      )

  -- of any two: the size itself is what nothing comes to more than
  pub filtered_kept : (f : Option VerifiedView) → IfSome f (IsFoundKept o.size) → filtered_distance o f v x ≤ filtered_distance o f v y
  unfolding filtered_distance
  filtered_kept None keeps = less
  filtered_kept (Some f) keeps =
      let near = distance_given o.size (outcome_of f.program (announced (prefix_of o v) x o.size)) in
      let far = distance_given o.size (outcome_of f.program (announced (prefix_of o v) y o.size)) in
      let within = (filtered_farther o (Some f) v x (omega (arith, less, limit))).within in
      cond_both (nat_eq y o.size) o.size far (λ z. filtered_distance o (Some f) v x ≤ z) (λ _. within)
      (λ apart.
      let below : y < o.size = omega (arith, limit, eqb-false y o.size apart) in
      cond_both (nat_eq x o.size) o.size near (λ z. z ≤ far)
      (λ same. absurd (omega (arith, less, below, eqb-true x o.size same)))
      (λ _. given_kept f.program keeps below))

pub filters_keep_order : (d : Domain) → IsInOrder d → HasOrderedFilters d → (v : ℕ) → v < d.size → KeepsOrder (topology d v)
filters_keep_order d o has v there = λ u w x y short near less limit.
    let size_there : (d.router w).opening.size ≡ d.size = o.size w near in
    let size_here : (d.router u).opening.size ≡ d.size = o.size u short in
    let out : exported d w u v x ≤ exported d w u v y =
    filtered_kept (d.router w).opening v x y (has.prefixes w v near there) less (omega (arith, size_there, limit)) (neighbour d w u).exports
    (subst (λ (n : ℕ). IfSome (neighbour d w u).exports (IsFoundKept n)) (sym size_there) (has.exports w u near short)) in
    let far : IsFarther (d.router w).opening.size y (exported d w u v y) =
    filtered_farther (d.router w).opening (neighbour d w u).exports v y (omega (arith, size_there, limit)) in
    filtered_kept (d.router u).opening v (exported d w u v x) (exported d w u v y) (has.prefixes u v short there) out
    (omega (arith, size_there, size_here, far.within)) (neighbour d u w).imports
    (subst (λ (n : ℕ). IfSome (neighbour d u w).imports (IsFoundKept n)) (sym size_here) (has.imports u w short near))

-- a filter of which two metrics are shown does not keep the order
pub not_kept : (program : CodeView) (size : ℕ) (shown : Disorder) → IsDisorder program size shown → KeepsMetrics program size → ⊥
not_kept program size shown is keeps =
    let kept = keeps shown.prefix shown.metric (shown.metric + 1) is.fits (omega arith) is.below in
    omega (arith, kept, is.more, ap (comes_to size) is.lesser, ap (comes_to size) is.next)
