-- Worked rows of the definitions: a line of three nodes, and a filter that lowers distances, under which a loop stands at rest.
use Rattle.std.proofs.Common.{◌≡◌, ℕ, ◌-◌, ◌<◌, ◌≤◌, zero, suc, true, false, [], ◌∷◌, slice_index, refl, arith}
use Rattle.std.specs.Prelude.{◌||◌, ◌≢◌}
use Rattle.routing_domain.specs.Changes.{is_between}
use Rattle.routing_domain.specs.Rest.{IsLeast, IsRest, LeadsThrough, NeverNearer, Topology}

-- the nodes of a domain of three, one by one
each_of_three : (P : ℕ → Type 0) → P 0 → P 1 → P 2 → (u : ℕ) → u < 3 → P u
each_of_three P a b c zero h = a
each_of_three P a b c (suc zero) h = b
each_of_three P a b c (suc (suc zero)) h = c
each_of_three P a b c (suc (suc (suc u))) h = absurd (omega arith)

-- nodes 0, 1 and 2 in a line, without filters
abbrev line : Topology
line = record { size = 3; linked = λ u w. is_between 0 1 u w || is_between 1 2 u w; filtered = λ u w d. d }

abbrev steps : ℕ → ℕ
steps u = slice_index (0 ∷ 1 ∷ 2 ∷ []) u

-- at rest node 1 is at distance 1 from node 0, and node 2 at distance 2
line_rests : IsRest line 0 steps
line_rests = record {
  own = refl;
  bounded = each_of_three (λ u. steps u ≤ 3) (omega arith) (omega arith) (omega arith);
  least = each_of_three (λ u. u ≢ 0 → IsLeast line steps u)
      (λ other. absurd (other refl))
      (λ _. each_of_three (λ w. line.linked 1 w ≡ true → 1 ≤ suc (steps w)) (λ _. omega arith) (λ _. omega arith) (λ _. omega arith))
      (λ _. each_of_three (λ w. line.linked 2 w ≡ true → 2 ≤ suc (steps w)) (λ (h : false ≡ true). cc) (λ _. omega arith) (λ _. omega arith));
  led = each_of_three (λ u. u ≢ 0 → steps u < 3 → (w : ℕ) × LeadsThrough line 0 steps u w)
      (λ other _. absurd (other refl))
      (λ other _. (0, record { other = other; member = omega arith; linked = refl; one_more = refl; in_reach = omega arith }))
      (λ other _. (1, record { other = other; member = omega arith; linked = refl; one_more = refl; in_reach = omega arith }));
}

-- node 0 alone, and nodes 1 and 2 with filters that make each distance one less
abbrev lowering : Topology
lowering = record { size = 3; linked = λ u w. is_between 1 2 u w; filtered = λ u w d. d - 1 }

abbrev looping : ℕ → ℕ
looping u = slice_index (0 ∷ 1 ∷ 1 ∷ []) u

-- node 1 reaches node 0 through node 2, and node 2 through node 1: a loop, and it is at rest
leads_there : LeadsThrough lowering 0 looping 1 2
leads_there = record { other = λ e. (let h : 1 ≡ 0 = e in omega arith); member = omega arith; linked = refl; one_more = refl; in_reach = omega arith }

leads_back : LeadsThrough lowering 0 looping 2 1
leads_back = record { other = λ e. (let h : 2 ≡ 0 = e in omega arith); member = omega arith; linked = refl; one_more = refl; in_reach = omega arith }

loop_rests : IsRest lowering 0 looping
loop_rests = record {
  own = refl;
  bounded = each_of_three (λ u. looping u ≤ 3) (omega arith) (omega arith) (omega arith);
  least = each_of_three (λ u. u ≢ 0 → IsLeast lowering looping u)
      (λ other. absurd (other refl))
      (λ _. each_of_three (λ w. lowering.linked 1 w ≡ true → 1 ≤ suc (looping w - 1)) (λ _. omega arith) (λ _. omega arith) (λ _. omega arith))
      (λ _. each_of_three (λ w. lowering.linked 2 w ≡ true → 1 ≤ suc (looping w - 1)) (λ _. omega arith) (λ _. omega arith) (λ _. omega arith));
  led = each_of_three (λ u. u ≢ 0 → looping u < 3 → (w : ℕ) × LeadsThrough lowering 0 looping u w)
      (λ other _. absurd (other refl)) (λ _ _. (2, leads_there)) (λ _ _. (1, leads_back));
}

-- nor is it the only one: at rest both may be out of reach
abbrev apart : ℕ → ℕ
apart u = slice_index (0 ∷ 3 ∷ 3 ∷ []) u

apart_rests : IsRest lowering 0 apart
apart_rests = record {
  own = refl;
  bounded = each_of_three (λ u. apart u ≤ 3) (omega arith) (omega arith) (omega arith);
  least = each_of_three (λ u. u ≢ 0 → IsLeast lowering apart u)
      (λ other. absurd (other refl))
      (λ _. each_of_three (λ w. lowering.linked 1 w ≡ true → 3 ≤ suc (apart w - 1)) (λ (h : false ≡ true). cc) (λ _. omega arith) (λ _. omega arith))
      (λ _. each_of_three (λ w. lowering.linked 2 w ≡ true → 3 ≤ suc (apart w - 1)) (λ (h : false ≡ true). cc) (λ _. omega arith) (λ _. omega arith));
  led = each_of_three (λ u. u ≢ 0 → apart u < 3 → (w : ℕ) × LeadsThrough lowering 0 apart u w)
      (λ other _. absurd (other refl)) (λ _ h. absurd (omega (arith, h))) (λ _ h. absurd (omega (arith, h)));
}

-- what both laws ask for does not hold of it
lowers : NeverNearer lowering → ⊥
lowers never = omega (arith, never 1 2 1 (omega arith) (omega arith) (omega arith))
