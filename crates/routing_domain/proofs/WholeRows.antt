-- Worked rows of networks: which of them are whole.
use Rattle.std.proofs.Common.{◌≡◌, ℕ, ◌<◌, true, false, [], ◌∷◌, refl}
use Rattle.netchange_core.specs.Best.{best_by}
use Rattle.netchange_core.specs.FilteredDistance.{filtered_distance}
use Rattle.routing_domain.specs.Domain.{IsInOrder, are_linked}
use Rattle.routing_domain.specs.Network.{IsWhole, Network, goes_down}
use Rattle.routing_domain.proofs.NetworkRows.{begun, both, both_down, failed, half, half_down, half_handed, settled, told}
use Rattle.routing_domain.proofs.OrderlyRows.{both_orderly, each_of_two, node_0, node_1}
use Rattle.routing_domain.proofs.Whole.{in_order}

-- the directions of a domain of two nodes, one by one
each_way : (P : ℕ → ℕ → Type 0) → P 0 0 → P 0 1 → P 1 0 → P 1 1 → (u w : ℕ) → u < 2 → w < 2 → P u w
each_way P a b c d u w from to =
    each_of_two (λ x. P x w) (each_of_two (λ y. P 0 y) a b w to) (each_of_two (λ y. P 1 y) c d w to) u from

-- with the link up at both ends the network is whole, also while messages are on their way
both_whole : IsWhole both
unfolding best_by filtered_distance
both_whole = record {
  both_ways = each_way (λ u w. are_linked both.domain u w ≡ true → are_linked both.domain w u ≡ true) (λ h. h) (λ _. refl) (λ _. refl) (λ h. h);
  carried = each_way (λ u w. are_linked both.domain u w ≡ true → both.carries u w ≡ true)
      (λ (h : false ≡ true). cc) (λ _. refl) (λ _. refl) (λ (h : false ≡ true). cc);
  silent = each_way (λ u w. are_linked both.domain u w ≡ false → both.domain.flight u w ≡ [])
      (λ _. refl) (λ (h : true ≡ false). cc) (λ (h : true ≡ false). cc) (λ _. refl);
}

settled_whole : IsWhole settled
unfolding best_by filtered_distance
settled_whole = record {
  both_ways = each_way (λ u w. are_linked settled.domain u w ≡ true → are_linked settled.domain w u ≡ true)
      (λ h. h) (λ _. refl) (λ _. refl) (λ h. h);
  carried = each_way (λ u w. are_linked settled.domain u w ≡ true → settled.carries u w ≡ true)
      (λ (h : false ≡ true). cc) (λ _. refl) (λ _. refl) (λ (h : false ≡ true). cc);
  silent = each_way (λ u w. are_linked settled.domain u w ≡ false → settled.domain.flight u w ≡ [])
      (λ _. refl) (λ (h : true ≡ false). cc) (λ (h : true ≡ false). cc) (λ _. refl);
}

-- an orderly network that is whole is a domain in order
both_in_order : IsInOrder both.domain
both_in_order = in_order both both_orderly both_whole

-- it is whole with the link down at both ends
both_down_whole : IsWhole both_down
unfolding best_by filtered_distance
both_down_whole = record {
  both_ways = each_way (λ u w. are_linked both_down.domain u w ≡ true → are_linked both_down.domain w u ≡ true)
      (λ h. h) (λ (h : false ≡ true). cc) (λ (h : false ≡ true). cc) (λ h. h);
  carried = each_way (λ u w. are_linked both_down.domain u w ≡ true → both_down.carries u w ≡ true)
      (λ (h : false ≡ true). cc) (λ (h : false ≡ true). cc) (λ (h : false ≡ true). cc) (λ (h : false ≡ true). cc);
  silent = each_way (λ u w. are_linked both_down.domain u w ≡ false → both_down.domain.flight u w ≡ [])
      (λ _. refl) (λ _. refl) (λ _. refl) (λ _. refl);
}

-- it is not whole while only one end is up
half_broken : IsWhole half → ⊥
half_broken w = (let h : false ≡ true = w.both_ways 0 1 node_0 node_1 refl in cc)

half_down_broken : IsWhole half_down → ⊥
unfolding best_by filtered_distance
half_down_broken w = (let h : false ≡ true = w.both_ways 1 0 node_1 node_0 refl in cc)

begun_broken : IsWhole begun → ⊥
unfolding best_by filtered_distance
begun_broken w = (let h : false ≡ true = w.both_ways 0 1 node_0 node_1 refl in cc)

-- nor once a direction failed
failed_broken : IsWhole failed → ⊥
unfolding best_by filtered_distance
failed_broken w = (let h : false ≡ true = w.carried 0 1 node_0 node_1 refl in cc)

-- nor while something is on its way where the link is down at both ends
abbrev late : Network
late = goes_down half_handed 0 1

late_broken : IsWhole late → ⊥
unfolding best_by filtered_distance
late_broken w = (let h : told 0 0 ∷ (told 1 2 ∷ []) ≡ [] = w.silent 0 1 node_0 node_1 refl in cc)
