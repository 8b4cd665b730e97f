-- The tables of an opening.
use Rattle.std.proofs.Common.{◌≡◌, ℕ, ◌<◌, ◌≤◌, sym, subst, cond, nat_eq}
use Rattle.std.proofs.Common.{List, replicate, ap, arith, eq-eqb, ne_eqb}
use Rattle.std.proofs.lemmas.Bool.{cond_both}
use Rattle.std.proofs.lemmas.List.{length-replicate, get_or-replicate}
use Rattle.netchange_core.specs.declared.reply.Via.TheVariants.{Local}
use Rattle.netchange_core.specs.Best.{best_by, nearest, route_of}
use Rattle.netchange_core.specs.Calls.{newcomer}
use Rattle.netchange_core.specs.Kept.{AreNeighbours, IsNeighbour}
use Rattle.netchange_core.specs.World.{NeighbourView}
use Rattle.netchange_core.proofs.Nearest.{nearest_within}
use Rattle.netchange_core.proofs.Lists.{below_repeated}
use Rattle.netchange_core.specs.OpeningView.{OpeningView}

-- the router's own node, and others
pub own_route : (o : OpeningView) (v : ℕ) (xs : List ℕ) → v ≡ o.me → best_by o v xs ≡ route_of 0 Local
unfolding best_by
own_route o v xs e = ap (λ b. cond b (route_of 0 Local) (nearest o.size xs)) (eq-eqb v o.me e)

pub other_route : (o : OpeningView) (v : ℕ) (xs : List ℕ) → (v ≡ o.me → ⊥) → best_by o v xs ≡ nearest o.size xs
unfolding best_by
other_route o v xs e = ap (λ b. cond b (route_of 0 Local) (nearest o.size xs)) (ne_eqb v o.me e)

pub new_neighbour : (o : OpeningView) → IsNeighbour o.size (newcomer o)
new_neighbour o = record {
  one_a_node = length-replicate o.size o.size;
  reachable = below_repeated o.size o.size;
  imports = tt;
  exports = tt;
}

new_neighbours : (o : OpeningView) → AreNeighbours o.size (replicate o.size (newcomer o))
new_neighbours o = record {
  one_a_node = length-replicate o.size (newcomer o);
  each = λ k d h.
      let short : k < o.size = omega (arith, length-replicate o.size (newcomer o)) in
      let Q : NeighbourView → Type 0 = IsNeighbour o.size in
      subst Q (sym (get_or-replicate o.size k (newcomer o) d short)) (new_neighbour o);
}

-- no route is longer than the size
pub best_within : (o : OpeningView) (v : ℕ) (xs : List ℕ) → (best_by o v xs).dist ≤ o.size
unfolding best_by
best_within o v xs =
    cond_both (nat_eq v o.me) (route_of 0 Local) (nearest o.size xs) (λ r. r.dist ≤ o.size) (λ _. omega arith)
    (λ _. nearest_within o.size xs)
