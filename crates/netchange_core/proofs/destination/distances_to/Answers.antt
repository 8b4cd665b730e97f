use Rattle.std.proofs.Common.{map, ap, sym, subst, ◌∙◌, arith}
use Rattle.std.proofs.lemmas.List.{take_all}
use Rattle.netchange_core.specs.Best.{neighbour_distance}
use Rattle.netchange_core.specs.Kept.{IsNeighbour, view_of}
use Rattle.netchange_core.proofs.Lists.{map_both}
use Rattle.netchange_core.proofs.Views.{good_at}
use Rattle.netchange_core.proofs.destination.distances_to.Goals as goal

pub neighbour_distance-requires-clause-neighbour :
    goal.neighbour_distance-requires-clause-neighbour
neighbour_distance-requires-clause-neighbour c =
    let size = c.args.opening.now.size in
    let item = c.neighbour-item.result in
    subst (λ m. IsNeighbour size (view_of m)) (sym c.neighbour-item.is)
    (good_at size c.args.neighbours.now c.loop-neighbour.neighbour-index item c.requires.neighbours (omega arith))

pub returns : goal.returns
returns c =
    let ns = c.args.neighbours.now in
    let d = neighbour_distance c.args.opening.now c.args.node in
    c.loop-neighbour.invariant
    ∙ ap (λ ms. map (λ n. d (view_of n)) ms) (take_all c.loop-neighbour.neighbour-index ns (omega arith))
    ∙ map_both d view_of ns
