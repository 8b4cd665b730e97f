use Rattle.std.proofs.Common.{◌<◌, length, map, slice_set, ap, sym, subst, ◌∙◌, arith}
use Rattle.std.proofs.lemmas.List.{length-map}
use Rattle.netchange_core.specs.Best.{neighbour_distance}
use Rattle.netchange_core.specs.Kept.{view_of}
use Rattle.netchange_core.specs.Leading.{ListsReachable}
use Rattle.netchange_core.proofs.Scanned.{lists_reachable}
use Rattle.netchange_core.proofs.Views.{good_at, view_at}
use Rattle.netchange_core.proofs.recomputing.recompute_at.Goals as goal

pub neighbour_distance-near-requires-clause-neighbour :
    goal.neighbour_distance-near-requires-clause-neighbour
neighbour_distance-near-requires-clause-neighbour c =
    good_at c.args.opening.now.size c.args.neighbours.now c.args.hop c.index-neighbours-hop.result c.requires.neighbours
    (omega (arith, length-map c.args.neighbours.now view_of, c.requires.neighbours.one_a_node))

pub route_after-route-requires-clause-listed : goal.route_after-route-requires-clause-listed
route_after-route-requires-clause-listed c =
    let o = c.args.opening.now in
    let v = c.args.node in
    let ns = c.args.neighbours.now in
    let short : c.args.hop < length ns = omega (arith, length-map ns view_of, c.requires.neighbours.one_a_node) in
    let near = c.neighbour_distance-near.ensures.value
    ∙ ap (λ n. neighbour_distance o v n) (view_at ns c.args.hop c.index-neighbours-hop.result short) in
    subst (λ xs. ListsReachable o.size xs c.args.present.now)
    (sym (ap (λ n. slice_set c.args.destination.now.distances.items c.args.hop n) near ∙ c.requires.stale))
    (lists_reachable o v (map view_of ns) c.args.present.now c.requires.listed)
