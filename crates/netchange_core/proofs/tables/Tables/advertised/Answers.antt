-- Each neighbour advertised a distance to each node.
use Rattle.std.proofs.Common.{◌<◌, length, ap, sym, ◌∙◌, arith}
use Rattle.std.proofs.lemmas.List.{length-map}
use Rattle.netchange_core.specs.Kept.{view_of}
use Rattle.netchange_core.specs.declared.neighbour.Neighbour.{Neighbour}
use Rattle.netchange_core.proofs.Views.{good_at}
use Rattle.netchange_core.proofs.tables.Tables.advertised.Goals as goal

pub index-requires-2 : goal.index-requires-2
index-requires-2 c =
    let ns = c.self.inside.state.neighbours.items in
    let head = c.index.result.now in
    let kept = c.self.invariant.kept.neighbours in
    let nodes = sym (length-map ns view_of) ∙ kept.one_a_node in
    let size = ap (λ w. w.opening.size) c.self.view_is in
    let within : c.from.result < length ns = omega (arith, c.requires.node, nodes, size, c.from.ensures) in
    let good = good_at _ ns c.from.result head kept within in
    let count = ap (λ (n : Neighbour). length n.advertised.items) c.index.ensures ∙ good.one_a_node in
    omega (arith, count, c.requires.dest, size, c.from-2.ensures, head.advertised.ok.0)
