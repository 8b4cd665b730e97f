use Rattle.std.proofs.Common.{ap, subst}
use Rattle.history_file.proofs.Rows.{one_numbered}
use Rattle.history_file.specs.Numbering.{IsNumbered, texts_of}
use Rattle.history_file.proofs.numbering.number_filters.Goals as goal

pub loop-node-preserved : goal.loop-node-preserved
loop-node-preserved c =
    let ns = c.args.tables.now.neighbours in
    let r = texts_of c.loop-node.rows.items in
    let s = texts_of c.number_filter.new.rows.items in
    let t = texts_of c.number_filter-in-loop-node.new.rows.items in
    let first = subst (λ f. IsNumbered r f s c.in_ok-imports.imports) (ap (λ n. n.imports) c.neighbour-neighbour.ensures) c.in_ok-imports.ensures in
    let second = subst (λ f. IsNumbered s f t c.in_ok-exports.exports) (ap (λ n. n.exports) c.neighbour-neighbour.ensures) c.in_ok-exports.ensures in
    rw c.in_ok-push.ensures.items
    (one_numbered ns r s t c.loop-node.uses.items c.loop-node.node
    (record { imports = c.in_ok-imports.imports; exports = c.in_ok-exports.exports }) c.loop-node.invariant first second)
