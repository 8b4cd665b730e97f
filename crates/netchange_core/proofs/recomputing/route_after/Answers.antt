use Rattle.std.proofs.Common.{◌≡◌, ◌≤◌, slice_set, ap, sym, ◌∙◌, subst}
use Rattle.netchange_core.specs.Best.{nearest}
use Rattle.netchange_core.proofs.Opened.{own_route, other_route, best_within}
use Rattle.netchange_core.proofs.recomputing.route_after.Goals as goal

pub returns-then-node-me-clause-best : goal.returns-then-node-me-clause-best
returns-then-node-me-clause-best c =
    let own = c.if-node-me.true ∙ c.me.ensures.value in
    c.requires.right.best ∙ own_route c.args.opening.now c.args.node _ own ∙ sym (own_route c.args.opening.now c.args.node _ own)

pub returns-then-node-me-clause-reachable : goal.returns-then-node-me-clause-reachable
returns-then-node-me-clause-reachable c =
    subst (λ r. r.dist ≤ c.args.opening.now.size) (sym c.requires.right.best)
    (best_within c.args.opening.now c.args.node c.args.destination.now.distances.items)

pub best_after-requires-clause-best : goal.best_after-requires-clause-best
best_after-requires-clause-best c =
    let other = λ (e : c.args.node ≡ c.args.opening.now.me). c.if-node-me.false (e ∙ sym c.me.ensures.value) in
    c.requires.right.best ∙ other_route c.args.opening.now c.args.node _ other
    ∙ ap (λ n. nearest n c.args.destination.now.distances.items) (sym c.size.ensures.value)
    ∙ ap (λ xs. nearest c.size.result xs) (sym c.deref.ensures.value)

pub returns-clause-best : goal.returns-clause-best
returns-clause-best c =
    let other = λ (e : c.args.node ≡ c.args.opening.now.me). c.if-node-me.false (e ∙ sym c.me.ensures.value) in
    c.best_after.ensures
    ∙ ap (λ n. nearest n (slice_set c.deref.result.now c.args.hop c.args.near)) c.size.ensures.value
    ∙ ap (λ xs. nearest c.args.opening.now.size (slice_set xs c.args.hop c.args.near)) c.deref.ensures.value
    ∙ sym (other_route c.args.opening.now c.args.node (slice_set c.args.destination.now.distances.items c.args.hop c.args.near) other)
