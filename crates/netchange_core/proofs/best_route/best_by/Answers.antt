use Rattle.std.proofs.Common.{◌≡◌, ap, sym, ◌∙◌}
use Rattle.std.proofs.lemmas.List.{set-get_or}
use Rattle.netchange_core.specs.Best.{nearest}
use Rattle.netchange_core.proofs.Opened.{other_route, own_route}
use Rattle.netchange_core.proofs.best_route.best_by.Goals as goal

pub returns-then-node-me : goal.returns-then-node-me
returns-then-node-me c =
    sym (own_route c.args.opening.now c.args.node c.args.distances.now (c.if-node-me.true ∙ c.me.ensures.value))

pub returns : goal.returns
returns c =
    let xs = c.args.distances.now in
    let other = λ (e : c.args.node ≡ c.args.opening.now.me). c.if-node-me.false (e ∙ sym c.me.ensures.value) in
    c.nearest_after.ensures
    ∙ ap (λ ys. nearest c.size.result ys) (set-get_or xs 0 0)
    ∙ ap (λ n. nearest n xs) c.size.ensures.value
    ∙ sym (other_route c.args.opening.now c.args.node xs other)
