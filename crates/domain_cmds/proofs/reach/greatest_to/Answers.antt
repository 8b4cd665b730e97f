-- One node more.
use Rattle.std.proofs.Common.{◌≡◌, max, sym, ap, ◌∙◌}
use Rattle.domain_routes.proofs.Reach.{greatest_more}
use Rattle.domain_routes.specs.Reach.{counted}
use Rattle.domain_routes.specs.declared.best.Best.{Best}
use Rattle.domain_cmds.specs.Texts.{distances}
use Rattle.domain_cmds.proofs.reach.greatest_to.Goals as goal

pub loop-u-preserved : goal.loop-u-preserved
loop-u-preserved c =
    let now : c.counted.result ≡ counted c.args.limit (distances c.args.size c.args.all.now c.args.v c.loop-u.u) =
    c.counted.ensures ∙ ap (λ (r : Best). counted c.args.limit r.dist) c.route_of.ensures in
    c.greater-greatest.ensures ∙ (λ i. max (c.loop-u.invariant i) (now i))
    ∙ sym (greatest_more c.loop-u.u (λ u. counted c.args.limit (distances c.args.size c.args.all.now c.args.v u)))
