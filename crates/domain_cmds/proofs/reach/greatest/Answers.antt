-- One destination more.
use Rattle.std.proofs.Common.{max, sym, ◌∙◌}
use Rattle.domain_routes.proofs.Reach.{greatest_more}
use Rattle.domain_routes.specs.Reach.{greatest_to}
use Rattle.domain_cmds.specs.Texts.{distances}
use Rattle.domain_cmds.proofs.reach.greatest.Goals as goal

pub loop-v-preserved : goal.loop-v-preserved
loop-v-preserved c =
    c.greater-greatest.ensures ∙ (λ i. max (c.loop-v.invariant i) (c.greatest_to.ensures i))
    ∙ sym (greatest_more c.loop-v.v (λ v. greatest_to c.args.size c.args.limit (distances c.args.size c.args.all.now v)))
