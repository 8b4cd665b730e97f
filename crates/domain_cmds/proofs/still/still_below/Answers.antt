-- One node more.
use Rattle.std.proofs.Common.{◌≡◌, min, sym, ◌∙◌}
use Rattle.domain_routes.proofs.Still.{least_more}
use Rattle.domain_routes.specs.Still.{lesser_of_two}
use Rattle.domain_cmds.specs.Texts.{distances}
use Rattle.domain_cmds.proofs.still.still_below.Goals as goal

pub loop-u-preserved : goal.loop-u-preserved
loop-u-preserved c =
    let one = distances c.args.size c.args.most.now c.args.v in
    let other = distances c.args.size c.args.least.now c.args.v in
    let here : c.lesser_of_two-lesser_one.result ≡ lesser_of_two c.args.size (one c.loop-u.u) (other c.loop-u.u) =
    c.lesser_of_two-lesser_one.ensures ∙ (λ i. lesser_of_two c.args.size (c.distance-one.ensures i) (c.distance-other.ensures i)) in
    c.lesser-bound.ensures ∙ (λ i. min (c.loop-u.invariant i) (here i))
    ∙ sym (least_more c.args.size c.loop-u.u (λ u. lesser_of_two c.args.size (one u) (other u)))
