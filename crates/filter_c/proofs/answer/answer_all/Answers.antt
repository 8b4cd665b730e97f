use Rattle.std.proofs.Common.{arith}
use Rattle.std.proofs.lemmas.Grind.{common_steps}
use Rattle.filter_c.proofs.Answering.{all_answered, none_answered, one_more}
use Rattle.filter_c.proofs.answer.answer_all.Goals as goal

pub loop-i-init : goal.loop-i-init
loop-i-init c = none_answered c.args.verified.now c.args.routes.now c.args.answers.now

pub loop-i-preserved : goal.loop-i-preserved
loop-i-preserved c =
    one_more c.args.verified.now c.args.routes.now c.loop-i.i c.args.answers.now c.loop-i.answers _ c.answer_of.result c.loop-i.invariant
    (grind (arith, common_steps)) (grind (arith, common_steps)) c.answer_of.ensures

pub returns : goal.returns
returns c =
    all_answered c.args.verified.now c.args.routes.now c.loop-i.i c.args.answers.now c.loop-i.answers c.loop-i.invariant
    (grind (arith, common_steps))
