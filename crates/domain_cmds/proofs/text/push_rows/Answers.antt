-- One row more.
use Rattle.std.proofs.Common.{◌++◌, ap, ◌∙◌, arith}
use Rattle.std.proofs.lemmas.Grind.{common_steps}
use Rattle.domain_routes.specs.declared.best.Best.{Best}
use Rattle.domain_cmds.specs.Texts.{row_text, route_of}
use Rattle.operator_cmds.proofs.Growing.{one_text_more}
use Rattle.domain_cmds.proofs.text.push_rows.Goals as goal

pub loop-v-preserved : goal.loop-v-preserved
loop-v-preserved c = record {
  added = one_text_more (λ v. row_text v (route_of c.args.size c.args.all.now c.args.u v)) c.loop-v.v c.args.out.now.items c.loop-v.out.items
      c.push_row.new.out.items c.loop-v.invariant.added
      (c.in_ok-push_row.ensures.ok ∙ ap (λ (r : Best). c.loop-v.out.items ++ row_text c.loop-v.v r) c.route_of.ensures);
  front = grind (arith, common_steps);
}
