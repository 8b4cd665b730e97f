use Rattle.std.proofs.Common.{◌++◌, ◌∙◌, Option, ap, sym}
use Rattle.std.specs.Prelude.{option_to_list}
use Rattle.filter_lint.proofs.Found.{next_reached, none_before, none_below, one_more}
use Rattle.filter_lint.specs.Commands.{unreached_at, unreached_in}
use Rattle.filter_lint.specs.declared.warning.Warning.{Warning}
use Rattle.filter_lint.proofs.commands.unreached_commands.Goals as goal

pub loop-at-init : goal.loop-at-init
loop-at-init c =
    let source = c.args.source.now in
    record {
      said = c.new-found.ensures.items ∙ sym (none_below (unreached_in source c.args.marks.now));
      reached = sym (none_before source c.args.marks.now);
    }

pub loop-at-preserved : goal.loop-at-preserved
loop-at-preserved c =
    let source = c.args.source.now in
    let marks = c.args.marks.now in
    record {
      said = one_more (unreached_in source marks) c.loop-at.at c.loop-at.found.items c.push_found.new.out.items c.loop-at.invariant.said
          (c.in_ok-push_found.ensures ∙ ap (λ (o : Option Warning). c.loop-at.found.items ++ option_to_list o)
          (c.unreached_at.ensures ∙ ap (unreached_at source marks c.loop-at.at) c.loop-at.invariant.reached));
      reached = next_reached source marks c.loop-at.at c.loop-at.was_reached c.reached_up_to-was_reached.result c.loop-at.invariant.reached
          c.reached_up_to-was_reached.ensures;
    }
