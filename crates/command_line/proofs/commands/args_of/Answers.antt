use Rattle.std.proofs.Common.{◌∙◌, ◌+◌, subst, sym}
use Rattle.command_line.proofs.Building.{AreArgs, no_more_arg, one_more_arg}
use Rattle.command_line.proofs.commands.args_of.Goals.{then-eq+in_ok-push, else-eq}
use Rattle.command_line.proofs.commands.args_of.Goals as goal

pub loop-name-preserved : goal.loop-name-preserved
loop-name-preserved c =
    let name = c.args.command.now in
    let entries = c.all_parameters-name-items.result.now in
    let i = c.loop-name.name-index in
    elim c.if-eq.branch [
      | then-eq+in_ok-push w ↦
          subst (λ args. AreArgs c.args.choices name entries (i + 1) args.items) (sym w.args-is)
          (one_more_arg c.args.choices name entries i _ c.loop-name-test.true c.loop-name.args.items c.loop-name.invariant w.push.new.self.items
          w.arg_of.result (sym c.eq.ensures ∙ w.if-eq.true) w.in_ok-push.ensures.items w.arg_of.ensures.rule w.arg_of.ensures.local)
      | else-eq w ↦
          subst (λ args. AreArgs c.args.choices name entries (i + 1) args.items) (sym w.args-is)
          (no_more_arg c.args.choices name entries i _ c.loop-name-test.true c.loop-name.args.items c.loop-name.invariant
          (sym c.eq.ensures ∙ w.if-eq.false))
    ]
