use Rattle.std.proofs.lemmas.Result.{IfOk-weaker}
use Rattle.command_line.proofs.Building.{command_made}
use Rattle.command_line.proofs.commands.command_of.Goals as goal

pub returns : goal.returns
returns c =
    let args = c.in_ok-args_of.ensures in
    let made = command_made c.args.choices c.args.name.now c.described.result c.in_ok-args_of.field-0.items c.args-2.result
    c.described.ensures.app c.described.ensures.local args.rules args.local c.args-2.ensures in
    record {
      app = IfOk-weaker c.args-2.result _ _ (λ command h. h.0) made;
      local = IfOk-weaker c.args-2.result _ _ (λ command h. h.1) made;
    }
