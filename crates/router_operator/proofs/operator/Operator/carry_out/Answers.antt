-- The bytes that are read are those of the command.
use Rattle.std.proofs.Common.{ℕ, List, IfOk, subst, sym}
use Rattle.operator_cmds.specs.CommandView.{Code, view_of}
use Rattle.operator_cmds.specs.Replies.{Answers}
use Rattle.operator_cmds.specs.declared.command.Command.{Command}
use Rattle.router_operator.specs.Operators.{AnswersCommand, AsScript}
use Rattle.router_operator.proofs.operator.Operator.carry_out.Goals as goal

pub returns-in-Code-clause-ok : goal.returns-in-Code-clause-ok
returns-in-Code-clause-ok g c =
    let before = c.args.self.now in
    let after = c.load-in-Code.new.self in
    let old = c.args.out.now.items in
    let new = c.load-in-Code.new.out.items in
    subst
    (λ (k : Command). IfOk c.load-in-Code.result (Answers (λ answer. AnswersCommand before c.args.number (view_of k) answer after) old new))
    (sym c.in-Code.is)
    (subst
    (λ (bytes : List ℕ). IfOk c.load-in-Code.result
    (Answers (λ answer. AsScript before c.args.number (Code c.in-Code.name.now bytes) answer after) old new))
    c.as_slice.ensures.value c.load-in-Code.ensures.ok)
