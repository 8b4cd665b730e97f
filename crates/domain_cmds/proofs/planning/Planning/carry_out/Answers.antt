-- The answer of a command's own function is that to the command.
use Rattle.std.proofs.Common.{ℕ, List, IfOk, ap, subst, sym}
use Rattle.operator_cmds.specs.Replies.{Answers}
use Rattle.domain_cmds.specs.CommandView.{CommandView, Code, view_of}
use Rattle.domain_cmds.specs.Script.{AnswersPlanned}
use Rattle.domain_cmds.specs.Short.{IsShort, IsShortCode}
use Rattle.domain_cmds.specs.declared.command.DomainCommand.{DomainCommand}
use Rattle.domain_cmds.proofs.planning.Planning.carry_out.Goals as goal

pub load-requires : goal.load-requires
load-requires c = subst (λ (command : DomainCommand). IsShort (view_of command)) c.in-Load.is c.requires

pub load-requires-in-Code : goal.load-requires-in-Code
load-requires-in-Code c =
    subst IsShortCode (sym c.as_slice.ensures.value) (subst (λ (command : DomainCommand). IsShort (view_of command)) c.in-Code.is c.requires)

pub returns-in-Code-clause-ok : goal.returns-in-Code-clause-ok
returns-in-Code-clause-ok c =
    let IsDone : CommandView → Type 0 = λ command. IfOk c.load-in-Code.result
    (Answers (λ answer. AnswersPlanned c.args.self.now c.args.number command answer c.load-in-Code.new.self) c.args.out.now.items
    c.load-in-Code.new.out.items) in
    subst IsDone (sym (ap view_of c.in-Code.is))
    (subst (λ (bytes : List ℕ). IsDone (Code c.in-Code.name.now bytes)) c.as_slice.ensures.value c.load-in-Code.ensures.ok)
