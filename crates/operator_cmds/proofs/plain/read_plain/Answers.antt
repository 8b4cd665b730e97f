-- The first word is that of the verb, and the words after it are the command's numbers.
use Rattle.std.proofs.Common.{◌≡◌, IfSome, Ok, sym, subst, ap, ◌∙◌}
use Rattle.operator_cmds.specs.CommandView.{Show, Take}
use Rattle.operator_cmds.specs.Commands.{Read, made}
use Rattle.operator_cmds.specs.PlainLines.{plain_view}
use Rattle.operator_cmds.proofs.PlainLines.{of_recv, of_show, of_take}
use Rattle.operator_cmds.proofs.plain.read_plain.Goals as goal

pub returns-in-Some-clause-command : goal.returns-in-Some-clause-command
returns-in-Some-clause-command c =
    let read = of_recv c.args.line.now c.in-Some.text.now c.if-line-gt-LINE_LIMIT.false c.in-Some.ensures.found in
    subst (λ (r : Read). IfSome c.read_receive.result (λ plain. r ≡ Ok (plain_view plain))) (sym read) c.read_receive.ensures.command

pub returns-in-Some-after_verb-clause-command : goal.returns-in-Some-after_verb-clause-command
returns-in-Some-after_verb-clause-command c =
    of_take c.args.line.now c.in-Some-after_verb.text.now c.if-line-gt-LINE_LIMIT.false c.in-Some-after_verb.ensures.found
    ∙ ap (made Take) c.in_ok-read_node.ensures.node

pub returns-clause-command : goal.returns-clause-command
returns-clause-command c =
    of_show c.args.line.now c.in_ok-text.text.now c.if-line-gt-LINE_LIMIT.false c.in_ok-text.ensures.found
    ∙ ap (made Show) c.in_ok-read_node-2.ensures.node
