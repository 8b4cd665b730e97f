use Rattle.std.proofs.Common.{◌∙◌, sym}
use Rattle.operator_cmds.proofs.KeptEntries.{is_refused, is_told}
use Rattle.operator_cmds.proofs.kept.answer_kept.Goals as goal

pub returns-then-not-is_kept-clause-ok : goal.returns-then-not-is_kept-clause-ok
returns-then-not-is_kept-clause-ok c =
    is_refused c.args.journal.now c.args.from c.args.out.now.items c.refuse_forgotten.new.out.items c.refuse_forgotten.result
    (sym c.is_kept.ensures ∙ c.if-not-is_kept.true) c.refuse_forgotten.ensures.ok

pub returns-clause-ok : goal.returns-clause-ok
returns-clause-ok c =
    is_told c.args.journal.now c.args.from c.args.out.now.items c.push_history.new.out.items (sym c.is_kept.ensures ∙ c.if-not-is_kept.false)
    c.in_ok-push_history.ensures.ok
