-- Routers that cannot be played.
use Rattle.std.proofs.Common.{ℕ, List, codes, inr, ap, ◌∙◌}
use Rattle.operator_cmds.specs.Replies.{refused}
use Rattle.operator_cmds.proofs.Answering.{added}
use Rattle.domain_cmds.specs.Script.{IsSettledAnswer}
use Rattle.domain_cmds.proofs.asking.answer_settle.Goals as goal

pub returns-in-None-clause-ok : goal.returns-in-None-clause-ok
returns-in-None-clause-ok c =
    added c.refuse.result (refused c.code.result.now c.from.result) (IsSettledAnswer c.args.number) c.args.out.now.items c.refuse.new.out.items
    (λ answer is. inr
    (is ∙ ap (λ (code : List ℕ). refused code c.from.result) c.code.ensures ∙ ap (λ (at : ℕ). refused (codes "D4") at) c.from.ensures))
    c.refuse.ensures.ok
