use Rattle.std.proofs.Common.{sym, ◌∙◌}
use Rattle.filter_verifier.proofs.Verdicts.{reach_is, verdict_is}
use Rattle.filter_verifier.proofs.survey.survey_code.Goals as goal

pub returns-clause-verdict : goal.returns-clause-verdict
returns-clause-verdict c =
    let full = rw c.instrs.ensures.value at (sym c.is_empty.ensures ∙ c.if-is_empty.false) in
    verdict_is c.args.code.now c.args.size c.survey_instructions.result c.if-size-lt-SMALLEST_SIZE.false c.if-size-gt-LARGEST_SIZE.false full
    c.survey_instructions.ensures.verdict c.survey_instructions.ensures.range

pub returns-clause-reach : goal.returns-clause-reach
returns-clause-reach c =
    let full = rw c.instrs.ensures.value at (sym c.is_empty.ensures ∙ c.if-is_empty.false) in
    reach_is c.args.code.now c.args.size c.survey_instructions.result c.if-size-lt-SMALLEST_SIZE.false c.if-size-gt-LARGEST_SIZE.false full
    c.survey_instructions.ensures.reach
