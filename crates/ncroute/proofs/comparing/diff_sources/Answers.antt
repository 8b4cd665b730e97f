use Rattle.std.proofs.Common.{inl}
use Rattle.std.proofs.lemmas.Result.{IfOk-weaker}
use Rattle.ncroute.proofs.comparing.diff_sources.Goals as goal

pub returns-in-Ok-Text-clause-made : goal.returns-in-Ok-Text-clause-made
returns-in-Ok-Text-clause-made g c =
    IfOk-weaker c.report_source.result _ _ (λ report made. inl (c.in-Ok-Text.text.items, _, rw c.in-Ok-Text.field-0-is at c.in-Ok-Text.ensures.found, made))
    (rw (c.name_of.ensures, c.as_slice.ensures.value) at c.report_source.ensures.made)
