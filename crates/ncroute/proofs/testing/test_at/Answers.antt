use Rattle.std.proofs.Common.{◌∙◌, inl}
use Rattle.std.proofs.lemmas.Result.{IfOk-weaker}
use Rattle.program_words.specs.declared.source.Source.TheVariants.{File}
use Rattle.ncroute.specs.Testing.{TestsAt}
use Rattle.ncroute.proofs.testing.test_at.Goals as goal

pub returns-in-Ok-from_str-clause-made : goal.returns-in-Ok-from_str-clause-made
unfolding TestsAt
returns-in-Ok-from_str-clause-made g c =
    IfOk-weaker c.test_beside.result _ _ (λ made beside. inl (File c.in-Ok-from_str.path, c.in-Ok-from_str.ensures.ok ∙ c.in-Ok.ensures.cases.0, beside)) c.test_beside.ensures.made
