use Rattle.std.proofs.Common.{inl}
use Rattle.ncroute.proofs.testing.test_beside.Goals as goal

pub returns-in_ok-test_report-in-Ok-Text-clause-made : goal.returns-in_ok-test_report-in-Ok-Text-clause-made
returns-in_ok-test_report-in-Ok-Text-clause-made g c =
    inl (
      c.in-Ok-Text.text.items,
      rw c.in-Ok-Text.field-0-is at c.in-Ok-Text.ensures.found,
      rw (c.name_of.ensures, c.as_slice.ensures.value) at c.in_ok-test_report-in-Ok-Text.ensures,
    )
