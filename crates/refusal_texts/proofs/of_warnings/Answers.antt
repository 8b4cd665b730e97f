use Rattle.std.proofs.Common.{refl}
use Rattle.refusal_texts.specs.Codes.{lint_codes}
use Rattle.refusal_texts.proofs.of_warnings.Goals as goal

pub returns : goal.returns
returns c = c.text_of.ensures lint_codes (record { coded = refl; headed = refl })
