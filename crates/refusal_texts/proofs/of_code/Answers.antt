use Rattle.std.proofs.Common.{refl}
use Rattle.refusal_texts.specs.Codes.{code_codes}
use Rattle.refusal_texts.proofs.of_code.Goals as goal

pub returns : goal.returns
returns c = c.text_of.ensures code_codes (record { coded = refl; headed = refl })
