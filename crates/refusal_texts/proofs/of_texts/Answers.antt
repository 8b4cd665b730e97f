use Rattle.std.proofs.Common.{refl}
use Rattle.refusal_texts.specs.Codes.{text_codes}
use Rattle.refusal_texts.proofs.of_texts.Goals as goal

pub returns : goal.returns
returns c = c.text_of.ensures text_codes (record { coded = refl; headed = refl })
