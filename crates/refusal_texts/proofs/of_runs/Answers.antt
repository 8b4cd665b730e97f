use Rattle.std.proofs.Common.{refl}
use Rattle.refusal_texts.specs.Codes.{run_codes}
use Rattle.refusal_texts.proofs.of_runs.Goals as goal

pub returns : goal.returns
returns c = c.text_of.ensures run_codes (record { coded = refl; headed = refl })
