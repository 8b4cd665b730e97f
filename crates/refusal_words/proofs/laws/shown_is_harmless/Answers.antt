use Rattle.std.proofs.Common.{ℕ, List}
use Rattle.bstr.specs.Utf8.{lossy_chars}
use Rattle.refusal_words.proofs.Harmless.{all_harmless}
use Rattle.refusal_words.proofs.laws.shown_is_harmless.Goals as goal

pub returns : goal.returns
returns c = λ (bytes : List ℕ). all_harmless (lossy_chars bytes)
