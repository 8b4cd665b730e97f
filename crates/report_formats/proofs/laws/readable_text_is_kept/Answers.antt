use Rattle.std.proofs.Common.{ℕ, List, IsUtf8}
use Rattle.bstr.proofs.lemmas.EncodeLemmas.{lossy_chars-utf8}
use Rattle.report_formats.proofs.laws.readable_text_is_kept.Goals as goal

pub returns : goal.returns
returns c = λ (bytes : List ℕ) (is : IsUtf8 bytes). lossy_chars-utf8 bytes is
