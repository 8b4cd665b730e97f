use Rattle.std.proofs.Common.{ℕ, List}
use Rattle.bstr.specs.Utf8.{lossy_chars}
use Rattle.report_formats.proofs.Closed.{all_closed}
use Rattle.report_formats.proofs.laws.attributes_are_closed.Goals as goal

pub returns : goal.returns
returns c = λ (bytes : List ℕ). all_closed (lossy_chars bytes)
