use Rattle.std.proofs.Common.{ℕ, List}
use Rattle.domain_reports.proofs.Unbracketing.{all_without}
use Rattle.domain_reports.proofs.laws.data_has_no_bracket.Goals as goal

pub returns : goal.returns
returns c = λ (bytes : List ℕ). all_without bytes
