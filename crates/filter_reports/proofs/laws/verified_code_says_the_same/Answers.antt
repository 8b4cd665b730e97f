use Rattle.filter_reports.proofs.Saying.{says_the_same}
use Rattle.filter_reports.proofs.laws.verified_code_says_the_same.Goals as goal

pub returns : goal.returns
returns c = says_the_same
