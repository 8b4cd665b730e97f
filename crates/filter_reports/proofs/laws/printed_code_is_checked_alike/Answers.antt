use Rattle.filter_reports.proofs.Printed.{printed_again}
use Rattle.filter_reports.proofs.laws.printed_code_is_checked_alike.Goals as goal

pub returns : goal.returns
returns c = printed_again
