use Rattle.code_file.proofs.Grammar.{exact_code, exact_fault}
use Rattle.code_file.proofs.laws.reading_is_exact.Goals as goal

pub returns : goal.returns
returns c = record { code = exact_code; fault = exact_fault }
