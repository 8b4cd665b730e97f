use Rattle.code_file.proofs.Grammar.{file_of_spelling_in, more_follows}
use Rattle.code_file.proofs.laws.written_is_read.Goals as goal

pub returns : goal.returns
returns c = record { again = file_of_spelling_in; more = more_follows }
