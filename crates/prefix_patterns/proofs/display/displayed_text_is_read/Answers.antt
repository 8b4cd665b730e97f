use Rattle.prefix_patterns.proofs.Displayed.{address_text-writes, prefix_text-writes}
use Rattle.prefix_patterns.proofs.display.displayed_text_is_read.Goals as goal

pub returns-clause-address : goal.returns-clause-address
returns-clause-address c = address_text-writes

pub returns-clause-prefix : goal.returns-clause-prefix
returns-clause-prefix c = prefix_text-writes
