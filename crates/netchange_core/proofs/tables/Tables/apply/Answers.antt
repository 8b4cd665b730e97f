use Rattle.std.proofs.Common.{ap, ◌∙◌}
use Rattle.netchange_core.proofs.tables.Tables.apply.Goals as goal

pub returns-clause-opening : goal.returns-clause-opening
returns-clause-opening c = c.handle.ensures.opening ∙ ap (λ w. w.opening) c.self.view_is
