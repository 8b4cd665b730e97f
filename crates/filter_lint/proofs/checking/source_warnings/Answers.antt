use Rattle.filter_lint.proofs.checking.source_warnings.Goals as goal

pub filter_warnings-requires : goal.filter_warnings-requires
filter_warnings-requires c = rw c.if-how.false at c.requires
