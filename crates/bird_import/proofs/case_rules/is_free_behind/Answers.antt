use Rattle.bird_import.proofs.case_rules.is_free_behind.Goals as goal

pub returns-else-depth-gt0 : goal.returns-else-depth-gt0
returns-else-depth-gt0 c is _ = c.is_free_at.ensures is
