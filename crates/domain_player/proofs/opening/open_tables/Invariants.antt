use Rattle.domain_player.specs.Play.{AreOpened}
use Rattle.domain_player.proofs.opening.open_tables.Given as goal

abbrev pub invariant-loop-me : goal.invariant-loop-me
invariant-loop-me l = AreOpened l.prefixes l.me l.tables.items
