use Rattle.lock_rule.proofs.journal_lock.JournalLock.split.Given as goal

abbrev pub ghosts-split : goal.ghosts-split
ghosts-split a = record { amount = a.shares }
