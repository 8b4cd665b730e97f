use Rattle.router_daemon.proofs.run.run_router.Given as goal

-- the router that was opened
abbrev pub ghosts-run_named : goal.ghosts-run_named
ghosts-run_named g a = record { router = a.router }
