use Rattle.program_console.specs.Following.{DoesFirst}
use Rattle.ncroute.specs.Testing.{TestsNext, none_run}
use Rattle.ncroute.proofs.testing.test_all.Given as goal

-- the tests of the sources so far were run
abbrev pub invariant-loop-source : goal.invariant-loop-source
invariant-loop-source g l = DoesFirst none_run (TestsNext (g.F.Folder.opens l.files) l.how) l.sources l.source-index l.fn.console l.console l.tally
