use Rattle.program_console.specs.Commands.{RunsNext}
use Rattle.program_console.specs.Following.{DoesFirst}
use Rattle.program_console.proofs.commands.run_on_all.Given as goal

-- the command was carried out on the sources so far
abbrev pub invariant-loop-source : goal.invariant-loop-source
invariant-loop-source g l = DoesFirst 0 (RunsNext (g.F.Folder.opens l.files) (g.C.TextCommand.reports l.command) l.unread) l.sources l.source-index
    l.fn.console l.console l.status
