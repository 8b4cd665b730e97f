use Rattle.std.proofs.Common.{false}
use Rattle.program_console.specs.Following.{DoesFirst, FindsNext}
use Rattle.ncimport.specs.Importing.{TellsWord}
use Rattle.ncimport.proofs.importing.tell_strange.Given as goal

-- the words so far were told of, and one of them begins with such a byte or none
abbrev pub invariant-loop-word : goal.invariant-loop-word
invariant-loop-word g l = DoesFirst false (FindsNext (TellsWord l.placed)) l.words l.word-index l.fn.console l.console l.has_any
