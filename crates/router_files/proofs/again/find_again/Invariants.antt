use Rattle.std.proofs.Common.{map}
use Rattle.router_files.specs.Again.{NoneBefore}
use Rattle.router_files.specs.Files.{statement_of}
use Rattle.router_files.proofs.again.find_again.Given as goal

-- none so far says again what an earlier one says
abbrev pub invariant-loop-n : goal.invariant-loop-n
invariant-loop-n l = NoneBefore (map statement_of l.statements) l.n
