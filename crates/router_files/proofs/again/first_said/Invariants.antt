use Rattle.std.proofs.Common.{◌≡◌, drop, map}
use Rattle.std.specs.List.{find}
use Rattle.router_files.specs.Again.{says_again}
use Rattle.router_files.specs.Files.{statement_of}
use Rattle.router_files.proofs.again.first_said.Given as goal

-- none so far is said again
abbrev pub invariant-loop-other : goal.invariant-loop-other
invariant-loop-other l = find (says_again (statement_of l.one)) (map statement_of l.earlier)
    ≡ find (says_again (statement_of l.one)) (map statement_of (drop l.other-index l.earlier))
