use Rattle.std.proofs.Common.{◌≡◌, ◌++◌, drop, map}
use Rattle.bird_import.specs.Including.{view_of, includes_in}
use Rattle.bird_import.proofs.includes.find_includes.Given as goal

-- the files so far, and those of the words that are left, are all
abbrev pub invariant-loop-at : goal.invariant-loop-at
invariant-loop-at l = map view_of l.found.items ++ includes_in (drop l.at l.words) ≡ includes_in l.words
