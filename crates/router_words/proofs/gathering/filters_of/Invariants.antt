use Rattle.std.proofs.Common.{◌≡◌, ◌++◌, map, take}
use Rattle.std.specs.List.{flat_map}
use Rattle.router_files.specs.Files.{statement_of}
use Rattle.router_words.specs.Gathering.{filter_of, filters_in}
use Rattle.router_words.proofs.gathering.filters_of.Given as goal

-- the filters that the file names, and those of the command line so far
abbrev pub invariant-loop-named : goal.invariant-loop-named
invariant-loop-named l = map filter_of l.filters.items
    ≡ flat_map filters_in (map statement_of l.statements) ++ map filter_of (take l.named-index l.given)
