use Rattle.std.proofs.Common.{◌≡◌, map, take}
use Rattle.std.specs.List.{flat_map}
use Rattle.router_files.specs.Files.{statement_of}
use Rattle.router_words.specs.Gathering.{filter_of, filters_in}
use Rattle.router_words.proofs.gathering.stated_filters.Given as goal

-- the filters that the lines so far name
abbrev pub invariant-loop-statement : goal.invariant-loop-statement
invariant-loop-statement l = map filter_of l.filters.items ≡ flat_map filters_in (map statement_of (take l.statement-index l.statements))
