use Rattle.std.proofs.Common.{◌≡◌, drop}
use Rattle.command_line.specs.Filters.{has_name}
use Rattle.command_line.proofs.filter_words.has_name.Given as goal

-- none of the filters so far has the name
abbrev pub invariant-loop-named : goal.invariant-loop-named
invariant-loop-named l = has_name l.filters l.name ≡ has_name (drop l.named-index l.filters) l.name
