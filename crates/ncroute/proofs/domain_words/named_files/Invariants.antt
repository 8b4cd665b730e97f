use Rattle.std.proofs.Common.{◌≡◌, ◌++◌, map}
use Rattle.ncroute.specs.DomainWords.{name_of_filter}
use Rattle.ncroute.proofs.domain_words.named_files.Given as goal

-- the names so far, and those that are left, are all
abbrev pub invariant-loop-name : goal.invariant-loop-name
invariant-loop-name l = map name_of_filter l.named.items ++ map (λ entry. entry.0.items) l.name-iterator ≡ map (λ entry. entry.0.items) l.filters.entries
