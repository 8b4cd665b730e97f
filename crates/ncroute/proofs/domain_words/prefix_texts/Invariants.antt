use Rattle.std.proofs.Common.{◌≡◌, map}
use Rattle.std.specs.Prelude.{string_bytes}
use Rattle.domain_cmds.specs.Failures.{lists_below}
use Rattle.ncroute.specs.DomainWords.{prefix_at}
use Rattle.ncroute.proofs.domain_words.prefix_texts.Given as goal

-- the prefixes of the lesser nodes
abbrev pub invariant-loop-v : goal.invariant-loop-v
invariant-loop-v l = map (λ text. string_bytes text) l.texts.items ≡ lists_below l.v (prefix_at l.prefixes)
