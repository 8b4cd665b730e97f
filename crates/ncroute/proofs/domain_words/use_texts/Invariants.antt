use Rattle.std.proofs.Common.{◌≡◌, map, take}
use Rattle.std.specs.Prelude.{string_bytes}
use Rattle.ncroute.specs.DomainWords.{use_said}
use Rattle.ncroute.proofs.domain_words.use_texts.Given as goal

-- the uses so far
abbrev pub invariant-loop-used : goal.invariant-loop-used
invariant-loop-used l = map (λ text. string_bytes text) l.texts.items ≡ map use_said (take l.used-index l.uses)
