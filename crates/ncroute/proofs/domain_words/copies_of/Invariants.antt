use Rattle.std.proofs.Common.{◌≡◌, map, take}
use Rattle.std.specs.Prelude.{string_bytes}
use Rattle.ncroute.proofs.domain_words.copies_of.Given as goal

-- the texts so far
abbrev pub invariant-loop-text : goal.invariant-loop-text
invariant-loop-text l = map (λ text. string_bytes text) l.copies.items ≡ map (λ text. string_bytes text) (take l.text-index l.texts)
