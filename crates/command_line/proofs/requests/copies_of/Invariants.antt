use Rattle.std.proofs.Common.{◌≡◌, map, string_bytes, take}
use Rattle.command_line.proofs.requests.copies_of.Given as goal

-- the texts so far are copied
abbrev pub invariant-loop-text : goal.invariant-loop-text
invariant-loop-text l = map (λ copy. string_bytes copy) l.copies.items ≡ map (λ text. text.now) (take l.text-index l.texts)
