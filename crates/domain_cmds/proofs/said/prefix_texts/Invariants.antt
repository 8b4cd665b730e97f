use Rattle.std.proofs.Common.{◌≡◌, map, take}
use Rattle.prefix_patterns.specs.Spelling.{prefix_text}
use Rattle.domain_cmds.proofs.said.prefix_texts.Given as goal

-- the prefixes so far
abbrev pub invariant-loop-prefix : goal.invariant-loop-prefix
invariant-loop-prefix l = map (λ text. text.items) l.texts.items ≡ map prefix_text (take l.prefix-index l.plan.prefixes)
