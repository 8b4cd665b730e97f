use Rattle.std.proofs.Common.{◌≡◌, ◌++◌, flat_map, drop}
use Rattle.domain_cmds.specs.ComparisonTexts.{harm_text}
use Rattle.domain_cmds.proofs.comparison_text.push_each_harm.Given as goal

-- the lines so far were added, and those that are left will be
abbrev pub invariant-loop-harm : goal.invariant-loop-harm
invariant-loop-harm l = l.out.items ++ flat_map harm_text (drop l.harm-index l.harms) ≡ l.fn.out.items ++ flat_map harm_text l.harms
