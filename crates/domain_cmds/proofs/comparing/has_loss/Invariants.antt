use Rattle.std.proofs.Common.{◌≡◌, drop}
use Rattle.domain_cmds.specs.Comparing.{has_loss}
use Rattle.domain_cmds.proofs.comparing.has_loss.Given as goal

-- none so far takes routes that it did not take
abbrev pub invariant-loop-harm : goal.invariant-loop-harm
invariant-loop-harm l = has_loss l.harms ≡ has_loss (drop l.harm-index l.harms)
