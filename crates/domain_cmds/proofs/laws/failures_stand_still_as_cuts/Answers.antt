use Rattle.std.proofs.Common.{refl}
use Rattle.domain_cmds.proofs.laws.failures_stand_still_as_cuts.Goals as goal

pub returns : goal.returns
returns c = λ size u w before after v. refl
