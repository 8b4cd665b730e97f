use Rattle.std.proofs.Common.{refl}
use Rattle.command_line.specs.Parameters.{all_taken}
use Rattle.command_line.proofs.commands.all_parameters.Goals as goal

pub returns : goal.returns
unfolding all_taken
returns c = refl
