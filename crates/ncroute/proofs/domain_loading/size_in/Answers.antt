-- The size is that of the command that the line is read as.
use Rattle.std.proofs.Common.{ap, sym, ◌∙◌}
use Rattle.domain_cmds.specs.Commands.{command_in}
use Rattle.ncroute.specs.DomainLoading.{size_in, size_read}
use Rattle.ncroute.proofs.DomainSizes.{size_of_fault}
use Rattle.ncroute.proofs.domain_loading.size_in.Goals as goal

pub returns-in-Ok : goal.returns-in-Ok
unfolding size_in
returns-in-Ok c = c.size_given.ensures ∙ ap size_read (sym c.in-Ok.ensures)

pub returns-in-Err : goal.returns-in-Err
unfolding size_in
returns-in-Err c = sym (size_of_fault c.read_command.result _ (command_in c.args.line.now) c.in-Err.is c.read_command.ensures)
