use Rattle.filter_reports.specs.declared.fault.ProgramFault.TheVariants.{Stream}
use Rattle.filter_source.proofs.Refused.{of_error}
use Rattle.line_protocol.specs.declared.faults.StreamFault.TheVariants.{Memory}
use Rattle.program_console.proofs.Unreported.{nothing_told}
use Rattle.program_console.proofs.notices.tell_reason.Goals as goal

pub returns-in_err-words-clause-err : goal.returns-in_err-words-clause-err
returns-in_err-words-clause-err g c =
    of_error c.from_residual.result _ (Stream Memory) c.from_residual.ensures.1 (nothing_told c.args.name.now c.args.code.now _)
