-- A line says a command, which has room for its source.
use Rattle.domain_cmds.proofs.Shortness.{short_command}
use Rattle.domain_files.specs.Files.{view_of}
use Rattle.domain_files.proofs.Taking.{said}
use Rattle.domain_files.proofs.reading.Reading.take.Goals as goal

pub carry_out-requires-clause-short : goal.carry_out-requires-clause-short
carry_out-requires-clause-short c = short_command c.args.line.now (view_of c.in-Ok.command) c.in-Ok.ensures

pub returns-in-Ok : goal.returns-in-Ok
returns-in-Ok c =
    said c.args.self.now.file c.carry_out.new.self.file c.args.number c.args.line.now c.carry_out.new.self.answer.items (view_of c.in-Ok.command)
    c.is_skipped.ensures c.if-is_skipped.false c.in-Ok.ensures c.carry_out.result c.carry_out.ensures
