use Rattle.std.proofs.Common.{arith}
use Rattle.code_file.proofs.Answered.{is_found, is_only, is_refused}
use Rattle.code_file.proofs.reading.read_code.Goals as goal

pub returns-clause-found : goal.returns-clause-found
returns-clause-found c = is_found c.args.bytes.now c.code_of.result (λ i. omega (arith, c.type_inv.bytes i)) c.code_of.ensures

pub returns-clause-only : goal.returns-clause-only
returns-clause-only c = is_only c.args.bytes.now c.code_of.result c.code_of.ensures

pub returns-clause-refused : goal.returns-clause-refused
returns-clause-refused c = is_refused c.args.bytes.now c.code_of.result (λ i. omega (arith, c.type_inv.bytes i)) c.code_of.ensures
