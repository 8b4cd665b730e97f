use Rattle.filter_traces.proofs.Instructions.{instr_within}
use Rattle.filter_traces.proofs.traced.Traced.instr.Goals as goal

pub returns-clause-within : goal.returns-clause-within
returns-clause-within c =
    instr_within c.instrs.result.now c.args.at c.instr_at.result c.instr_at.ensures c.instrs.ensures.limit
