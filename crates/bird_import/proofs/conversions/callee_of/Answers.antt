use Rattle.std.proofs.Common.{inl}
use Rattle.bird_import.proofs.Halted.{outside, too_deep, used_by}
use Rattle.bird_import.proofs.conversions.callee_of.Goals as goal

pub returns-in-Err-clause-refused : goal.returns-in-Err-clause-refused
returns-in-Err-clause-refused c = inl (c.in-Err.ensures.err c.args.words.now (used_by c.args.words.now c.args.at c.args.word c.requires))

pub returns-in-Err-source_of-clause-refused : goal.returns-in-Err-source_of-clause-refused
returns-in-Err-source_of-clause-refused c =
    outside c.args.config.now c.args.depth c.args.words.now c.args.at c.args.word c.in-Ok.item.now c.in-Err-source_of.reason.why c.requires
    c.in-Ok.ensures.ok c.in-Err-source_of.ensures.err.0 c.in-Err-source_of.ensures.err.1

pub returns-in-Err-less_deep-clause-refused : goal.returns-in-Err-less_deep-clause-refused
returns-in-Err-less_deep-clause-refused c =
    too_deep c.args.config.now c.args.depth c.args.words.now c.args.at c.args.word c.in-Ok.item.now c.in-Err-less_deep.reason.why c.requires
    c.in-Ok.ensures.ok c.in-Err-less_deep.ensures.err.0 c.in-Err-less_deep.ensures.err.1
