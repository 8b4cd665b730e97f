use Rattle.std.proofs.Common.{◌+◌, length, arith}
use Rattle.line_protocol.proofs.FeedLemmas.{length_behind, none_behind}
use Rattle.line_protocol.proofs.engine.find_far_line_feed.Goals as goal

pub returns-in-Some-clause-none : goal.returns-in-Some-clause-none
returns-in-Some-clause-none c =
    none_behind c.args.bytes.now c.args.from (c.args.from + c.in-Some.place) c.in-Some.place c.in-Some.ensures.0.before (omega arith)

pub returns-in-None-clause-none : goal.returns-in-None-clause-none
returns-in-None-clause-none c =
    let whole = length_behind c.args.bytes.now c.args.from in
    none_behind c.args.bytes.now c.args.from (length c.args.bytes.now) _ c.in-None.ensures (omega (arith, whole))
