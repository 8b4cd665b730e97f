use Rattle.std.proofs.Common.{◌++◌, take}
use Rattle.std.proofs.KnownBytes.{Appends-trans}
use Rattle.line_protocol.proofs.StreamLemmas.{done_more}
use Rattle.line_protocol.proofs.streams.write_text.Goals as goal

pub loop-preserved : goal.loop-preserved
loop-preserved g c =
    let (done, split, written) = c.loop.invariant in
    let rest = c.loop.rest.now in
    let n = c.in_ok-n.n in
    (done ++ take n rest, done_more _ done rest n split, Appends-trans _ _ _ _ _ written c.in_ok-n.ensures.bytes)
