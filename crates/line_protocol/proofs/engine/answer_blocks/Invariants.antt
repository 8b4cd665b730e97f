use Rattle.std.proofs.Common.{◌≡◌, ◌≤◌, ◌+◌, ◌-◌, [], false, take, vec_len}
use Rattle.line_protocol.proofs.WholeLemmas.{UnderWay}
use Rattle.line_protocol.proofs.engine.answer_blocks.Given as goal

-- the whole lines read so far are answered, and the begun line is at the front of the buffer
abbrev pub invariant-turns : goal.invariant-turns
invariant-turns g l = record {
  goes_on : l.progress.over ≡ false;
  cleared : l.progress.text.items ≡ [];
  within : l.begun ≤ vec_len l.buffer;
  short : l.total ≤ l.limit;
  under_way : UnderWay g.S.Service.answers l.initial.service l.service (g.R.Read.remaining l.initial.reader) (g.R.Read.remaining l.reader)
      (g.W.Write.contents l.initial.writer) (g.W.Write.contents l.writer) (take l.begun l.buffer.items) l.total
      l.progress.number l.progress.refused;
}

abbrev pub decreases-turns : goal.decreases-turns
decreases-turns g l = (l.limit + 1) - l.total
