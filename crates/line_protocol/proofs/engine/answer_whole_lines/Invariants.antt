use Rattle.std.proofs.Common.{◌≡◌, ◌≤◌, ◌-◌, ◌++◌, List, false, length}
use Rattle.line_protocol.specs.Answers.{Answer, text_of}
use Rattle.line_protocol.specs.Steps.{AnswersFront, NoneEnds}
use Rattle.line_protocol.proofs.engine.answer_whole_lines.Given as goal

-- the lines before `at` are answered, and no line ends from there up to `from`
abbrev pub invariant-lines : goal.invariant-lines
invariant-lines g l = record {
  order : l.at ≤ l.from;
  within : l.from ≤ length l.bytes;
  none : NoneEnds l.bytes l.at l.from;
  goes_on : l.progress.over ≡ false;
  so_far : (given : List Answer) × AnswersFront g.S.Service.answers l.initial.service l.service l.bytes l.at given
      l.initial.progress.number l.progress.number l.initial.progress.refused l.progress.refused false
      × (l.progress.text.items ≡ l.initial.progress.text.items ++ text_of given);
}

abbrev pub decreases-lines : goal.decreases-lines
decreases-lines g l = length l.bytes - l.from
