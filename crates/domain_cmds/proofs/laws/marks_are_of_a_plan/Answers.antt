use Rattle.domain_cmds.proofs.Marked.{new_marked, line_marked}
use Rattle.domain_cmds.proofs.laws.marks_are_of_a_plan.Goals as goal

pub returns : goal.returns
returns c = record {
  begins = λ size fits. new_marked size fits;
  goes_on = λ p after number line answer m h. line_marked p m number line answer after h;
}
