-- The line was counted, and its answer is that of what was read.
use Rattle.std.proofs.Common.{ℕ, List, [], ◌++◌, Some, ap, sym, ◌∙◌}
use Rattle.std.proofs.lemmas.List.{append-nil}
use Rattle.route_answers.specs.RouteLine.{line_code, route_in}
use Rattle.line_protocol.specs.Answers.{refusal}
use Rattle.filter_traces.proofs.Covering.{answered_as, refused_as}
use Rattle.filter_traces.proofs.coverage.CounterService.answer.Goals as goal

pub returns-in_ok-push_refusal-in-Some-clause-ok : goal.returns-in_ok-push_refusal-in-Some-clause-ok
returns-in_ok-push_refusal-in-Some-clause-ok c = (
  refusal (line_code c.in-Some.fault) c.args.number,
  c.in_ok-push_refusal-in-Some.ensures.ok
      ∙ (ap (λ (code : List ℕ). c.args.out.now.items ++ refusal code c.from.result) c.code.ensures
      ∙ ap (λ (n : ℕ). c.args.out.now.items ++ refusal (line_code c.in-Some.fault) n) c.from.ensures),
  (
    c.in-Some.ensures.counted c.args.number,
    refused_as c.args.number (route_in (Some c.args.self.now.traced.size) c.args.line.now) c.in-Some.fault c.in-Some.ensures.fault,
  ),
)

pub returns-in-None-clause-ok : goal.returns-in-None-clause-ok
returns-in-None-clause-ok c = (
  [],
  sym (append-nil c.args.out.now.items),
  (
    c.in-None.ensures.counted c.args.number,
    answered_as c.args.number (route_in (Some c.args.self.now.traced.size) c.args.line.now) c.in-None.ensures.fault,
  ),
)
