use Rattle.std.proofs.Common.{◌≡◌, ◌++◌, OnOk, sym, ap, subst, ◌∙◌}
use Rattle.filter_code.specs.Machine.{outcome_of}
use Rattle.filter_code.specs.declared.outcome.Outcome.{Outcome}
use Rattle.filter_machine.specs.Verdicts.{announced, outcome_said}
use Rattle.route_answers.specs.Eval.{verdict}
use Rattle.route_answers.specs.Sizes.{clipped}
use Rattle.route_answers.proofs.Clipped.{outcome_served}
use Rattle.route_answers.proofs.judge.push_verified.Goals as goal

pub returns-clause-ok : goal.returns-clause-ok
returns-clause-ok c =
    let program = c.args.verified.now.program in
    let served : clipped c.args.size (outcome_said c.run-ran.result.verdict) ≡ outcome_of program (announced c.args.net c.args.metric c.args.size) =
    ap (clipped c.args.size) c.run-ran.ensures.verdict
    ∙ sym (outcome_served program c.args.net c.args.metric c.args.verified.now.size c.args.size c.requires.within
    c.requires.smaller c.requires.reachable) in
    subst (λ (end : Outcome). OnOk c.push_said.result (c.push_said.new.out.items ≡ c.args.out.now.items ++ verdict end)) served c.push_said.ensures.ok
