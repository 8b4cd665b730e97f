use Rattle.std.proofs.Common.{◌≡◌, Some, arith, refl}
use Rattle.std.specs.Prelude.{slice_get}
use Rattle.std.proofs.lemmas.Grind.{common_steps}
use Rattle.std.proofs.lemmas.Option.{gets}
use Rattle.filter_code.specs.Machine.{EndsAfter, start}
use Rattle.filter_code.specs.CodeView.{CodeView}
use Rattle.filter_code.specs.RouteView.{RouteView}
use Rattle.filter_code.specs.declared.instruction.Instr.TheVariants as instr
use Rattle.filter_code.specs.declared.outcome.Outcome.TheVariants as outcome
use Rattle.filter_code.proofs.Runs.{begun_in, carried_over, outcome_after}
use Rattle.filter_code.proofs.machine.run_counted.Goals as goal

-- code that begins with ACCEPT accepts at once
accepted_first : (program : CodeView) (route : RouteView) → slice_get program.instrs 0 ≡ Some instr.Accept →
    EndsAfter program route 1 (outcome.Accept route.metric)
accepted_first program route here =
    carried_over program route 0 (start program route) instr.Accept (outcome.Accept route.metric) (begun_in program route) here refl

pub returns-in-Some-Accept-clause-steps : goal.returns-in-Some-Accept-clause-steps
returns-in-Some-Accept-clause-steps c =
    rw c.metric.ensures.value (accepted_first c.args.code.now c.args.route.now (grind (arith, common_steps, gets)))

pub returns-in-Some-Accept-clause-outcome : goal.returns-in-Some-Accept-clause-outcome
returns-in-Some-Accept-clause-outcome c = outcome_after _ _ _ _ (returns-in-Some-Accept-clause-steps c)
