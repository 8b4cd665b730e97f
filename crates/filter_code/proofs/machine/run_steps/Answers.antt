use Rattle.std.proofs.Common.{ℕ, ◌∙◌, ap, arith, refl}
use Rattle.std.proofs.lemmas.Grind.{common_steps}
use Rattle.std.proofs.lemmas.Option.{gets}
use Rattle.filter_code.specs.Machine.{Config}
use Rattle.filter_code.specs.Steps.{config_of, operands_in, stopped}
use Rattle.filter_code.proofs.Metrics.{accepted_in_range}
use Rattle.filter_code.proofs.Runs.{begun_in, carried_on, carried_over, left, outcome_after}
use Rattle.filter_code.proofs.machine.run_steps.Goals as goal

pub loop-instr-init : goal.loop-instr-init
loop-instr-init c = (
  rw (c.new-locals.ensures, c.locals.ensures.value, c.metric-metric.ensures.value)
      (begun_in c.args.code.now c.args.route.now),
  omega arith,
  refl,
)

pub loop-instr-preserved : goal.loop-instr-preserved
loop-instr-preserved c =
    let config : Config = config_of c.loop-instr.pc (operands_in c.loop-instr.stack c.loop-instr.depth) c.loop-instr.locals c.loop-instr.metric in (
      carried_on c.args.code.now c.args.route.now c.loop-instr.steps config c.in-Some.instr.now _ c.loop-instr.invariant.0
          (grind (arith, common_steps, gets)) c.in-Ok.ensures.step,
      c.in-Ok.ensures.within,
      c.in-Ok.ensures.all,
    )

pub returns-in-Err : goal.returns-in-Err
returns-in-Err c =
    let config : Config = config_of c.loop-instr.pc (operands_in c.loop-instr.stack c.loop-instr.depth) c.loop-instr.locals c.loop-instr.metric in
    let ended = carried_over c.args.code.now c.args.route.now c.loop-instr.steps config c.in-Some.instr.now _
    c.loop-instr.invariant.0 (grind (arith, common_steps, gets)) c.in-Err.ensures.step in
    let ends = rw (← (c.at.ensures ∙ ap (λ (pc : ℕ). stopped c.in-Err.stop pc) c.in-Err.ensures.on)) at ended in
    record {
      outcome = outcome_after _ _ _ _ ends;
      steps = ends;
      accepted = accepted_in_range c.args.code.now c.args.route.now _ _ c.metric-metric.ensures.limits.reachable ends;
    }

pub returns : goal.returns
returns c =
    let config : Config = config_of c.loop-instr.pc (operands_in c.loop-instr.stack c.loop-instr.depth) c.loop-instr.locals c.loop-instr.metric in
    let ends = left c.args.code.now c.args.route.now c.loop-instr.steps config c.loop-instr.invariant.0 (grind (arith, common_steps)) in
    record {
      outcome = outcome_after _ _ _ _ ends;
      steps = ends;
      accepted = accepted_in_range c.args.code.now c.args.route.now _ _ c.metric-metric.ensures.limits.reachable ends;
    }
