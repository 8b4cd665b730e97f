use Rattle.std.proofs.Common.{◌≡◌, ℕ, None, Some, replicate, ◌∙◌, ap, arith}
use Rattle.std.specs.Prelude.{slice_get}
use Rattle.std.proofs.lemmas.Grind.{common_steps}
use Rattle.std.proofs.lemmas.Option.{gets}
use Rattle.filter_diff.specs.Turns.{Parts}
use Rattle.filter_diff.proofs.Steps.{begin, end, go_on}
use Rattle.filter_diff.proofs.trials.trial.Goals as goal

pub loop-instr-init : goal.loop-instr-init
loop-instr-init c =
    begin c.args.code.now c.args.class.now _ _ c.new-stack.ensures
    (c.new-locals.ensures ∙ ap (λ (n : ℕ). replicate n None) c.locals.ensures.value)

pub loop-instr-preserved : goal.loop-instr-preserved
loop-instr-preserved c =
    let here : slice_get c.args.code.now.instrs c.loop-instr.pc ≡ Some c.in-Some.instr.now = grind (arith, common_steps, gets) in
    let before : Parts =
    record { pc = c.loop-instr.pc; stack = c.loop-instr.stack; locals = c.loop-instr.locals; metric = c.loop-instr.metric } in
    let after : Parts =
    record { pc = c.carry_out.new.pc; stack = c.carry_out.new.stack; locals = c.carry_out.new.locals; metric = c.carry_out.new.metric } in
    go_on c.args.code.now c.args.class.now c.in-Some.instr.now before after c.loop-instr.invariant here c.in-On.ensures.step

pub returns-in_default-carry_out : goal.returns-in_default-carry_out
returns-in_default-carry_out c =
    let here : slice_get c.args.code.now.instrs c.loop-instr.pc ≡ Some c.in-Some.instr.now = grind (arith, common_steps, gets) in
    let before : Parts =
    record { pc = c.loop-instr.pc; stack = c.loop-instr.stack; locals = c.loop-instr.locals; metric = c.loop-instr.metric } in
    let after : Parts =
    record { pc = c.carry_out.new.pc; stack = c.carry_out.new.stack; locals = c.carry_out.new.locals; metric = c.carry_out.new.metric } in
    end c.args.code.now c.args.class.now c.in-Some.instr.now before after c.carry_out.result c.loop-instr.invariant here c.carry_out.ensures.step
