use Rattle.std.proofs.Common.{◌≡◌, ℕ, None, Some, replicate, ◌∙◌, ap, arith, rules, subst, sym}
use Rattle.std.specs.Prelude.{slice_get}
use Rattle.std.proofs.lemmas.Grind.{common_steps}
use Rattle.std.proofs.lemmas.Option.{gets}
use Rattle.filter_diff.specs.Marking.{AreMarked}
use Rattle.filter_diff.specs.Turns.{Parts}
use Rattle.filter_diff.proofs.Marking.{extend_self}
use Rattle.filter_diff.proofs.Reached.{begin_marked, come_explored, end_noted, go_on_noted, more_noted, sound_noted}
use Rattle.filter_diff.proofs.reaching.mark_run.Goals as goal

pub loop-instr-init : goal.loop-instr-init
loop-instr-init c = record {
  come = begin_marked c.args.code.now c.args.class.now c.args.marks.now _ _ c.new-stack.ensures
      (c.new-locals.ensures ∙ ap (λ (n : ℕ). replicate n None) c.locals.ensures.value);
  more = extend_self c.args.marks.now;
  sound = λ sound. sound;
}

pub loop-instr-preserved : goal.loop-instr-preserved
loop-instr-preserved c =
    let here : slice_get c.args.code.now.instrs c.loop-instr.pc ≡ Some c.in-Some.instr.now = grind (arith, common_steps, gets) in
    let from : Parts =
    record { pc = c.loop-instr.pc; stack = c.note.new.stack; locals = c.loop-instr.locals; metric = c.loop-instr.metric } in
    let to : Parts =
    record { pc = c.carry_out.new.pc; stack = c.carry_out.new.stack; locals = c.carry_out.new.locals; metric = c.carry_out.new.metric } in
    record {
      come = go_on_noted c.args.code.now c.args.class.now c.in-Some.instr.now c.loop-instr.stack from to c.args.marks.now c.loop-instr.marks
          c.note.new.marks here c.if-not-note.ensures c.loop-instr.invariant.come c.in-On.ensures.step;
      more = more_noted c.args.code.now c.args.class.now c.in-Some.instr.now c.loop-instr.stack from to c.args.marks.now c.loop-instr.marks
          c.note.new.marks here c.if-not-note.ensures c.loop-instr.invariant.come c.loop-instr.invariant.more;
      sound = sound_noted c.args.code.now c.args.class.now c.in-Some.instr.now c.loop-instr.stack from to c.args.marks.now
          c.loop-instr.marks c.note.new.marks here c.if-not-note.ensures c.loop-instr.invariant.come c.requires.real
          c.loop-instr.invariant.sound;
    }

pub returns-in_default-carry_out : goal.returns-in_default-carry_out
returns-in_default-carry_out c =
    let here : slice_get c.args.code.now.instrs c.loop-instr.pc ≡ Some c.in-Some.instr.now = grind (arith, common_steps, gets) in
    let from : Parts =
    record { pc = c.loop-instr.pc; stack = c.note.new.stack; locals = c.loop-instr.locals; metric = c.loop-instr.metric } in
    let to : Parts =
    record { pc = c.carry_out.new.pc; stack = c.carry_out.new.stack; locals = c.carry_out.new.locals; metric = c.carry_out.new.metric } in
    record {
      marked = subst (AreMarked c.args.code.now c.args.class.now c.note.new.marks) (sym c.extent_of.ensures)
          (end_noted c.args.code.now c.args.class.now c.in-Some.instr.now c.loop-instr.stack from to c.args.marks.now c.loop-instr.marks
          c.note.new.marks here c.if-not-note.ensures c.loop-instr.invariant.come c.carry_out.result c.carry_out.ensures.step);
      more = more_noted c.args.code.now c.args.class.now c.in-Some.instr.now c.loop-instr.stack from to c.args.marks.now c.loop-instr.marks
          c.note.new.marks here c.if-not-note.ensures c.loop-instr.invariant.come c.loop-instr.invariant.more;
      sound = sound_noted c.args.code.now c.args.class.now c.in-Some.instr.now c.loop-instr.stack from to c.args.marks.now
          c.loop-instr.marks c.note.new.marks here c.if-not-note.ensures c.loop-instr.invariant.come c.requires.real
          c.loop-instr.invariant.sound;
    }

pub returns-then-is_explored-clause-marked : goal.returns-then-is_explored-clause-marked
returns-then-is_explored-clause-marked c =
    come_explored c.args.code.now c.args.class.now c.args.marks.now c.loop-instr.marks c.args.explored.now c.loop-instr.pc
    c.loop-instr.stack c.loop-instr.locals c.loop-instr.metric
    c.loop-instr.invariant.more c.requires.explored c.loop-instr.invariant.come (c.if-is_explored.ensures (search rules))
