use Rattle.std.proofs.Common.{◌≡◌, None, Some, arith}
use Rattle.std.specs.Prelude.{slice_get}
use Rattle.std.proofs.lemmas.Grind.{common_steps}
use Rattle.std.proofs.lemmas.Option.{gets}
use Rattle.filter_diff.proofs.Marking.{extend_self}
use Rattle.filter_diff.proofs.Seen.{outside_never, seen_end, seen_extend, seen_more, seen_none, seen_sound, unseen_never}
use Rattle.filter_diff.proofs.reaching.mark_route.Goals as goal

pub loop-instr-init : goal.loop-instr-init
loop-instr-init c = record {
  seen = seen_none c.args.code.now c.args.route.now c.args.marks.now _ c.new-running.ensures;
  more = extend_self c.args.marks.now;
  sound = λ sound. sound;
}

pub loop-instr-preserved : goal.loop-instr-preserved
loop-instr-preserved c =
    let here : slice_get c.args.code.now.instrs c.loop-instr.running.pc ≡ Some c.in-Some.instr.now = grind (arith, common_steps, gets) in
    record {
      seen = seen_more c.args.code.now c.args.route.now c.in-Some.instr.now c.loop-instr.running c.args.marks.now c.loop-instr.marks
          c.note_seen.new.marks here c.if-not-note_seen.ensures c.loop-instr.invariant.seen _ c.in-None.ensures;
      more = seen_extend c.args.code.now c.args.route.now c.in-Some.instr.now c.loop-instr.running c.args.marks.now c.loop-instr.marks
          c.note_seen.new.marks here c.if-not-note_seen.ensures c.loop-instr.invariant.seen c.loop-instr.invariant.more;
      sound = seen_sound c.args.code.now c.args.route.now c.in-Some.instr.now c.loop-instr.running c.args.marks.now c.loop-instr.marks
          c.note_seen.new.marks here c.if-not-note_seen.ensures c.loop-instr.invariant.seen c.args.route.now.size c.requires.is_in
          c.loop-instr.invariant.sound;
    }

pub returns-in-Some-step-clause-marked : goal.returns-in-Some-step-clause-marked
returns-in-Some-step-clause-marked c all =
    let here : slice_get c.args.code.now.instrs c.loop-instr.running.pc ≡ Some c.in-Some.instr.now = grind (arith, common_steps, gets) in
    seen_end c.args.code.now c.args.route.now c.in-Some.instr.now c.loop-instr.running c.args.marks.now c.loop-instr.marks
    c.note_seen.new.marks here c.if-not-note_seen.ensures c.loop-instr.invariant.seen _ c.in-Some-step.ensures

pub returns-in-Some-step-clause-more : goal.returns-in-Some-step-clause-more
returns-in-Some-step-clause-more c =
    let here : slice_get c.args.code.now.instrs c.loop-instr.running.pc ≡ Some c.in-Some.instr.now = grind (arith, common_steps, gets) in
    seen_extend c.args.code.now c.args.route.now c.in-Some.instr.now c.loop-instr.running c.args.marks.now c.loop-instr.marks
    c.note_seen.new.marks here c.if-not-note_seen.ensures c.loop-instr.invariant.seen c.loop-instr.invariant.more

pub returns-in-Some-step-clause-sound : goal.returns-in-Some-step-clause-sound
returns-in-Some-step-clause-sound c =
    let here : slice_get c.args.code.now.instrs c.loop-instr.running.pc ≡ Some c.in-Some.instr.now = grind (arith, common_steps, gets) in
    seen_sound c.args.code.now c.args.route.now c.in-Some.instr.now c.loop-instr.running c.args.marks.now c.loop-instr.marks
    c.note_seen.new.marks here c.if-not-note_seen.ensures c.loop-instr.invariant.seen c.args.route.now.size c.requires.is_in c.loop-instr.invariant.sound

pub returns-then-not-note_seen-clause-decided : goal.returns-then-not-note_seen-clause-decided
returns-then-not-note_seen-clause-decided c never =
    let here : slice_get c.args.code.now.instrs c.loop-instr.running.pc ≡ Some c.in-Some.instr.now = grind (arith, common_steps, gets) in
    absurd
    (unseen_never c.args.code.now c.args.route.now c.loop-instr.running c.in-Some.instr.now c.loop-instr.marks c.note_seen.new.marks here
    c.if-not-note_seen.ensures c.loop-instr.invariant.seen never)

pub returns-clause-decided : goal.returns-clause-decided
returns-clause-decided c never =
    let outside : slice_get c.args.code.now.instrs c.loop-instr.running.pc ≡ None = grind (arith, common_steps, gets) in
    absurd (outside_never c.args.code.now c.args.route.now c.loop-instr.running c.loop-instr.marks outside c.loop-instr.invariant.seen never)
