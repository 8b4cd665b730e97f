use Rattle.std.proofs.Common.{codes}
use Rattle.std.specs.Io.{StartsWith}
use Rattle.history_lines.proofs.Fronts.{err_weaker, longer_front}
use Rattle.history_file.proofs.States.{queue_added}
use Rattle.history_file.proofs.state.push_queue.Goals as goal

pub returns-clause-ok : goal.returns-clause-ok
returns-clause-ok c =
    queue_added c.push_messages-2.result c.args.out.now.items (codes "queue") c.extend_from_slice.new.self.items c.push_messages.new.out.items
    c.push_messages-2.new.out.items c.as_slices.result.0.now c.as_slices.result.1.now c.args.queue.now.items
    c.in_ok-extend_from_slice.ensures.items c.in_ok-push_messages.ensures.ok c.as_slices.ensures.items c.push_messages-2.ensures.ok

pub returns-clause-err : goal.returns-clause-err
returns-clause-err c =
    let end = c.push_messages-2.new.out.items in
    let start = c.args.out.now.items in
    err_weaker c.push_messages-2.result (StartsWith end c.push_messages.new.out.items) (StartsWith end start)
    (λ h. longer_front end start _ c.extend_from_slice.new.self.items c.in_ok-extend_from_slice.ensures.items
    (longer_front end c.extend_from_slice.new.self.items _ c.push_messages.new.out.items c.in_ok-push_messages.ensures.ok h))
    c.push_messages-2.ensures.err
