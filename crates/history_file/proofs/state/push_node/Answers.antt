use Rattle.std.specs.Io.{StartsWith}
use Rattle.history_lines.proofs.Fronts.{err_weaker, longer_front}
use Rattle.history_file.proofs.state.push_node.Goals as goal

pub returns-clause-err : goal.returns-clause-err
returns-clause-err c =
    let end = c.push_waiting.new.out.items in
    let start = c.args.out.now.items in
    err_weaker c.push_waiting.result (StartsWith end c.push.new.self.items) (StartsWith end start)
    (λ h. longer_front end start _ c.push_node_line.new.out.items c.in_ok-push_node_line.ensures.ok
    (longer_front end c.push_node_line.new.out.items _ c.push.new.self.items c.in_ok-push.ensures.items h))
    c.push_waiting.ensures.err
