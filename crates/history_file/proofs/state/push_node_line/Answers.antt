use Rattle.std.specs.Io.{StartsWith}
use Rattle.netchange_core.specs.Kept.{view_of}
use Rattle.history_lines.proofs.Fronts.{err_always, err_weaker, longer_front}
use Rattle.history_file.proofs.States.{node_added}
use Rattle.history_file.proofs.state.push_node_line.Goals as goal

pub returns-in_err-push_use-2-clause-err : goal.returns-in_err-push_use-2-clause-err
returns-in_err-push_use-2-clause-err c =
    let end = c.push_use-2.new.out.items in
    let start = c.args.out.now.items in
    err_always c.from_residual-in_err-push_use-2.result (StartsWith end start)
    (longer_front end start _ c.extend_from_slice.new.self.items c.in_ok-extend_from_slice.ensures.items
    (longer_front end c.extend_from_slice.new.self.items _ c.push_number.new.out.items c.in_ok-push_number.ensures.ok
    (longer_front end c.push_number.new.out.items _ c.push_use.new.out.items c.in_ok-push_use.ensures.ok c.in_err-push_use-2.ensures.err)))

pub returns-clause-ok : goal.returns-clause-ok
returns-clause-ok c =
    node_added c.push_link.result c.args.node c.from.result c.args.uses (view_of c.args.neighbour.now) c.deref.result.now c.args.out.now.items
    c.extend_from_slice.new.self.items c.push_number.new.out.items c.push_use.new.out.items c.push_use-2.new.out.items
    c.push_link.new.out.items c.in_ok-extend_from_slice.ensures.items c.in_ok-push_number.ensures.ok c.from.ensures
    c.in_ok-push_use.ensures.ok c.in_ok-push_use-2.ensures.ok c.deref.ensures.value c.push_link.ensures.ok

pub returns-clause-err : goal.returns-clause-err
returns-clause-err c =
    let end = c.push_link.new.out.items in
    let start = c.args.out.now.items in
    err_weaker c.push_link.result (StartsWith end c.push_use-2.new.out.items) (StartsWith end start)
    (λ h. longer_front end start _ c.extend_from_slice.new.self.items c.in_ok-extend_from_slice.ensures.items
    (longer_front end c.extend_from_slice.new.self.items _ c.push_number.new.out.items c.in_ok-push_number.ensures.ok
    (longer_front end c.push_number.new.out.items _ c.push_use.new.out.items c.in_ok-push_use.ensures.ok
    (longer_front end c.push_use.new.out.items _ c.push_use-2.new.out.items c.in_ok-push_use-2.ensures.ok h))))
    c.push_link.ensures.err
