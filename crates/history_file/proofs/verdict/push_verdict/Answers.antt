use Rattle.std.specs.Io.{StartsWith}
use Rattle.history_lines.proofs.Fronts.{err_always, longer_front}
use Rattle.history_file.proofs.verdict.push_verdict.Goals as goal

pub returns-in_err-push_reply-in-Differs-2-clause-err : goal.returns-in_err-push_reply-in-Differs-2-clause-err
returns-in_err-push_reply-in-Differs-2-clause-err c =
    let end = c.push_reply-in-Differs.new.out.items in
    let start = c.args.out.now.items in
    let word = c.extend_from_slice-in-Differs.new.self.items in
    let number = c.push_decimal-in-Differs.new.out.items in
    let saved = c.extend_from_slice-in-Differs-2.new.self.items in
    let reply = c.push_reply.new.out.items in
    let right = c.extend_from_slice-in-Differs-3.new.self.items in
    err_always c.from_residual-in_err-push_reply-in-Differs-2.result (StartsWith end start)
    (longer_front end start _ word c.in_ok-extend_from_slice-in-Differs.ensures.items
    (longer_front end word _ number c.in_ok-push_decimal-in-Differs.ensures.ok
    (longer_front end number _ saved c.in_ok-extend_from_slice-in-Differs-2.ensures.items
    (longer_front end saved _ reply c.in_ok-push_reply-in-Differs.ensures.ok
    (longer_front end reply _ right c.in_ok-extend_from_slice-in-Differs-3.ensures.items
    c.in_err-push_reply-in-Differs-2.ensures.err)))))
