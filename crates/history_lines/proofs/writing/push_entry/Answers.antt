use Rattle.std.proofs.Common.{decimal}
use Rattle.std.specs.Io.{StartsWith}
use Rattle.history_lines.proofs.Fronts.{err_weaker, longer_front}
use Rattle.history_lines.specs.Text.{event_words, spaced}
use Rattle.history_lines.specs.Views.{event_view}
use Rattle.history_lines.proofs.writing.push_entry.Goals as goal

pub returns-clause-err : goal.returns-clause-err
returns-clause-err c =
    let new = c.push_reply.new.out.items in
    let words = spaced (event_words (event_view c.args.entry.event.now)) in
    err_weaker c.push_reply.result (StartsWith new c.push_event.new.out.items) (StartsWith new c.args.out.now.items)
    (λ h. longer_front new c.args.out.now.items (decimal c.args.at) c.push_decimal.new.out.items c.in_ok-push_decimal.ensures.ok
    (longer_front new c.push_decimal.new.out.items words c.push_event.new.out.items c.in_ok-push_event.ensures.ok h))
    c.push_reply.ensures.err
