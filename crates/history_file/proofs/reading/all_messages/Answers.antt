use Rattle.std.proofs.Common.{sym, ap, ◌∙◌}
use Rattle.line_protocol.specs.Words.{words}
use Rattle.history_file.proofs.Turns.{after, message_bad, message_more, messages_end}
use Rattle.history_file.specs.Reading.{all_messages}
use Rattle.history_file.proofs.reading.all_messages.Goals as goal

pub returns-in_default-read_message : goal.returns-in_default-read_message
returns-in_default-read_message c =
    let xs = c.loop-word.messages.items in
    message_bad (all_messages (words c.args.line.now)) xs c.in-Some.word.now (words c.in-Some.later.now)
    (c.loop-word.invariant ∙ ap (λ ws. after xs (all_messages ws)) c.in-Some.ensures.found) (sym c.in_default-read_message.ensures)

pub loop-word-preserved : goal.loop-word-preserved
loop-word-preserved c =
    let xs = c.loop-word.messages.items in
    rw c.in_ok-push.ensures.items
    (message_more (all_messages (words c.args.line.now)) xs c.in-Some-read_message.message c.in-Some.word.now (words c.in-Some.later.now)
    (c.loop-word.invariant ∙ ap (λ ws. after xs (all_messages ws)) c.in-Some.ensures.found) (sym c.in-Some-read_message.ensures))

pub returns : goal.returns
returns c = messages_end (all_messages (words c.args.line.now)) c.loop-word.messages.items (words c.loop-word.rest.now) c.loop-word.invariant
    c.in_default.ensures.none
