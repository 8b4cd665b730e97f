use Rattle.std.proofs.Common.{◌≡◌, length}
use Rattle.line_protocol.specs.Words.{words}
use Rattle.history_file.proofs.Turns.{after}
use Rattle.history_file.specs.Reading.{all_messages}
use Rattle.history_file.proofs.reading.all_messages.Given as goal

-- the messages so far and those of the words that are left are all
abbrev pub invariant-loop-word : goal.invariant-loop-word
invariant-loop-word l = all_messages (words l.line) ≡ after l.messages.items (all_messages (words l.rest))

abbrev pub decreases-loop-word : goal.decreases-loop-word
decreases-loop-word l = length (words l.rest)
