use Rattle.std.proofs.Common.{◌≡◌, ◌++◌, ◌<◌, ℕ, drop, get_or, map}
use Rattle.std.specs.Io.{StartsWith}
use Rattle.history_lines.specs.Fits.{FitsMessage}
use Rattle.history_lines.specs.Text.{message_word, spaced}
use Rattle.history_lines.proofs.writing.push_messages.Given as goal

-- the messages so far were added and fit, and those that are left will be
abbrev pub invariant-loop-message : goal.invariant-loop-message
invariant-loop-message l = record {
  added : l.out.items ++ spaced (map message_word (drop l.message-index l.messages)) ≡
      l.fn.out.items ++ spaced (map message_word l.messages);
  fits : (k : ℕ) (d : _) → k < l.message-index → FitsMessage (get_or l.messages k d);
  front : StartsWith l.out.items l.fn.out.items;
}
