use Rattle.std.proofs.Common.{◌≡◌, ◌++◌, flat_map, drop}
use Rattle.std.specs.Io.{StartsWith}
use Rattle.operator_cmds.specs.Replies.{message_text}
use Rattle.operator_cmds.proofs.reply.push_each.Given as goal

-- the messages so far were added, and those that are left will be
abbrev pub invariant-loop-message : goal.invariant-loop-message
invariant-loop-message l = record {
  added : l.out.items ++ flat_map message_text (drop l.message-index l.messages) ≡ l.fn.out.items ++ flat_map message_text l.messages;
  front : StartsWith l.out.items l.fn.out.items;
}
