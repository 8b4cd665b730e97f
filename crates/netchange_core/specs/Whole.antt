-- What a reply stands for whose messages stand somewhere else.
use Rattle.netchange_core.specs.declared.reply.Reply.{Reply}
use Rattle.netchange_core.specs.declared.reply.Reply.TheVariants as reply
use Rattle.netchange_core.specs.declared.reply.ReplyRef.{ReplyRef}
use Rattle.netchange_core.specs.declared.reply.ReplyRef.TheVariants as shown

-- the reply, with its messages
abbrev pub whole_reply : ReplyRef → Reply
whole_reply (shown.Opened session) = reply.Opened session
whole_reply (shown.Done changed) = reply.Done changed
whole_reply (shown.Messages messages) = reply.Messages messages.now
whole_reply (shown.Route dist via) = reply.Route dist via
whole_reply (shown.Refused why) = reply.Refused why
