-- The lines that a script answers. (This project's own choice.)
use Rattle.std.specs.Prelude.{◌≡◌, ℕ, List, [], ◌∷◌, ◌++◌, flat_map, codes, decimal}
use Rattle.line_protocol.specs.Answers.{Answer, refusal}
use Rattle.line_protocol.specs.declared.answers.LineReply.{LineReply}
use Rattle.line_protocol.specs.declared.answers.LineReply.TheVariants as line_reply
use Rattle.netchange_core.specs.Codes as netchange
use Rattle.netchange_core.specs.declared.message.Message.{Message}
use Rattle.netchange_core.specs.declared.reply.Reply.{Reply}
use Rattle.netchange_core.specs.declared.reply.Reply.TheVariants as reply
use Rattle.netchange_core.specs.declared.reply.Via.{Via}
use Rattle.netchange_core.specs.declared.reply.Via.TheVariants as via

abbrev pub answered : List ℕ → Answer
answered words = record { text = words ++ 10 ∷ []; reply = line_reply.Answered }

abbrev pub refused : List ℕ → ℕ → Answer
refused code at = record { text = refusal code at; reply = line_reply.Refused }

-- through whom a route goes
abbrev pub via_text : Via → List ℕ
via_text via.Local = codes " local"
via_text (via.Node w) = codes " via " ++ decimal w
via_text via.Nowhere = codes " none"

-- a node and a number that is told of it
abbrev pub pair_text : ℕ → ℕ → List ℕ
pair_text node number = 32 ∷ decimal node ++ 58 ∷ decimal number

abbrev pub message_text : Message → List ℕ
message_text m = pair_text m.dest m.dist

-- the answer to an event, from the reply to it and its position in the journal
abbrev pub reply_answer : ℕ → Reply → Answer
reply_answer at (reply.Opened session) = answered (codes "opened " ++ decimal session)
reply_answer at (reply.Done changed) = answered (codes "done " ++ decimal changed)
reply_answer at (reply.Messages messages) = answered (codes "messages" ++ flat_map message_text messages)
reply_answer at (reply.Route dist through) = answered (codes "route " ++ decimal dist ++ via_text through)
reply_answer at (reply.Refused why) = refused (netchange.refusal_code why) at

-- an answer was added to what was written, and this is its reply
abbrev pub Adds : Answer → List ℕ → List ℕ → LineReply → Type 0
Adds answer before after reply = (after ≡ before ++ answer.text) × (reply ≡ answer.reply)

-- something was added to what was written, and with its reply it is such an answer
abbrev pub Answers : (Answer → Type 0) → List ℕ → List ℕ → LineReply → Type 0
Answers IsAnswer before after reply =
    (text : List ℕ) × (after ≡ before ++ text) × IsAnswer (record { text = text; reply = reply })
