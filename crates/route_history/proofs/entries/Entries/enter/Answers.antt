-- The note stands behind all others, and its messages behind all messages.
use Rattle.std.proofs.Common.{◌≡◌, ◌∙◌, ap, subst, List, [], ◌∷◌, ◌++◌}
use Rattle.netchange_core.specs.Calls.{carried}
use Rattle.netchange_core.specs.declared.message.Message.{Message}
use Rattle.route_history.specs.Calls.{entry}
use Rattle.route_history.specs.Noted.{StandsIn, kept_entries, kept_reply}
use Rattle.route_history.specs.declared.entries.Note.{Note}
use Rattle.route_history.specs.declared.entry.Entry.{Entry}
use Rattle.route_history.proofs.Noting.{noted_entries}
use Rattle.route_history.proofs.entries.Entries.enter.Goals as goal

pub returns-clause-entered : goal.returns-clause-entered
returns-clause-entered c =
    let all = c.self.inside.messages.items in
    let notes = c.self.inside.notes.items in
    let reply = c.in_ok-reply.reply in
    let more = carried reply in
    let n : Note = record { event = c.args.event; reply = c.keep-kept.result } in
    let messages : c.keep-kept.new.messages.items ≡ all ++ more =
    c.keep-kept.ensures.messages ∙ ap (λ (ms : List Message). ms ++ more) c.make_room.ensures.messages in
    let items : c.push_reserved.new.self.items ≡ notes ++ n ∷ [] =
    c.push_reserved.ensures.items ∙ ap (λ (ns : List Note). ns ++ n ∷ []) c.make_room.ensures.notes in
    let stands = subst (λ (ms : List Message). StandsIn ms c.keep-kept.result) messages c.keep-kept.ensures.stands in
    let kept = subst (λ (ms : List Message). kept_reply ms c.keep-kept.result ≡ reply) messages c.keep-kept.ensures.kept in
    ap (λ (ms : List Message). kept_entries ms c.push_reserved.new.self.items) messages
    ∙ ap (λ (ns : List Note). kept_entries (all ++ more) ns) items
    ∙ noted_entries all more notes n c.self.invariant stands reply kept
    ∙ ap (λ (es : List Entry). es ++ entry c.args.event reply ∷ []) c.self.view_is
