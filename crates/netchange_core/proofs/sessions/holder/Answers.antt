use Rattle.std.proofs.Common.{Some, ap, sym, ◌∙◌}
use Rattle.netchange_core.proofs.Presence.{listed_holds, unlisted}
use Rattle.netchange_core.proofs.sessions.holder.Goals as goal

pub returns-in_err-index : goal.returns-in_err-index
returns-in_err-index c = λ ns are.
    let absent = rw c.deref.ensures.value at c.in_err-index.ensures.absent in
    c.from_residual.ensures
    ∙ sym (unlisted c.args.sessions.now.count ns c.args.sessions.now.present.items are c.args.session absent)

pub returns : goal.returns
returns c = λ ns are.
    let found = rw c.deref.ensures.value at c.in_ok-index.ensures.found in
    let d = c.index.result.now in
    ap Some (c.from.ensures ∙ ap (λ p. p.node) c.index.ensures)
    ∙ sym (listed_holds c.args.sessions.now.count ns c.args.sessions.now.present.items are c.args.session c.in_ok-index.index d
    found.0 (found.1 d))
