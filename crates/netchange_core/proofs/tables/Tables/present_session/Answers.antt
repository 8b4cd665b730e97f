use Rattle.std.proofs.Common.{◌≡◌, ◌<◌, List, get_or, length, map, ap, subst, ◌∙◌}
use Rattle.netchange_core.specs.declared.neighbour.Neighbour.{Neighbour}
use Rattle.netchange_core.specs.Kept.{view_of}
use Rattle.netchange_core.proofs.Presence.{session_numbered}
use Rattle.netchange_core.proofs.Views.{view_at}
use Rattle.netchange_core.proofs.tables.Tables.present_session.Goals as goal

pub returns-clause-numbered : goal.returns-clause-numbered
returns-clause-numbered c =
    let sessions = c.self.inside.state.sessions in
    let ns = c.self.inside.state.neighbours.items in
    let k = c.from.result in
    let n = c.in_ok-get.field-0.now in
    let there = c.in_ok-get.ensures.lookup in
    let short : k < length ns = subst (λ (ms : List Neighbour). k < length ms) c.deref.ensures.value there.3.0 in
    let is : n ≡ get_or ns k n = there.1 ∙ ap (λ (ms : List Neighbour). get_or ms k n) c.deref.ensures.value in
    session_numbered sessions.count (map view_of ns) sessions.present.items k n.session c.self.invariant.present
    (ap (λ (m : Neighbour). m.session) is ∙ ap (λ m. m.session) (view_at ns k n short))
