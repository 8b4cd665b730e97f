use Rattle.std.proofs.Common.{rules}
use Rattle.std.proofs.lemmas.List.Sorted.{answers_always}
use Rattle.netchange_core.proofs.Presence.{searched}
use Rattle.netchange_core.proofs.sessions.search.Goals as goal

-- the closure gives a session's number
pub returns : goal.returns
returns c =
    let facts = c.binary_search_by_key.ensures in
    let by_key = facts.position (λ p. p.session) (answers_always _ _ _ (λ f a r g called. search rules)) in
    let found = searched c.args.present.now c.requires c.args.session c.binary_search_by_key.result facts.bound by_key in
    rw c.ok.ensures.value (record { found = found.0; absent = found.1 })
