use Rattle.std.proofs.Common.{Ok, Err, length, rules}
use Rattle.std.specs.List.Sorted.{IsBinarySearchResult, IsSearchInRange}
use Rattle.std.specs.Ordering.{nat_cmp}
use Rattle.std.proofs.lemmas.List.Sorted.{answers_always}
use Rattle.netchange_core.proofs.Presence.{place, searched}
use Rattle.netchange_core.proofs.sessions.insert.Goals as goal

-- the closure gives a session's number
pub returns-in-Ok : goal.returns-in-Ok
returns-in-Ok c =
    let s = c.args.session in
    let by_key = c.in-Ok.ensures.position (λ p. p.session) (answers_always _ _ _ (λ f a r g called. search rules)) in
    let there : IsBinarySearchResult (λ p. nat_cmp p.session s) c.args.others.now.items (Ok c.in-Ok.field-0) =
    rw c.deref.ensures.value at by_key in
    let bound : IsSearchInRange (Ok c.in-Ok.field-0) (length c.args.others.now.items) = rw c.deref.ensures.value at c.in-Ok.ensures.bound in
    let found = searched c.args.others.now.items c.requires s (Ok c.in-Ok.field-0) bound there in
    (c.in-Ok.field-0, found.0.0, found.0.1)

pub returns-in_ok-insert-in-Err : goal.returns-in_ok-insert-in-Err
returns-in_ok-insert-in-Err c =
    let s = c.args.session in
    let by_key = c.in-Err.ensures.position (λ p. p.session) (answers_always _ _ _ (λ f a r g called. search rules)) in
    let there : IsBinarySearchResult (λ p. nat_cmp p.session s) c.args.others.now.items (Err c.in-Err.at) =
    rw c.deref.ensures.value at by_key in
    let bound : IsSearchInRange (Err c.in-Err.at) (length c.args.others.now.items) = rw c.deref.ensures.value at c.in-Err.ensures.bound in
    let found = place c.args.others.now.items c.requires s c.in-Err.at bound there in
    record {
      at = c.in-Err.at;
      within = found.0;
      below = found.1;
      above = found.2;
      is = c.in_ok-insert-in-Err.ensures.items;
    }
