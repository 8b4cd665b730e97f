-- One more entry in a journal.
use Rattle.std.proofs.Common.{◌≡◌, ◌∙◌, sym, ap, subst, ℕ, ◌<◌, List, [], ◌∷◌, ◌++◌, length, length-append, arith}
use Rattle.netchange_core.specs.declared.event.Event.{Event}
use Rattle.netchange_core.specs.declared.reply.Reply.{Reply}
use Rattle.netchange_core.specs.Calls.{opened}
use Rattle.netchange_core.specs.Next.{Answered, answered, next}
use Rattle.netchange_core.specs.OpeningView.{OpeningView}
use Rattle.netchange_core.specs.World.{World}
use Rattle.route_history.specs.declared.entry.Entry.{Entry}
use Rattle.route_history.specs.Calls.{entry}
use Rattle.route_history.specs.History.{IsLegal, world_of}
use Rattle.route_history.specs.Recorded.{IsRecorded}
use Rattle.route_history.proofs.Histories.{after_append, legal_both}

module _ (opening : OpeningView) (es : List Entry) (w v : World) (event : Event) (reply kept : Reply)
    (is : w ≡ world_of opening es) (done : next w event ≡ answered v reply) (same : kept ≡ reply) where
  pub legal_more : IsLegal opening es → IsLegal opening (es ++ entry event kept ∷ [])
  legal_more legal =
      let replied = sym (ap (λ (u : World). (next u event).reply) is) ∙ ap (λ (a : Answered). a.reply) done ∙ sym same in
      legal_both (opened opening) es (entry event kept ∷ []) legal (replied, tt)

  pub world_more : v ≡ world_of opening (es ++ entry event kept ∷ [])
  world_more = sym (ap (λ (a : Answered). a.world) done) ∙ ap (λ (u : World). (next u event).world) is
      ∙ sym (after_append (opened opening) es (entry event kept ∷ []))

-- the tables took one more event, and it was entered
pub recorded_more : (w v : World) (limit : ℕ) (es : List Entry) (event : Event) (reply kept : Reply) → IsRecorded w limit es →
    next w event ≡ answered v reply → kept ≡ reply → length es < limit → v.opening ≡ w.opening →
    IsRecorded v limit (es ++ entry event kept ∷ [])
recorded_more w v limit es event reply kept so_far done same room stays = record {
  legal = subst (λ o. IsLegal o (es ++ entry event kept ∷ [])) (sym stays)
      (legal_more w.opening es w v event reply kept so_far.recorded done same so_far.legal);
  recorded = subst (λ o. v ≡ world_of o (es ++ entry event kept ∷ [])) (sym stays)
      (world_more w.opening es w v event reply kept so_far.recorded done same);
  room = omega (arith, length-append es (entry event kept ∷ []));
}
