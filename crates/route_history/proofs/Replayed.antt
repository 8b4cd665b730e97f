-- The steps of a replay.
use Rattle.std.proofs.Common.{◌≡◌, ◌∙◌, sym, ap, subst, ℕ, ◌+◌, ◌<◌, List, [], ◌∷◌, ◌++◌, length, take, get_or}
use Rattle.std.proofs.lemmas.List.{get_or_default, take_more}
use Rattle.netchange_core.specs.declared.reply.Reply.{Reply}
use Rattle.netchange_core.specs.Next.{Answered, answered, next}
use Rattle.netchange_core.specs.OpeningView.{OpeningView}
use Rattle.netchange_core.specs.World.{World}
use Rattle.route_history.specs.declared.entry.Entry.{Entry}
use Rattle.route_history.specs.History.{IsFirstWrong, IsLegal, world_of}
use Rattle.route_history.proofs.Recording.{legal_more, world_more}

module _ (opening : OpeningView) (es : List Entry) (k : ℕ) (w v : World) (e : Entry) (reply : Reply)
    (here : k < length es) (at : e ≡ get_or es k e) (is : w ≡ world_of opening (take k es))
    (legal : IsLegal opening (take k es)) (done : next w e.event ≡ answered v reply) where
  one_more : take (k + 1) es ≡ take k es ++ e ∷ []
  one_more = take_more es k e here ∙ ap (λ x. take k es ++ x ∷ []) (sym at)

  found : (d : Entry) → e ≡ get_or es k d
  found d = at ∙ get_or_default es k e d here

  pub goes_on : reply ≡ e.reply → IsLegal opening (take (k + 1) es) × (v ≡ world_of opening (take (k + 1) es))
  goes_on same = (
    subst (λ (xs : List Entry). IsLegal opening xs) (sym one_more)
        (legal_more opening (take k es) w v e.event reply e.reply is done (sym same) legal),
    world_more opening (take k es) w v e.event reply e.reply is done (sym same)
        ∙ ap (world_of opening) (sym one_more),
  )

  pub is_wrong : (reply ≡ e.reply → ⊥) → IsFirstWrong opening es k
  is_wrong differs = record {
    within = here;
    legal = legal;
    wrong = λ d same.
        differs (sym (ap (λ (a : Answered). a.reply) done) ∙ ap (λ (u : World). (next u e.event).reply) is
        ∙ ap (λ (x : Entry). (next (world_of opening (take k es)) x.event).reply) (found d) ∙ same
        ∙ ap (λ (x : Entry). x.reply) (sym (found d)));
  }
