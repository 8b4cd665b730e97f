-- Histories: lists of entries put together, and what holds along a legal one.
use Rattle.std.proofs.Common.{◌≡◌, ◌∙◌, sym, ap, subst, refl, ℕ, List, [], ◌∷◌, ◌++◌, append_assoc}
use Rattle.netchange_core.specs.Next.{next}
use Rattle.netchange_core.specs.OpeningView.{OpeningView}
use Rattle.netchange_core.specs.World.{World}
use Rattle.route_history.specs.declared.entry.Entry.{Entry}
use Rattle.route_history.specs.Beginning.{Begins}
use Rattle.route_history.specs.History.{IsLegal, IsLegalFrom, world_after}
use Rattle.route_history.specs.Sent.{queued_by, sent_from, taken, taken_by}

pub after_append : (w : World) (es more : List Entry) → world_after w (es ++ more) ≡ world_after (world_after w es) more
after_append w [] more = refl
after_append w (e ∷ es) more = after_append (next w e.event).world es more

pub legal_append : (w : World) (es more : List Entry) → IsLegalFrom w (es ++ more) →
    IsLegalFrom w es × IsLegalFrom (world_after w es) more
legal_append w [] more h = (tt, h)
legal_append w (e ∷ es) more h =
    let both = legal_append (next w e.event).world es more h.1 in
    ((h.0, both.0), both.1)

pub legal_both : (w : World) (es more : List Entry) → IsLegalFrom w es → IsLegalFrom (world_after w es) more → IsLegalFrom w (es ++ more)
legal_both w [] more h g = g
legal_both w (e ∷ es) more h g = (h.0, legal_both (next w e.event).world es more h.1 g)

pub sent_append : (w : World) (es more : List Entry) (s : ℕ) →
    sent_from w (es ++ more) s ≡ sent_from w es s ++ sent_from (world_after w es) more s
sent_append w [] more s = refl
sent_append w (e ∷ es) more s =
    ap (λ m. queued_by w s e.event ++ m) (sent_append (next w e.event).world es more s)
    ∙ sym (append_assoc (queued_by w s e.event) (sent_from (next w e.event).world es s) (sent_from (world_after (next w e.event).world es) more s))

pub taken_append : (es more : List Entry) (s : ℕ) → taken (es ++ more) s ≡ taken es s ++ taken more s
taken_append [] more s = refl
taken_append (e ∷ es) more s =
    ap (λ m. taken_by s e ++ m) (taken_append es more s) ∙ sym (append_assoc (taken_by s e) (taken es s) (taken more s))

-- a beginning of a legal history is legal
pub legal_begins : (opening : OpeningView) (es fs : List Entry) → Begins es fs → IsLegal opening fs → IsLegal opening es
legal_begins opening es fs begins legal =
    (legal_append _ es begins.rest (subst (λ xs. IsLegal opening xs) begins.is legal)).0

tail_of : {A : Type 0} (x : A) (xs ys : List A) → Begins xs ys → Begins (x ∷ xs) (x ∷ ys)
tail_of x xs ys h = record { rest = h.rest; is = ap (λ zs. x ∷ zs) h.is }
