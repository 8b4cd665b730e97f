-- One neighbour in the lists that an event makes.
use Rattle.std.proofs.Common.{◌≡◌, ◌∙◌, sym, ap, refl, ℕ, zero, suc, ◌==◌, true, false, inl, inr, if◌then◌else◌}
use Rattle.std.proofs.Common.{Option, List, [], ◌∷◌, ◌++◌, map, length, append_assoc, append-nil}
use Rattle.std.proofs.lemmas.List.{length-map}
use Rattle.std.proofs.lemmas.Bool.{cases_Bool}
use Rattle.filter_verifier.specs.VerifiedView.{VerifiedView}
use Rattle.netchange_core.specs.declared.message.Message.{Message}
use Rattle.netchange_core.specs.Next.{message_of, tell, tell_changes}
use Rattle.netchange_core.specs.OpeningView.{OpeningView}
use Rattle.netchange_core.specs.World.{NeighbourView, change, is_up, neighbour_at, nobody}
use Rattle.netchange_core.proofs.Queued.{map_told}
use Rattle.route_history.specs.Sent.{news}

pub at_map : (g : NeighbourView → NeighbourView) → g nobody ≡ nobody → (ns : List NeighbourView) (k : ℕ) →
    neighbour_at (map g ns) k ≡ g (neighbour_at ns k)
at_map g e [] k = sym e
at_map g e (n ∷ ns) zero = refl
at_map g e (n ∷ ns) (suc k) = at_map g e ns k

pub at_another : (f : NeighbourView → NeighbourView) (ns : List NeighbourView) (k j : ℕ) → (j ≡ k → ⊥) →
    neighbour_at (change k f ns) j ≡ neighbour_at ns j
at_another f [] k j h = refl
at_another f (n ∷ ns) zero zero h = absurd (h refl)
at_another f (n ∷ ns) zero (suc j) h = refl
at_another f (n ∷ ns) (suc k) zero h = refl
at_another f (n ∷ ns) (suc k) (suc j) h = at_another f ns k j (λ e. h (ap suc e))

pub change_length : (f : NeighbourView → NeighbourView) (ns : List NeighbourView) (k : ℕ) → length (change k f ns) ≡ length ns
change_length f [] k = refl
change_length f (n ∷ ns) zero = refl
change_length f (n ∷ ns) (suc k) = ap suc (change_length f ns k)

-- a neighbour with more in its queue
abbrev pub waiting : NeighbourView → List Message → NeighbourView
waiting p m = record p { queue = p.queue ++ m }

-- a neighbour after the changes below a node were told
abbrev pub notified : OpeningView → (ℕ → ℕ) → (ℕ → ℕ) → ℕ → NeighbourView → NeighbourView
notified o old new n p = if is_up p then waiting p (news o p.exports old new n) else p

pub up_notified : (o : OpeningView) (old new : ℕ → ℕ) (n : ℕ) (p : NeighbourView) → is_up p ≡ true →
    notified o old new n p ≡ waiting p (news o p.exports old new n)
up_notified o old new n p e = rw e refl

pub down_notified : (o : OpeningView) (old new : ℕ → ℕ) (n : ℕ) (p : NeighbourView) → is_up p ≡ false → notified o old new n p ≡ p
down_notified o old new n p e = rw e refl

notified_none : (o : OpeningView) (old new : ℕ → ℕ) (p : NeighbourView) → p ≡ notified o old new zero p
notified_none o old new p = elim (cases_Bool (is_up p)) [
  | inl e ↦ ap (λ q. record p { queue = q }) (sym (append-nil p.queue)) ∙ sym (up_notified o old new zero p e)
  | inr e ↦ sym (down_notified o old new zero p e)
]

tell_up : (o : OpeningView) (v d : ℕ) (p : NeighbourView) → is_up p ≡ true → tell o v d p ≡ waiting p (message_of o p.exports v d ∷ [])
tell_up o v d p e = rw e refl

tell_down : (o : OpeningView) (v d : ℕ) (p : NeighbourView) → is_up p ≡ false → tell o v d p ≡ p
tell_down o v d p e = rw e refl

same_news : (o : OpeningView) (old new : ℕ → ℕ) (v : ℕ) (p : NeighbourView) → (old v == new v) ≡ true →
    notified o old new v p ≡ notified o old new (suc v) p
same_news o old new v p e = rw e refl

other_news : (o : OpeningView) (exports : Option VerifiedView) (old new : ℕ → ℕ) (v : ℕ) → (old v == new v) ≡ false →
    news o exports old new v ++ message_of o exports v (new v) ∷ [] ≡ news o exports old new (suc v)
other_news o exports old new v e = rw e refl

more_news : (o : OpeningView) (old new : ℕ → ℕ) (v : ℕ) (p : NeighbourView) → (old v == new v) ≡ false →
    tell o v (new v) (notified o old new v p) ≡ notified o old new (suc v) p
more_news o old new v p e = elim (cases_Bool (is_up p)) [
  | inl up ↦ ap (tell o v (new v)) (up_notified o old new v p up)
      ∙ tell_up o v (new v) (waiting p (news o p.exports old new v)) up
      ∙ ap (λ q. record p { queue = q }) (append_assoc p.queue (news o p.exports old new v) (message_of o p.exports v (new v) ∷ []))
      ∙ ap (λ q. waiting p q) (other_news o p.exports old new v e)
      ∙ sym (up_notified o old new (suc v) p up)
  | inr down ↦ ap (tell o v (new v)) (down_notified o old new v p down)
      ∙ tell_down o v (new v) p down
      ∙ sym (down_notified o old new (suc v) p down)
]

told_same : (o : OpeningView) (old new : ℕ → ℕ) (v : ℕ) (ns : List NeighbourView) → (old v == new v) ≡ true →
    tell_changes o old new (suc v) ns ≡ tell_changes o old new v ns
told_same o old new v ns e = rw e refl

told_more : (o : OpeningView) (old new : ℕ → ℕ) (v : ℕ) (ns : List NeighbourView) → (old v == new v) ≡ false →
    tell_changes o old new (suc v) ns ≡ map (tell o v (new v)) (tell_changes o old new v ns)
told_more o old new v ns e = rw e refl

-- what is told to all is what each neighbour is notified of
pub told_at : (o : OpeningView) (old new : ℕ → ℕ) (n : ℕ) (ns : List NeighbourView) (k : ℕ) →
    neighbour_at (tell_changes o old new n ns) k ≡ notified o old new n (neighbour_at ns k)
told_at o old new zero ns k = notified_none o old new (neighbour_at ns k)
told_at o old new (suc v) ns k = elim (cases_Bool (old v == new v)) [
  | inl e ↦ ap (λ ms. neighbour_at ms k) (told_same o old new v ns e)
      ∙ told_at o old new v ns k ∙ same_news o old new v (neighbour_at ns k) e
  | inr e ↦ ap (λ ms. neighbour_at ms k) (told_more o old new v ns e)
      ∙ at_map (tell o v (new v)) refl (tell_changes o old new v ns) k
      ∙ ap (tell o v (new v)) (told_at o old new v ns k)
      ∙ more_news o old new v (neighbour_at ns k) e
]

pub notified_session : (o : OpeningView) (old new : ℕ → ℕ) (n : ℕ) (p : NeighbourView) → (notified o old new n p).session ≡ p.session
notified_session o old new n p = elim (cases_Bool (is_up p)) [
  | inl e ↦ ap (λ (q : NeighbourView). q.session) (up_notified o old new n p e)
  | inr e ↦ ap (λ (q : NeighbourView). q.session) (down_notified o old new n p e)
]

pub notified_exports : (o : OpeningView) (old new : ℕ → ℕ) (n : ℕ) (p : NeighbourView) → (notified o old new n p).exports ≡ p.exports
notified_exports o old new n p = elim (cases_Bool (is_up p)) [
  | inl e ↦ ap (λ (q : NeighbourView). q.exports) (up_notified o old new n p e)
  | inr e ↦ ap (λ (q : NeighbourView). q.exports) (down_notified o old new n p e)
]

pub length_told : (o : OpeningView) (old new : ℕ → ℕ) (n : ℕ) (ns : List NeighbourView) → length (tell_changes o old new n ns) ≡ length ns
length_told o old new n ns =
    sym (length-map (tell_changes o old new n ns) (λ (p : NeighbourView). p.session))
    ∙ ap length (map_told (λ (p : NeighbourView). p.session) o old new (λ p m. refl) n ns)
    ∙ length-map ns (λ (p : NeighbourView). p.session)
