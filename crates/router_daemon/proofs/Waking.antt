-- Once each writer that is to be woken was, none is left.
use Rattle.std.proofs.Common.{◌≡◌, ◌∙◌, sym, ap, refl, ℕ, zero, suc, ◌+◌, ◌<◌, true, false, Bool, inl, inr, if◌then◌else◌}
use Rattle.std.proofs.Common.{Option, Some, None, List, [], ◌∷◌, length, arith, slice_set}
use Rattle.std.specs.Prelude.{slice_get}
use Rattle.std.proofs.lemmas.Bool.{cases_eq}
use Rattle.std.proofs.lemmas.List.{length-set}
use Rattle.std.proofs.lemmas.Option.{slice_get_within}
use Rattle.router_daemon.specs.declared.link_state.LinkState.{LinkState}
use Rattle.router_daemon.specs.StatesView.{AllAwakeBelow, At, LinkStatesView, WakesAt, oversleeps_in}
use Rattle.router_daemon.specs.Steps.{Wakes, is_woken}

set_here : (ls : List LinkState) (i : ℕ) (l : LinkState) → i < length ls → slice_get (slice_set ls i l) i ≡ Some l
set_here [] i l within = absurd (omega (arith, within))
set_here (k ∷ ls) zero l within = refl
set_here (k ∷ ls) (suc i) l within = set_here ls i l (omega (arith, within))

set_elsewhere : (ls : List LinkState) (i j : ℕ) (l : LinkState) → (j ≡ i → ⊥) → slice_get (slice_set ls i l) j ≡ slice_get ls j
set_elsewhere [] i j l other = refl
set_elsewhere (k ∷ ls) zero zero l other = absurd (other refl)
set_elsewhere (k ∷ ls) zero (suc j) l other = refl
set_elsewhere (k ∷ ls) (suc i) zero l other = refl
set_elsewhere (k ∷ ls) (suc i) (suc j) l other = set_elsewhere ls i j l (λ e. other (ap suc e))

-- a writer that was woken, or was not to be, is not to be woken
no_more : (changed : ℕ) (l : LinkState) (b : Bool) → is_woken changed l ≡ b →
    is_woken changed (record l { is_asleep = if b then false else l.is_asleep }) ≡ false
no_more changed l true is = refl
no_more changed l false is = is

by_link : (index : ℕ) (old new : LinkStatesView) (woken : Bool) (o : Option LinkState) → slice_get old.links index ≡ o →
    At (Wakes old.changed) index o old woken new → AllAwakeBelow index old →
    AllAwakeBelow (index + 1) new × (length new.links ≡ length old.links)
by_link index old new woken None is (not_woken, same) below = (
  (λ i within. elim (cases_eq i index) [
    | inl here ↦ ap (λ (b : LinkStatesView). oversleeps_in b.changed (slice_get b.links i)) same
        ∙ ap (λ n. oversleeps_in old.changed (slice_get old.links n)) here ∙ ap (oversleeps_in old.changed) is
    | inr other ↦ ap (λ (b : LinkStatesView). oversleeps_in b.changed (slice_get b.links i)) same ∙ below i (omega (arith, within, other))
  ]),
  ap (λ (b : LinkStatesView). length b.links) same,
)
by_link index old new woken (Some l) is (m, (woken_is, m_is), same) below = (
  (λ i within. elim (cases_eq i index) [
    | inl here ↦ ap (λ (b : LinkStatesView). oversleeps_in b.changed (slice_get b.links i)) same
        ∙ ap (λ n. oversleeps_in old.changed (slice_get (slice_set old.links index m) n)) here
        ∙ ap (oversleeps_in old.changed) (set_here old.links index m (slice_get_within old.links index l is))
        ∙ ap (is_woken old.changed) m_is ∙ no_more old.changed l (is_woken old.changed l) refl
    | inr other ↦ ap (λ (b : LinkStatesView). oversleeps_in b.changed (slice_get b.links i)) same
        ∙ ap (oversleeps_in old.changed) (set_elsewhere old.links index i m other) ∙ below i (omega (arith, within, other))
  ]),
  ap (λ (b : LinkStatesView). length b.links) same ∙ length-set old.links index m,
)

pub wakes_next : (index : ℕ) (old new : LinkStatesView) (woken : Bool) → WakesAt index old woken new → AllAwakeBelow index old →
    AllAwakeBelow (index + 1) new × (length new.links ≡ length old.links)
wakes_next index old new woken h below = by_link index old new woken (slice_get old.links index) refl h below
