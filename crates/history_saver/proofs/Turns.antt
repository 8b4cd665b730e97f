-- One turn of saving: what is read, and the state after it.
use Rattle.std.proofs.Common.{◌≡◌, ◌∙◌, sym, ap, subst, ℕ, ◌+◌, ◌≤◌, ◌<◌, List, [], ◌++◌, max, min, length, Option, Some, None, arith}
use Rattle.std.specs.Prelude.{IfSome}
use Rattle.std.specs.declared.alloc.Global.{Global}
use Rattle.std.specs.declared.vec.Vec.{Vec}
use Rattle.history_saver.specs.declared.portion.Portion.{Portion}
use Rattle.history_saver.specs.Adding.{next_count}
use Rattle.history_saver.specs.Portions.{IsEndState, IsPortion}
use Rattle.history_saver.specs.Looking.{seen_by}
use Rattle.history_saver.specs.Segments.{HasSegments, SegmentsView}
use Rattle.history_saver.specs.Steps.{IsStateAt, SavesNext}
use Rattle.history_saver.proofs.Chains.{end_state, has_read, has_still}
use Rattle.route_history.specs.declared.entry.Entry.{Entry}
use Rattle.route_history.specs.Beginning.{Begins}
use Rattle.route_history.specs.JournalView.{JournalView}
use Rattle.slot_lock.specs.Passes.{PassView, RouterView}

module _ (r : RouterView) (old new : PassView) (b : Begins old.fragment.seen new.fragment.seen) (s : SegmentsView)
    (h : HasSegments s (seen_by r old)) where
  pub still_has : HasSegments s (seen_by r new)
  still_has = has_still (seen_by r old) new.fragment.seen b s h

  pub reads_on : (p : Portion) (begun every : ℕ) → s.rest ≡ [] → IsPortion (seen_by r new) s.read begun every p →
      HasSegments (record s { read = p.to; rest = p.lines.items }) (seen_by r new)
  reads_on p begun every none is =
      let within = still_has.within in
      let count = is.count in
      has_read s (seen_by r new) p.to p.lines.items p.lines.items (omega (arith, count)) (omega (arith, count, within)) is.lines.text is.lines.each
      (sym (ap (λ (l : List ℕ). l ++ p.lines.items) none)) still_has

-- the state that was read is that after as many entries as were read
pub state_at : (j : JournalView) (to : ℕ) (state : Option (Vec ℕ Global)) → IfSome state (λ bytes. IsEndState j to bytes.items) →
    IfSome state (λ bytes. IsStateAt j to bytes.items)
state_at j to None h = tt
state_at j to (Some bytes) h = end_state j to bytes.items h.whole h.is_state

-- and the same number by another name
pub state_as : (j : JournalView) (n to : ℕ) (state : Option (Vec ℕ Global)) → n ≡ to → IfSome state (λ bytes. IsStateAt j n bytes.items) →
    IfSome state (λ bytes. IsStateAt j to bytes.items)
state_as j n to state same h = subst (λ (k : ℕ). IfSome state (λ bytes. IsStateAt j k bytes.items)) same h

-- what the reader has is the portion behind what the saver has read
pub shown : (r : RouterView) (old new : PassView) (s t : SegmentsView) (begun every : ℕ) (o : Option Portion) (portion : Portion) → t ≡ s →
    (new.fragment.forgot ≤ t.read → IfSome o (IsPortion (seen_by r new) t.read begun every)) → new.fragment.forgot ≡ old.fragment.forgot →
    old.fragment.forgot ≤ s.saved → s.saved ≡ s.read → o ≡ Some portion → IsPortion (seen_by r new) s.read begun every portion
shown r old new s t begun every o portion same saw exact missed all is =
    let read = ap (λ (v : SegmentsView). v.read) same in
    subst (λ (n : ℕ). IsPortion (seen_by r new) n begun every portion) read
    (subst (λ (x : Option Portion). IfSome x (IsPortion (seen_by r new) t.read begun every)) is (saw (omega (arith, exact, missed, all, read))))

-- the state, by the names that the call gave what it handed out
pub state_of : (r : RouterView) (p : PassView) (s : SegmentsView) (portion : Portion) (o : Option (Vec ℕ Global)) → portion.to ≡ s.read →
    o ≡ portion.state → (read begun every : ℕ) → IsPortion (seen_by r p) read begun every portion →
    IfSome o (λ bytes. IsStateAt (seen_by r p) s.read bytes.items)
state_of r p s portion o same is read begun every h =
    subst (λ (x : Option (Vec ℕ Global)). IfSome x (λ bytes. IsStateAt (seen_by r p) s.read bytes.items)) (sym is)
    (state_as (seen_by r p) portion.to s.read portion.state same (state_at (seen_by r p) portion.to portion.state h.ended))
