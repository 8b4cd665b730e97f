-- When a new segment begins.
use Rattle.std.proofs.Common.{◌≡◌, ◌∙◌, ◌⊎◌, inl, inr, sym, ap, refl, subst, ℕ, ◌+◌, ◌≤◌, ◌<◌, max, min, length, Option, Some, None, arith}
use Rattle.std.specs.Prelude.{IfSome}
use Rattle.std.specs.declared.alloc.Global.{Global}
use Rattle.std.specs.declared.vec.Vec.{Vec}
use Rattle.history_saver.specs.declared.portion.Portion.{Portion}
use Rattle.history_saver.specs.Portions.{IsLeftOut, IsPortion}
use Rattle.history_saver.specs.Segments.{SegmentsView}
use Rattle.history_saver.specs.Steps.{BeginsDue, BeginsWith, IsAsPlanned, IsRoom, IsRotated, entries_each}
use Rattle.route_history.specs.JournalView.{JournalView}

-- one turn after another
pub due_both : (a b c : SegmentsView) → IsAsPlanned a b → BeginsDue a b → BeginsDue b c → BeginsDue a c
due_both a b c plan (inl x) (inl y) = inl (y ∙ x)
due_both a b c plan (inl x) (inr y) = let every = plan.every in inr (omega (arith, x, y, every))
due_both a b c plan (inr x) (inl y) = inr (omega (arith, x, y))
due_both a b c plan (inr x) (inr y) = inr (omega (arith, x, y))

-- what is so of the state that was read, by the names of the call
module _ (j : JournalView) (old new : SegmentsView) (portion : Portion) (o : Option (Vec ℕ Global)) (read begun every : ℕ)
    (to : portion.to ≡ new.read) (is : o ≡ portion.state) (at : begun ≡ old.begun) (count : every ≡ entries_each old)
    (h : IsPortion j read begun every portion) where
  some_due : (x : Option (Vec ℕ Global)) → IfSome x (λ _. begun + every ≤ portion.to) → IfSome x (λ _. old.begun + entries_each old ≤ new.read)
  some_due None d = tt
  some_due (Some bytes) d = omega (arith, d, to, at, count)

  pub due_of : IfSome o (λ _. old.begun + entries_each old ≤ new.read)
  due_of = some_due o (subst (λ (x : Option (Vec ℕ Global)). IfSome x (λ _. begun + every ≤ portion.to)) (sym is) h.due)

  pub left_out_of : IsLeftOut j old.begun (entries_each old) new.read o
  left_out_of none whole room = let few = h.left_out (sym is ∙ none) (to ∙ whole) room in omega (arith, few, to, at, count)

-- what is begun with a state that was due, begins behind enough entries
pub begins_due : (old mid new : SegmentsView) (o : Option (Vec ℕ Global)) → old.begun ≡ mid.begun → IsAsPlanned old mid →
    IfSome o (λ _. old.begun + entries_each old ≤ mid.saved) → BeginsWith o mid new → BeginsDue old new
begins_due old mid new None same plan due begins = inl (begins ∙ sym same)
begins_due old mid new (Some bytes) same plan due (inl still) = inl (still ∙ sym same)
begins_due old mid new (Some bytes) same plan due (inr at) = inr (omega (arith, due, at))

-- what is saved up to the end of the history leaves no segment due
pub rotated_by : (j : JournalView) (old mid new : SegmentsView) (o : Option (Vec ℕ Global)) → old.begun ≡ mid.begun → IsAsPlanned old mid →
    IsAsPlanned mid new → new.saved ≡ mid.saved → mid.saved ≡ length j.entries → IsRoom j.limit →
    IsLeftOut j old.begun (entries_each old) mid.saved o → BeginsWith o mid new → IfSome o (λ _. new.begun ≡ mid.saved) → IsRotated new
rotated_by j old mid new None same plan on saved whole room left begins at =
    let few = left refl whole room in
    let one = plan.every in
    let two = on.every in omega (arith, few, one, two, begins, same, saved)
rotated_by j old mid new (Some bytes) same plan on saved whole room left begins at = omega (arith, at, saved)
