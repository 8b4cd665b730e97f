-- The reply to a Take is at most as long as was asked for.
use Rattle.std.proofs.Common.{subst, ℕ, zero, suc, ◌<◌, ◌≤◌, Option, Some, None, List, [], ◌∷◌, length, arith}
use Rattle.std.proofs.lemmas.List.{length-take}
use Rattle.std.specs.Prelude.{slice_index_or}
use Rattle.netchange_core.specs.declared.event.Event.{Event}
use Rattle.netchange_core.specs.declared.event.Event.TheVariants as event
use Rattle.netchange_core.specs.Calls.{carried}
use Rattle.netchange_core.specs.Next.{next, take_from}
use Rattle.netchange_core.specs.World.{World, holder, neighbour_at}
use Rattle.route_history.specs.declared.entry.Entry.{Entry}
use Rattle.route_history.specs.History.{IsLegalFrom}
use Rattle.route_history.specs.Laws.{IsWithinTake, TakesAtMost}

taken_at_most : (w : World) (o : Option ℕ) (max : ℕ) → length (carried (take_from w o max).reply) ≤ max
taken_at_most w None max = omega arith
taken_at_most w (Some k) max = omega (arith, length-take max (neighbour_at w.neighbours k).queue)

next_at_most : (w : World) (e : Event) → TakesAtMost e (carried (next w e).reply)
next_at_most w (event.Take s max) = taken_at_most w (holder w s) max
next_at_most w (event.Up k) = tt
next_at_most w (event.Down s) = tt
next_at_most w (event.Receive s v d) = tt
next_at_most w (event.SetImport k f) = tt
next_at_most w (event.SetExport k f) = tt
next_at_most w (event.Show v) = tt

pub within_takes : (w : World) (es : List Entry) → IsLegalFrom w es → (k : ℕ) (d : Entry) → k < length es → IsWithinTake (slice_index_or es k d)
within_takes w [] legal k d h = absurd (omega arith)
within_takes w (e ∷ es) legal zero d h =
    subst (λ r. TakesAtMost e.event (carried r)) legal.0 (next_at_most w e.event)
within_takes w (e ∷ es) legal (suc k) d h = within_takes (next w e.event).world es legal.1 k d (omega arith)
