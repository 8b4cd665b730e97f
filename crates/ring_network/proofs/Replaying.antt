-- No reply of a legal history is wrong.
use Rattle.std.proofs.Common.{◌≡◌, ℕ, zero, suc, ◌<◌, List, [], ◌∷◌, length, take, arith}
use Rattle.std.specs.Prelude.{slice_index_or}
use Rattle.netchange_core.specs.Calls.{opened}
use Rattle.netchange_core.specs.Next.{next}
use Rattle.netchange_core.specs.OpeningView.{OpeningView}
use Rattle.netchange_core.specs.World.{World}
use Rattle.route_history.specs.declared.entry.Entry.{Entry}
use Rattle.route_history.specs.History.{IsFirstWrong, IsLegal, IsLegalFrom, world_after}

right_at : (w : World) (es : List Entry) (k : ℕ) (d : Entry) → IsLegalFrom w es → k < length es →
    (next (world_after w (take k es)) (slice_index_or es k d).event).reply ≡ (slice_index_or es k d).reply
right_at w [] k d legal h = absurd (omega arith)
right_at w (e ∷ es) zero d legal h = legal.0
right_at w (e ∷ es) (suc k) d legal h = right_at (next w e.event).world es k d legal.1 (omega arith)

first_of : (es : List Entry) (k : ℕ) → k < length es → Entry
first_of [] k h = absurd (omega arith)
first_of (e ∷ es) k h = e

pub none_wrong : (opening : OpeningView) (es : List Entry) (k : ℕ) → IsLegal opening es → IsFirstWrong opening es k → ⊥
none_wrong opening es k legal w =
    let d = first_of es k w.within in w.wrong d (right_at (opened opening) es k d legal w.within)
