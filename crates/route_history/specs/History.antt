-- A history and its replay: the events folded from the opening, and a list of events and replies in which each reply is the
-- one that the world gives. (This project's own choice.)
use Rattle.std.specs.Prelude.{◌≡◌, ℕ, ◌<◌, List, [], ◌∷◌, length, take, slice_index_or}
use Rattle.netchange_core.specs.Calls.{opened}
use Rattle.netchange_core.specs.Next.{next}
use Rattle.netchange_core.specs.OpeningView.{OpeningView}
use Rattle.netchange_core.specs.World.{World}
use Rattle.route_history.specs.declared.entry.Entry.{Entry}

-- the world after a list of entries, from a world and from the opening
abbrev pub world_after : World → List Entry → World
world_after w [] = w
world_after w (e ∷ es) = world_after (next w e.event).world es

abbrev pub world_of : OpeningView → List Entry → World
world_of opening es = world_after (opened opening) es

-- each reply is the world's at its place
abbrev pub IsLegalFrom : World → List Entry → Type 0
IsLegalFrom w [] = Unit {0}
IsLegalFrom w (e ∷ es) = ((next w e.event).reply ≡ e.reply) × IsLegalFrom (next w e.event).world es

abbrev pub IsLegal : OpeningView → List Entry → Type 0
IsLegal opening es = IsLegalFrom (opened opening) es

-- the first entry whose reply is not the world's is the one at k
pub record IsFirstWrong (opening : OpeningView) (es : List Entry) (k : ℕ) : Type 0 where
  pub within : k < length es
  pub legal : IsLegal opening (take k es)
  pub wrong : (d : Entry) → let e = slice_index_or es k d in
      (next (world_of opening (take k es)) e.event).reply ≡ e.reply → ⊥
