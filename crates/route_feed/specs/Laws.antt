-- Which node's route is a prefix's, in the subject's words. (This project's own choice.)
use Rattle.std.specs.Prelude.{◌≡◌, ℕ, ◌<◌, ◌≤◌, Bool, List}
use Rattle.netchange_core.specs.Best.{distance}
use Rattle.netchange_core.specs.FilteredDistance.{prefix_of}
use Rattle.netchange_core.specs.World.{World}

-- A node has the prefix and can be reached. None that has it is nearer, and none of a lower number is as near.
pub record IsNearest (w : World) (p : List Bool) (v : ℕ) : Type 0 where
  pub node : v < w.opening.size
  pub prefix : prefix_of w.opening v ≡ p
  pub reached : distance w v < w.opening.size
  pub nearest : (u : ℕ) → u < w.opening.size → prefix_of w.opening u ≡ p → distance w v ≤ distance w u
  pub least : (u : ℕ) → u < v → prefix_of w.opening u ≡ p → distance w v < distance w u

-- no node that has the prefix can be reached
abbrev pub IsOutOfReach : World → List Bool → Type 0
IsOutOfReach w p = (v : ℕ) → v < w.opening.size → prefix_of w.opening v ≡ p → w.opening.size ≤ distance w v
