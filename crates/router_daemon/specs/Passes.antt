-- The passes that the threads of a router have. (This project's own choice.)
use Rattle.std.specs.Prelude.{◌≡◌, ◌⊎◌, []}
use Rattle.route_history.specs.History.{IsLegal}
use Rattle.slot_lock.specs.Calls.{Merged}
use Rattle.slot_lock.specs.Passes.{Fragment, IsPassOf, PassView, RouterView}

-- a pass of the router, which has seen a legal history
pub record IsLegalPass (r : RouterView) (p : PassView) : Type 0 where
  pub of : IsPassOf r p
  pub legal : IsLegal r.opening p.fragment.seen

-- a pass of the router by which nothing was called
pub record IsFreshPass (r : RouterView) (p : PassView) : Type 0 where
  pub of : IsPassOf r p
  pub no_calls : p.fragment.mine ≡ []

-- the pass is as it was, or took another one in
abbrev pub TakesBack : PassView → PassView → Type 0
TakesBack old new = (new ≡ old) ⊎ ((other : Fragment) × Merged old.fragment other new.fragment)
