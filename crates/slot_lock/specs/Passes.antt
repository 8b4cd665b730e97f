-- What a contract sees of a router and of a pass.
use Rattle.std.specs.Prelude.{◌≡◌, ℕ, ◌<◌, ◌≤◌, Some, None, Option, []}
use Rattle.atomic_table.specs.Seated.{TableId}
use Rattle.netchange_core.specs.OpeningView.{OpeningView}
use Rattle.route_history.specs.declared.bounds.Bounds.{Bounds}
use Rattle.route_history.specs.Positions.{times}
pub use Rattle.lock_rule.specs.declared.rule.Fragment.{Fragment}
use Rattle.lock_rule.specs.declared.rule.View.{View}
pub use Rattle.lock_rule.specs.RouterView.{RouterView, bounds_of}
use Rattle.lock_rule.specs.Rule.{AreIn}
use Rattle.lock_rule.specs.Steps.{Seated}
pub use Rattle.lock_rule.specs.Views.{all_shares}
use Rattle.lock_rule.specs.Views.{empty_fragment}

-- which router it is of, what that was opened with and its bounds, and what the caller knows
pub record PassView : Type 0 where
  pub table : TableId
  pub about : Option (OpeningView × Bounds)
  pub fragment : Fragment

abbrev pub pass_view : TableId → View → PassView
pass_view table v = record { table = table; about = v.about; fragment = v.fragment }

-- the pass is one of this router
pub record IsPassOf (r : RouterView) (p : PassView) : Type 0 where
  pub table : p.table ≡ r.table
  pub about : p.about ≡ Some (r.opening, bounds_of r)

-- each position of the caller's own calls is one of what it has seen, and stands there once
pub record IsOwn (p : Fragment) : Type 0 where
  pub within : AreIn p.mine p.seen
  pub once : (x : ℕ) → times x p.mine ≤ 1

-- a pass between two calls
pub record IsSound (m : Seated) (n : ℕ) : Type 0 where
  pub slots : m.1 ≡ []
  pub held : m.0.held ≡ None
  pub incoming : m.0.incoming ≡ empty_fragment
  pub shares : m.0.fragment.shares ≡ n
  pub some_shares : 0 < n
  pub at_most : n ≤ all_shares
  pub own : IsOwn m.0.fragment

-- the pass of a router that was just opened, or the right to forget, has seen nothing and has so many shares
pub record IsNew (r : RouterView) (shares : ℕ) (p : PassView) : Type 0 where
  pub of : IsPassOf r p
  pub fragment : p.fragment ≡ record { seen = []; mine = []; failed_tries = 0; shares = shares; forgot = 0 }

-- the pass of a router that was just opened has seen nothing and has all shares
pub record IsFirst (r : RouterView) (p : PassView) : Type 0 where
  pub of : IsPassOf r p
  pub fragment : p.fragment ≡ record { seen = []; mine = []; failed_tries = 0; shares = all_shares; forgot = 0 }
