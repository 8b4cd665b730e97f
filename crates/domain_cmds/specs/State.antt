-- What contracts see of a domain's script between two lines.
use Rattle.std.specs.Prelude.{ℕ, Bool, List, Option, Vec}
use Rattle.std.specs.BTreeMap.{is_at}
use Rattle.std.specs.Cmp.Lexicographic.{slice_cmp}
use Rattle.std.specs.Map.{lookup}
use Rattle.std.specs.Option.{option_map}
use Rattle.std.specs.Ordering.{nat_cmp}
use Rattle.std.specs.declared.sync.Arc.{Arc}
use Rattle.std.specs.declared.alloc.Global.{Global}
use Rattle.filter_verifier.specs.VerifiedView.{VerifiedView}
use Rattle.domain_routes.specs.PlanView.{PlanView}
use Rattle.domain_routes.specs.declared.best.Best.{Best}
use Rattle.domain_routes.specs.Still.{BetweenView}

-- names, in their order, each with its filter
abbrev pub Named : Type 0
Named = List (Vec ℕ Global × Arc VerifiedView Global)

-- the filter of a name
abbrev pub filter_named : Named → List ℕ → Option VerifiedView
filter_named named name = option_map (λ f. f.value) (lookup (is_at (λ key. slice_cmp nat_cmp name key.items)) named)

-- a domain that is set up: its prefixes, links and filters; the filters that have a name; whether a command came after which
-- prefixes stay; and where there was a `mark`, all routes at the last one, and the plans between which the plan stayed since
pub record PlanningView : Type 0 where
  pub plan : PlanView
  pub filters : Named
  pub begun : Bool
  pub marked : Option (List (List Best))
  pub since : Option BetweenView

-- filters that are verified for domains of this size, by their names
pub record FiltersView : Type 0 where
  pub size : ℕ
  pub named : Named
