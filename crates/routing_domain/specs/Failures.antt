-- What may happen far away: links come and go, at either end, routers begin anew, and filters are replaced. Meanwhile nodes send and
-- receive, and any direction may lose messages.
use Rattle.std.specs.Prelude.{◌≡◌, ◌≢◌, ◌⊎◌, ℕ, suc, zero, ◌<◌, ◌≤◌, if◌then◌else◌, Bool, true, false, List}
use Rattle.std.specs.declared.sync.Arc.{Arc}
use Rattle.std.specs.declared.alloc.Global.{Global}
use Rattle.filter_verifier.specs.VerifiedView.{VerifiedView}
use Rattle.netchange_core.specs.declared.event.Event.TheVariants as event
use Rattle.netchange_core.specs.declared.message.Message.{Message}
use Rattle.netchange_core.specs.OpeningView.{OpeningView}
use Rattle.routing_domain.specs.Domain.{are_linked}
use Rattle.routing_domain.specs.Network.{CanComeUp, Network, comes_up, enters_there, fails, gets, goes_down, hands, restarts}
use Rattle.routing_domain.specs.Rest.{Topology}
use Rattle.routing_domain.specs.Steps.{IsNext}

-- what may change: links, by their ends; and filters, by who is told and who tells
pub record Loose : Type 0 where
  pub links : ℕ → ℕ → Bool
  pub filters : ℕ → ℕ → Bool

-- a link has two ends, and a link with such a filter is one of these links
pub record IsLoose (loose : Loose) : Type 0 where
  pub back : (u w : ℕ) → loose.links u w ≡ true → loose.links w u ≡ true
  pub within : (u w : ℕ) → loose.filters u w ≡ true → loose.links u w ≡ true

-- a topology with all these links, and no filter where one may be replaced; and one with none of them
abbrev pub with_all : Topology → Loose → Topology
with_all m loose = record m {
  linked = λ u w. if loose.links u w then true else m.linked u w;
  filtered = λ u w x. if loose.filters u w then x else m.filtered u w x;
}

abbrev pub with_none : Topology → Loose → Topology
with_none m loose = record m { linked = λ u w. if loose.links u w then false else m.linked u w }

-- two routings are one below a bound: each node has the same distance in both, or in neither one below it
abbrev pub AreOneBelow : ℕ → ℕ → (ℕ → ℕ) → (ℕ → ℕ) → Type 0
AreOneBelow size bound a b = (u : ℕ) → u < size → (b u ≡ a u) ⊎ ((bound ≤ a u) × (bound ≤ b u))

-- a node hands over some of what waits for another
pub record HandsOver (n m : Network) : Type 0 where
  pub from : ℕ
  pub to : ℕ
  pub max : ℕ
  pub member : from < n.domain.size
  pub member_there : to < n.domain.size
  pub apart : from ≢ to
  pub after : m ≡ hands n from to max

-- a node gets what is first on its way to it
pub record GetsOne (n m : Network) : Type 0 where
  pub from : ℕ
  pub to : ℕ
  pub message : Message
  pub rest : List Message
  pub is_next : IsNext n.domain from to message rest
  pub after : m ≡ gets n from to message rest

-- a direction fails
pub record LosesSome (n m : Network) : Type 0 where
  pub from : ℕ
  pub to : ℕ
  pub kept : ℕ
  pub member : from < n.domain.size
  pub member_there : to < n.domain.size
  pub after : m ≡ fails n from to kept

-- one end of such a link comes up, or goes down
pub record EndComesUp (loose : Loose) (n m : Network) : Type 0 where
  pub from : ℕ
  pub to : ℕ
  pub ends : loose.links from to ≡ true
  pub can : CanComeUp n.domain from to
  pub after : m ≡ comes_up n from to

pub record EndGoesDown (loose : Loose) (n m : Network) : Type 0 where
  pub from : ℕ
  pub to : ℕ
  pub ends : loose.links from to ≡ true
  pub member : from < n.domain.size
  pub member_there : to < n.domain.size
  pub linked : are_linked n.domain from to ≡ true
  pub after : m ≡ goes_down n from to

-- such a filter is replaced, at the one who is told or at the one who tells, or its event is refused
pub record GetsImport (loose : Loose) (n m : Network) : Type 0 where
  pub at : ℕ
  pub told_by : ℕ
  pub filter : Arc VerifiedView Global
  pub changes : loose.filters at told_by ≡ true
  pub member : at < n.domain.size
  pub after : m ≡ enters_there n at (event.SetImport told_by filter)

pub record GetsExport (loose : Loose) (n m : Network) : Type 0 where
  pub at : ℕ
  pub told : ℕ
  pub filter : Arc VerifiedView Global
  pub changes : loose.filters told at ≡ true
  pub member : at < n.domain.size
  pub after : m ≡ enters_there n at (event.SetExport told filter)

-- a router ends and is opened anew, all of whose links and filters are such
pub record Restarts (loose : Loose) (n m : Network) : Type 0 where
  pub at : ℕ
  pub opening : OpeningView
  pub told : (w : ℕ) → loose.filters at w ≡ true
  pub tells : (w : ℕ) → loose.filters w at ≡ true
  pub member : at < n.domain.size
  pub size : opening.size ≡ n.domain.size
  pub me : opening.me ≡ at
  pub after : m ≡ restarts n at opening

-- what happens
pub data Happens (loose : Loose) (n m : Network) : Type 0 where
  Hands : HandsOver n m → Happens loose n m
  Gets : GetsOne n m → Happens loose n m
  Loses : LosesSome n m → Happens loose n m
  Up : EndComesUp loose n m → Happens loose n m
  Down : EndGoesDown loose n m → Happens loose n m
  Import : GetsImport loose n m → Happens loose n m
  Export : GetsExport loose n m → Happens loose n m
  Restart : Restarts loose n m → Happens loose n m

-- so much happens, in any order
abbrev pub HappenAll : ℕ → Loose → Network → Network → Type 0
HappenAll zero loose n m = n ≡ m
HappenAll (suc k) loose n m = (c : Network) × (Happens loose n c) × (HappenAll k loose c m)
