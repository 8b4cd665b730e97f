-- Runs of a domain: one step after another, in any order. Links hand over messages in order, and may leave out what a later one makes
-- needless.
use Rattle.std.specs.Prelude.{◌≡◌, ◌⊎◌, ℕ, suc, zero, ◌<◌, List, ◌∷◌, ◌++◌, length, take}
use Rattle.netchange_core.specs.declared.message.Message.{Message}
use Rattle.routing_domain.specs.Domain.{Domain, neighbour}
use Rattle.routing_domain.specs.Steps.{IsNext, receives, sends, with_flight}

-- a node receives what is first on its way to it
pub record ReceivesOne (d e : Domain) : Type 0 where
  pub from : ℕ
  pub to : ℕ
  pub message : Message
  pub rest : List Message
  pub is_next : IsNext d from to message rest
  pub after : e ≡ receives d from to message rest

-- a node sends some of what waits for another
pub record SendsSome (d e : Domain) : Type 0 where
  pub from : ℕ
  pub to : ℕ
  pub max : ℕ
  pub member : from < d.size
  pub member_there : to < d.size
  pub some : 0 < length (take max (neighbour d from to).queue)
  pub after : e ≡ sends d from to max

-- of what is on its way from one node to another a message is left out, behind which there is a later one about the same node
pub record DropsOne (d e : Domain) : Type 0 where
  pub from : ℕ
  pub to : ℕ
  pub before : List Message
  pub message : Message
  pub between : List Message
  pub later : Message
  pub behind : List Message
  pub member : from < d.size
  pub member_there : to < d.size
  pub flight : d.flight from to ≡ before ++ message ∷ (between ++ later ∷ behind)
  pub about : later.dest ≡ message.dest
  pub after : e ≡ with_flight d from to (before ++ (between ++ later ∷ behind))

-- a step
abbrev pub IsStep : Domain → Domain → Type 0
IsStep d e = (ReceivesOne d e) ⊎ ((SendsSome d e) ⊎ (DropsOne d e))

-- so many steps lead from one domain to another
abbrev pub Runs : ℕ → Domain → Domain → Type 0
Runs zero d e = d ≡ e
Runs (suc k) d e = (c : Domain) × (IsStep d c) × (Runs k c e)
