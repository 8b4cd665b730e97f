-- What events make of a topology.
use Rattle.std.specs.Prelude.{ℕ, ◌==◌, Bool, true, false, ◌&&◌, ◌||◌, if◌then◌else◌}
use Rattle.routing_domain.specs.Rest.{Topology}

-- the pair of one node and another, and both ways
abbrev pub is_pair : ℕ → ℕ → ℕ → ℕ → Bool
is_pair u w a b = (a == u) && (b == w)

abbrev pub is_between : ℕ → ℕ → ℕ → ℕ → Bool
is_between u w a b = is_pair u w a b || is_pair w u a b

-- with a link between two nodes, and without
abbrev pub with_link : Topology → ℕ → ℕ → Topology
with_link m u w = record m { linked = λ a b. if is_between u w a b then true else m.linked a b }

abbrev pub without_link : Topology → ℕ → ℕ → Topology
without_link m u w = record m { linked = λ a b. if is_between u w a b then false else m.linked a b }

-- with another filter at one node for what the other tells
abbrev pub with_filtered : Topology → ℕ → ℕ → (ℕ → ℕ) → Topology
with_filtered m u w filtered = record m { filtered = λ a b x. if is_pair u w a b then filtered x else m.filtered a b x }
