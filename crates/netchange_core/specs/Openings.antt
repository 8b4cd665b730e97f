-- The domains that a router can be opened in, and the prefixes of one that nobody set. (This project's own choice.)
use Rattle.std.specs.Prelude.{ℕ, zero, suc, ◌+◌, ◌*◌, ◌^◌, ◌&&◌, nat_le, nat_lt, Bool, List, [], ◌∷◌, ◌++◌}
use Rattle.filter_code.specs.Limits.{smallest_size, largest_size}
use Rattle.netchange_core.specs.OpeningView.{OpeningView}
use Rattle.prefix_patterns.specs.Bits.{prefix_bits}

-- a domain has 2 to 250 nodes, and the router is one of them
abbrev pub is_network : ℕ → ℕ → Bool
is_network size me = nat_le smallest_size size && nat_le size largest_size && nat_lt me size

-- the prefix of a node that nobody set, 10.V.0.0/16
abbrev pub default_prefix : ℕ → List Bool
default_prefix v = prefix_bits (10 * 2 ^ 24 + v * 2 ^ 16) 16

-- the prefixes of the nodes below a number
unfoldable pub default_prefixes : ℕ → List (List Bool)
default_prefixes zero = []
default_prefixes (suc v) = default_prefixes v ++ default_prefix v ∷ []

abbrev pub default_opening : ℕ → ℕ → OpeningView
default_opening size me = record { size = size; me = me; prefixes = default_prefixes size }
