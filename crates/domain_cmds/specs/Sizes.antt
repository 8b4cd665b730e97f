-- How large a domain may be. (This project's own choice.)
use Rattle.std.specs.Prelude.{ℕ, Bool, ◌&&◌, nat_le}
use Rattle.filter_code.specs.Limits.{smallest_size, largest_size}

-- a domain has 2 to 250 nodes
abbrev pub is_size : ℕ → Bool
is_size size = nat_le smallest_size size && nat_le size largest_size
