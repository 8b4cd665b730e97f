-- What a router is opened with.
use Rattle.std.specs.Prelude.{◌≡◌, ℕ, ◌<◌, ◌≤◌, Bool, List, length}
use Rattle.filter_code.specs.Limits.{smallest_size, largest_size}

-- the number of nodes of the domain, the node that the router is, and the bits of each node's prefix, by number
pub record OpeningView : Type 0 where
  pub size : ℕ
  pub me : ℕ
  pub prefixes : List (List Bool)

-- a domain has 2 to 250 nodes, of which the router is one, and each has a prefix (this project's own choice)
pub record IsOpening (o : OpeningView) : Type 0 where
  pub from_two : smallest_size ≤ o.size
  pub to_largest : o.size ≤ largest_size
  pub member : o.me < o.size
  pub one_a_node : length o.prefixes ≡ o.size
