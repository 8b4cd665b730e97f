-- Which lines tell what changed. (This project's own choice.)
use Rattle.std.specs.Prelude.{ℕ, suc, zero, ◌==◌, ◌&&◌, not, if◌then◌else◌, Bool, true, false, Option, Some, None, List, [], ◌∷◌, ◌++◌}
use Rattle.route_feed.specs.declared.hop.Hop.{Hop}
use Rattle.route_feed.specs.Lines.{Change}
use Rattle.route_feed.specs.Table.{is_had_below}

-- whether packets go the same way
abbrev pub is_same : Option Hop → Option Hop → Bool
is_same None None = true
is_same None (Some two) = false
is_same (Some one) None = false
is_same (Some one) (Some two) = (one.node == two.node) && (one.dist == two.dist)

-- whether a node is the least that has its prefix
abbrev pub is_first : (ℕ → List Bool) → ℕ → Bool
is_first prefix v = not (is_had_below prefix (prefix v) v)

-- the line for a node: one, if it is the least of its prefix, and packets for that go another way than they went
abbrev pub change_of : (ℕ → List Bool) → ℕ → Option Hop → Option Hop → List Change
change_of prefix v old new = if is_same old new then [] else (if is_first prefix v then record { prefix = prefix v; hop = new } ∷ [] else [])

-- the lines for all nodes below a number
abbrev pub changes_below : (ℕ → List Bool) → (ℕ → Option Hop) → (ℕ → Option Hop) → ℕ → List Change
changes_below prefix old new zero = []
changes_below prefix old new (suc v) = changes_below prefix old new v ++ change_of prefix v (old v) (new v)

-- whether packets for the prefixes of all nodes below a number go the same way
abbrev pub are_same_below : (ℕ → Option Hop) → (ℕ → Option Hop) → ℕ → Bool
are_same_below old new zero = true
are_same_below old new (suc v) = if is_same (old v) (new v) then are_same_below old new v else false
