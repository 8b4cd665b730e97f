-- Three nodes in a ring, and the journal of each. (This project's own choice.)
use Rattle.std.specs.Prelude.{◌≡◌, ℕ, ◌+◌, ◌*◌, ◌≤◌, Bool, List, [], ◌∷◌, length, Result, Ok, Err}
use Rattle.netchange_core.specs.OpeningView.{OpeningView}
use Rattle.prefix_patterns.specs.Bits.{prefix_bits}
use Rattle.route_history.specs.History.{IsLegal}
use Rattle.route_history.specs.JournalView.{JournalView}
use Rattle.ring_network.specs.declared.fault.NetworkFault.{NetworkFault}

-- the prefix of a node: 10.V.0.0/16
abbrev pub node_prefix : ℕ → List Bool
node_prefix v = prefix_bits (167772160 + 65536 * v) 16

-- what a node of the ring is opened with
abbrev pub ring_opening : ℕ → OpeningView
ring_opening me = record { size = 3; me = me; prefixes = node_prefix 0 ∷ node_prefix 1 ∷ node_prefix 2 ∷ [] }

-- the journal of a node of the ring: it was opened as that node, and each of its replies is the one that is defined
pub record IsJournalOf (me : ℕ) (j : JournalView) : Type 0 where
  pub opening : j.opening ≡ ring_opening me
  pub limit : j.limit ≡ 1000000
  pub legal : IsLegal j.opening j.entries
  pub room : length j.entries ≤ j.limit

-- what a node came to: its journal, or a fault
abbrev pub NodeEnd : Type 0
NodeEnd = Result JournalView NetworkFault

-- the fault of the first node that has one
abbrev pub IsFirstFault : NodeEnd → NodeEnd → NodeEnd → NetworkFault → Type 0
IsFirstFault (Err why) one two fault = fault ≡ why
IsFirstFault (Ok zero) (Err why) two fault = fault ≡ why
IsFirstFault (Ok zero) (Ok one) two fault = two ≡ Err fault
