-- A worked state, and its text.
use Rattle.std.proofs.Common.{◌≡◌, ℕ, Bool, true, false, List, [], ◌∷◌, ◌++◌, Some, None, codes, refl}
use Rattle.std.specs.Fmt.{digits}
use Rattle.prefix_patterns.specs.Bits.{number}
use Rattle.netchange_core.specs.OpeningView.{OpeningView}
use Rattle.netchange_core.specs.World.{NeighbourView, World}
use Rattle.history_file.specs.Segments.{state_text}
use Rattle.history_file.specs.declared.numbering.Uses.{Uses}

-- 10.0.0.0/8
abbrev pub ten : List Bool
ten = false ∷ false ∷ false ∷ false ∷ true ∷ false ∷ true ∷ false ∷ []

-- node 0 of two nodes, whose neighbour is up in the first session and told that it is node 1; the routes to both wait for it
abbrev pub world : World
world = record {
  opening = record { size = 2; me = 0; prefixes = ten ∷ ten ∷ [] };
  sessions = 1;
  neighbours = record { session = None; advertised = 2 ∷ 2 ∷ []; imports = None; exports = None; queue = [] }
      ∷ record {
        session = Some 1;
        advertised = 2 ∷ 0 ∷ [];
        imports = None;
        exports = None;
        queue = record { dest = 0; dist = 0 } ∷ record { dest = 1; dist = 1 } ∷ [];
      }
      ∷ [];
}

abbrev pub none : Uses
none = record { imports = None; exports = None }

abbrev pub line : List ℕ → List ℕ → List ℕ
line text later = text ++ 10 ∷ later

pub worked : state_text 9 7 world [] (none ∷ none ∷ []) ≡
    line (codes "NCH2 2 0 9 10.0.0.0/8 10.0.0.0/8") (line (codes "at 7 sessions 1") (line (codes "node 0 down") (line (codes "node 1 up 1 2 0")
    (line (codes "queue 0:0 1:1") (line (codes ".") [])))))
unfolding digits number
worked = refl
