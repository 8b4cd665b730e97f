-- The line that tells of verified code. (This project's own choice.)
use Rattle.std.specs.Prelude.{ℕ, List, [], ◌∷◌, ◌++◌, codes, decimal}
use Rattle.filter_code.specs.CodeView.{CodeView}
use Rattle.filter_verifier.specs.Bounds.{cost, peak}

-- its cost and its peak
abbrev pub verified_line : CodeView → List ℕ
verified_line program = codes "verified " ++ decimal (cost program.instrs 0) ++ 32 ∷ decimal (peak program.instrs 0 0) ++ 10 ∷ []
