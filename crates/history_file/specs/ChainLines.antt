-- The lines that tell what came of a replay of segments. (This project's own choice.)
use Rattle.std.specs.Prelude.{ℕ, ◌-◌, ◌==◌, if◌then◌else◌, List, [], ◌∷◌, ◌++◌, Option, Some, None, codes, decimal}
use Rattle.line_protocol.specs.Answers.{refusal}
use Rattle.history_file.specs.Replays.{verdict_line}
use Rattle.history_file.specs.declared.chain.Chain.{Chain}
use Rattle.history_file.specs.declared.chain.ChainFault.{ChainFault}
use Rattle.history_file.specs.declared.chain.ChainFault.TheVariants as fault
use Rattle.history_file.specs.declared.verdict.ReplayVerdict.TheVariants as verdict

-- where the first segment begins, if it does not begin at 0
abbrev pub from_words : ℕ → List ℕ
from_words first = if first == 0 then [] else codes " from " ++ decimal first

-- all replies are right, of so many entries
abbrev pub chain_line : Chain → List ℕ
chain_line c = codes "replay ok " ++ (decimal (c.next - c.first) ++ (from_words c.first ++ 10 ∷ []))

-- which file it is of, where there are several
abbrev pub file_words : Option ℕ → List ℕ
file_words None = []
file_words (Some number) = codes "file " ++ (decimal number ++ 32 ∷ [])

-- why a file is not the next segment; H2 and H3 are of its second line, where the state begins
abbrev pub fault_line : ChainFault → List ℕ
fault_line (fault.Differs at saved right) = verdict_line (verdict.Differs at saved right)
fault_line (fault.Cut line) = verdict_line (verdict.Cut line)
fault_line (fault.Line line) = verdict_line (verdict.Wrong line)
fault_line fault.Unreached = refusal (codes "H2") 2
fault_line fault.Apart = refusal (codes "H3") 2
fault_line fault.Memory = []
