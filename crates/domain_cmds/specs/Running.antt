-- How the script of a domain goes and ends. (This project's own choice.)
use Rattle.std.specs.Prelude.{ℕ, List, Option, None}
use Rattle.line_protocol.specs.declared.faults.StreamFault.{StreamFault}
use Rattle.operator_cmds.specs.Running.{EndsEarly, EndsWithInput}
use Rattle.domain_cmds.specs.Script.{AnswersLine}

-- A script was answered to its end, and all of it was read.
abbrev pub IsCarriedOut : List ℕ → Option (List ℕ) → Option (List ℕ) → Option (List ℕ) → ℕ → Type 0
IsCarriedOut input left held holds refused = EndsWithInput AnswersLine None input left held holds refused

-- A fault ended a script: its first lines are answered, each whole, but for a writer that failed.
abbrev pub IsBrokenOff : StreamFault → List ℕ → Option (List ℕ) → Option (List ℕ) → Option (List ℕ) → Type 0
IsBrokenOff fault input left held holds = EndsEarly AnswersLine None fault input left held holds
