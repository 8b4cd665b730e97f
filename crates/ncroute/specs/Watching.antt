-- What people are told of a line of a script, and where it is for them: a script has parts, each of which comes from one source. (This project's
-- own choice.)
use Rattle.std.specs.Prelude.{◌≡◌, ◌⊎◌, ℕ, ◌-◌, ◌++◌, nat_lt, List, [], ◌∷◌, Option, Some, None, codes, decimal}
use Rattle.line_protocol.specs.Runs.{AppendsFront}
use Rattle.refusal_words.specs.Shown.{shown}
use Rattle.operator_cmds.specs.declared.watch.RefusedLine.{RefusedLine}
use Rattle.script_words.specs.Telling.{Tells}
use Rattle.program_console.specs.Lists.{last_such}
use Rattle.ncroute.specs.declared.watcher.ScriptPart.{ScriptPart}

-- the part that has the line of a number: the last one before which there are fewer lines
abbrev pub part_of : List ScriptPart → ℕ → Option ScriptPart
part_of parts number = last_such (λ part. nat_lt part.before number) parts

-- the name of a part, and the number of a line in it; a script with no such part has no name
abbrev pub name_in : Option ScriptPart → List ℕ
name_in None = []
name_in (Some part) = part.name.now

abbrev pub number_in : ℕ → Option ScriptPart → ℕ
number_in number None = number
number_in number (Some part) = number - part.before

-- the line that tells where a script ends
abbrev pub stopped_line : List ℕ → ℕ → List ℕ
stopped_line name number = shown name ++ 58 ∷ decimal number ++ codes ": stopped: this line is refused, and none after it is answered" ++ 10 ∷ []

-- Nothing more is told; or the words for a refused line of a script that people know by a name are, or a front of them.
abbrev pub IsReported : List ℕ → RefusedLine → Option (List ℕ) → Option (List ℕ) → Type 0
IsReported name refused before after = (after ≡ before)
    ⊎ ((words : List ℕ) × Tells name refused.number refused.line.now refused.answer.now refused.diagnosis (Some words) × AppendsFront before after words)
