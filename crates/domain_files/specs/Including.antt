-- A line that includes the file of a filter. (This project's own choice.)
use Rattle.std.specs.Prelude.{ℕ, List, [], ◌∷◌, Option, Some, None, if◌then◌else◌, codes}
use Rattle.std.specs.Str.{bytes_eq}
use Rattle.line_protocol.specs.Words.{words}
use Rattle.line_protocol.specs.Names.{is_name}
use Rattle.operator_cmds.specs.WordLists.{two_of}
use Rattle.domain_files.specs.declared.include.Include.{Include}

-- the name that a filter gets, and the file of its text
abbrev pub Including : Type 0
Including = List ℕ × List ℕ

abbrev pub include_of : Include → Including
include_of i = (i.name.now, i.file.now)

-- the name of a filter, and a file, as the only two words
abbrev pub named : Option (List ℕ × List ℕ) → Option Including
named None = None
named (Some (name, file)) = if is_name name then Some (name, file) else None

abbrev pub included_by : List (List ℕ) → Option Including
included_by [] = None
included_by (word ∷ others) = if bytes_eq word (codes "include") then named (two_of others) else None

-- what a line includes
abbrev pub include_in : List ℕ → Option Including
include_in line = included_by (words line)
