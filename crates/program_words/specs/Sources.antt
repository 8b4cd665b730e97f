-- Which sources the words of a command line name. (This project's own choice.)
use Rattle.std.specs.Prelude.{◌≡◌, ℕ, Bool, true, false, List, Option, Some, None, codes, string_bytes, unwrap_or}
use Rattle.clap.specs.Words.{Row}
use Rattle.program_words.specs.Given.{word_of}
use Rattle.program_words.specs.declared.source.Source.{Source}
use Rattle.program_words.specs.declared.source.Source.TheVariants.{Input, File}

-- the word for standard input
abbrev pub dash : List ℕ
dash = codes "-"

-- the source of a name: standard input for `-`, and otherwise the file of this name
abbrev pub IsNamed : List ℕ → Source → Type 0
IsNamed name Input = name ≡ dash
IsNamed name (File file) = (string_bytes file ≡ name) × (name ≡ dash → ⊥)

-- the path by which a source is opened; standard input has none
abbrev pub path_of : Source → Option (List ℕ)
path_of Input = None
path_of (File name) = Some (string_bytes name)

-- what an argument names that takes one name
abbrev pub one_name : List ℕ → List Row → List ℕ
one_name argument given = unwrap_or (word_of argument given) dash

-- a source is standard input
abbrev pub is_input : Source → Bool
is_input Input = true
is_input (File file) = false

-- a source is a file
abbrev pub is_file : Source → Bool
is_file Input = false
is_file (File file) = true
