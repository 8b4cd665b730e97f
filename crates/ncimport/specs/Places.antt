-- Where the bytes of a configuration come from: its files, and the stretches of it that are theirs. (This project's own choice.)
use Rattle.std.specs.Prelude.{◌≡◌, ℕ, ◌+◌, ◌-◌, nat_le, List, [], ◌∷◌, ◌++◌, Bool, Option, Some}
use Rattle.std.specs.Prelude.{None, decimal, map, min, slice_get}
use Rattle.program_console.specs.Lists.{last_such}
use Rattle.refusal_words.specs.Places.{column_at, line_at}
use Rattle.refusal_words.specs.Shown.{shown}
use Rattle.program_words.specs.declared.source.Source.{Source}
use Rattle.program_words.specs.Sources.{path_of}
use Rattle.program_console.specs.Reading.{name_of}
use Rattle.ncimport.specs.declared.including.ConfigFile.{ConfigFile as OpenedFile}
use Rattle.ncimport.specs.declared.including.Stretch.{Stretch}
use Rattle.ncimport.specs.declared.including.Whole.{Whole}

-- a source by the same name and path
abbrev pub IsAlike : Source → Source → Type 0
IsAlike source copy = (name_of copy ≡ name_of source) × (path_of copy ≡ path_of source)

-- a file of a configuration: the name by which people know it, the path by which it was opened, and its text
pub record FileView : Type 0 where
  pub name : List ℕ
  pub path : Option (List ℕ)
  pub text : List ℕ

abbrev pub view_of : Source → List ℕ → FileView
view_of source text = record { name = name_of source; path = path_of source; text = text }

abbrev pub file_of : OpenedFile → FileView
file_of file = view_of file.source file.text.items

-- a configuration: its text, the stretches of it in order, its files in the order in which they were opened, the indexes of those that are
-- being read, each of which includes the next one, and whether something of it was left out
pub record ConfigView : Type 0 where
  pub text : List ℕ
  pub stretches : List Stretch
  pub files : List FileView
  pub reading : List ℕ
  pub is_partial : Bool

abbrev pub config_of : Whole → ConfigView
config_of whole = record {
  text = whole.text.items;
  stretches = whole.stretches.items;
  files = map file_of whole.files.items;
  reading = whole.open.items;
  is_partial = whole.is_partial;
}

-- the texts of files
abbrev pub texts_of : List FileView → List (List ℕ)
texts_of = map (λ (file : FileView). file.text)

-- the name of a file as it is shown, the line and the column of a byte of it; nothing where there is no file
abbrev pub place_in : Option FileView → ℕ → List ℕ
place_in None at = []
place_in (Some file) at = shown file.name ++ 58 ∷ decimal (line_at file.text at) ++ 58 ∷ decimal (column_at file.text at)

-- the stretch that a byte is in: the last one that begins at the byte or before it
abbrev pub stretch_of : List Stretch → ℕ → Option Stretch
stretch_of stretches byte = last_such (λ stretch. nat_le stretch.from byte) stretches

-- the place of a byte in the file of a stretch; a number of 64 bits has no higher one than the greatest
abbrev pub place_behind : List FileView → ℕ → Option Stretch → List ℕ
place_behind files byte None = []
place_behind files byte (Some stretch) =
    place_in (slice_get files stretch.file) (min (stretch.at + (byte - stretch.from)) 18446744073709551615)

-- the file, the line and the column of a byte of a configuration
abbrev pub place_of : ConfigView → ℕ → List ℕ
place_of config byte = place_behind config.files byte (stretch_of config.stretches byte)
