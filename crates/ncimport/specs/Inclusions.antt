-- What becomes of a file that another one includes: the path of it, and why it is left out before it is opened. (Includes are those of the
-- BIRD 2.0 User's Guide; that each file is included by its own name, and none by itself, is this project's own choice.)
use Rattle.std.specs.Prelude.{◌≡◌, ◌⊎◌, ◌-◌, ◌==◌, ◌||◌, ℕ, Bool, true, false, List}
use Rattle.std.specs.Prelude.{Option, Some, None, IsUtf8, bytes_eq, codes, length, slice_get}
use Rattle.std.specs.List.{list_any}
use Rattle.program_console.specs.Beside.{IsIncludedPath}
use Rattle.program_words.specs.Sources.{path_of}
use Rattle.program_words.specs.declared.source.Source.{Source}
use Rattle.ncimport.specs.declared.including.Inclusion.{Inclusion}
use Rattle.ncimport.specs.declared.including.Inclusion.TheVariants.{Read, Left}
use Rattle.ncimport.specs.Places.{ConfigView, FileView}

-- a byte is a sign of a pattern of names: `*`, `?` or `[`
abbrev pub is_pattern_sign : ℕ → Bool
is_pattern_sign byte = byte == 42 || byte == 63 || byte == 91

-- the file of an index, if there is one, and the last of those that are being read
abbrev pub file_at : List FileView → Option ℕ → Option FileView
file_at files None = None
file_at files (Some index) = slice_get files index

abbrev pub last_file : ConfigView → Option FileView
last_file config = file_at config.files (slice_get config.reading (length config.reading - 1))

-- a source is opened by a path
abbrev pub is_path : List ℕ → Option (List ℕ) → Bool
is_path path None = false
is_path path (Some own) = bytes_eq own path

abbrev pub has_path : List ℕ → Option FileView → Bool
has_path path None = false
has_path path (Some file) = is_path path file.path

-- one of the files that are being read was opened by a path
abbrev pub is_open : ConfigView → List ℕ → Bool
is_open config path = list_any (λ index. has_path path (slice_get config.files index)) config.reading

-- The last of the files that are being read includes a file by this name, and it has this path.
pub record Names (config : ConfigView) (name path : List ℕ) : Type 0 where
  pub text : IsUtf8 name
  pub own : list_any is_pattern_sign name ≡ false
  pub by : FileView
  pub last : last_file config ≡ Some by
  pub is : IsIncludedPath by.path name path

-- a file is looked for by this source
pub record IsLookedFor (config : ConfigView) (name : List ℕ) (source : Source) : Type 0 where
  pub path : List ℕ
  pub names : Names config name path
  pub other : is_open config path ≡ false
  pub is : path_of source ≡ Some path

-- why the file of a name is left out before it is looked for
abbrev pub IsLeft : ConfigView → List ℕ → List ℕ → Type 0
IsLeft config name why =
    (¬ (IsUtf8 name) × (why ≡ codes "its name is not UTF-8"))
    ⊎ (((list_any is_pattern_sign name ≡ true) × (why ≡ codes "include each file by its own name"))
    ⊎ (((last_file config ≡ None) × (why ≡ codes "it was not read"))
    ⊎ ((path : List ℕ) × Names config name path × (is_open config path ≡ true) × (why ≡ codes "the file includes itself"))))

-- what becomes of the file of a name
abbrev pub IsInclusion : ConfigView → List ℕ → Inclusion → Type 0
IsInclusion config name (Read source) = IsLookedFor config name source
IsInclusion config name (Left why) = IsLeft config name why.now
