-- Which filters the words `--filter NAME=FILE` of a command line name. (This project's own choice.)
use Rattle.std.specs.Prelude.{◌≡◌, ◌&&◌, ◌++◌, ◌==◌, ℕ, zero, suc, Bool, true, false, nat_lt, List, [], ◌∷◌, Some, length, slice_get, string_bytes}
use Rattle.std.specs.List.{after_first, before_first, list_any, position_or_len}
use Rattle.std.specs.Str.{bytes_eq}
use Rattle.line_protocol.specs.Names.{is_name}
use Rattle.program_words.specs.Sources.{IsNamed}
use Rattle.command_line.specs.declared.filter_words.NamedFile.{NamedFile}
use Rattle.command_line.specs.declared.filter_words.WrongFilter.{WrongFilter}
use Rattle.command_line.specs.declared.filter_words.WrongFilter.TheVariants.{Word, Twice}

abbrev pub is_equals : ℕ → Bool
is_equals byte = byte == 61

-- what stands before the first `=` of a word, and behind it
abbrev pub name_in : List ℕ → List ℕ
name_in word = before_first is_equals word

abbrev pub file_in : List ℕ → List ℕ
file_in word = after_first is_equals word

-- a word names a filter where it has a `=`, and a name as scripts have them before the first
abbrev pub names_filter : List ℕ → Bool
names_filter word = nat_lt (position_or_len is_equals word) (length word) && is_name (name_in word)

-- a word has this name and this source
pub record IsFilterWord (word : List ℕ) (named : NamedFile) : Type 0 where
  pub names : names_filter word ≡ true
  pub name : string_bytes named.name ≡ name_in word
  pub source : IsNamed (file_in word) named.source

-- one of these filters has this name
abbrev pub has_name : List NamedFile → List ℕ → Bool
has_name filters name = list_any (λ named. bytes_eq (string_bytes named.name) name) filters

-- The first n of some words name these filters, in order, and no two of them have the same name.
unfoldable pub NameFirst : List (List ℕ) → ℕ → List NamedFile → Type 0
NameFirst words zero filters = filters ≡ []
NameFirst words (suc n) filters = (word : List ℕ) × (earlier : List NamedFile) × (named : NamedFile) × (slice_get words n ≡ Some word)
    × NameFirst words n earlier × IsFilterWord word named × (has_name earlier (name_in word) ≡ false)
    × (filters ≡ earlier ++ named ∷ [])

-- what is wrong with a word behind words that name these filters: it names no filter, or it names one that has a name of theirs
abbrev pub IsWrong : List NamedFile → List ℕ → WrongFilter → Type 0
IsWrong earlier word (Word wrong) = (wrong.now ≡ word) × (names_filter word ≡ false)
IsWrong earlier word (Twice wrong) = (wrong.now ≡ word) × (names_filter word ≡ true) × (has_name earlier (name_in word) ≡ true)

-- This is the first word that is wrong.
pub record HasWrong (words : List (List ℕ)) (wrong : WrongFilter) : Type 0 where
  pub n : ℕ
  pub word : List ℕ
  pub is_word : slice_get words n ≡ Some word
  pub earlier : List NamedFile
  pub first : NameFirst words n earlier
  pub is_wrong : IsWrong earlier word wrong
