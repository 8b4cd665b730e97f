-- The words at the indices of a configuration or of a filter.
use Rattle.std.specs.Prelude.{◌≡◌, ℕ, ◌-◌, ◌<◌, List, [], Option, Some, None, slice_get}
use Rattle.filter_tokens.specs.declared.symbol.Symbol.{Symbol}
use Rattle.bird_import.specs.declared.word.Word.{Word}
use Rattle.bird_import.specs.declared.word.WordKind.{WordKind}
use Rattle.bird_import.specs.declared.word.WordKind.TheVariants as kind

abbrev pub kind_of_word : Option Word → WordKind
kind_of_word (Some word) = word.kind
kind_of_word None = kind.Strange

abbrev pub bytes_of_word : Option Word → List ℕ
bytes_of_word (Some word) = word.bytes.now
bytes_of_word None = []

-- what the word at an index is, and a byte that begins no word where there is none
abbrev pub kind_at : List Word → ℕ → WordKind
kind_at words k = kind_of_word (slice_get words k)

-- its bytes, if there is a word
abbrev pub bytes_at : List Word → ℕ → List ℕ
bytes_at words k = bytes_of_word (slice_get words k)

abbrev pub place_of_word : Option Word → ℕ
place_of_word (Some word) = word.at
place_of_word None = 0

-- its place in the configuration, if there is a word
abbrev pub place_at : List Word → ℕ → ℕ
place_at words k = place_of_word (slice_get words k)

-- the word at an index is this keyword or punctuator
abbrev pub IsAt : Symbol → List Word → ℕ → Type 0
IsAt wanted words k = kind_at words k ≡ kind.Symbol wanted

-- it is a name
abbrev pub IsNameAt : List Word → ℕ → Type 0
IsNameAt words k = kind_at words k ≡ kind.Name

-- it is this name
abbrev pub IsNamedAt : List ℕ → List Word → ℕ → Type 0
IsNamedAt name words k = IsNameAt words k × (bytes_at words k ≡ name)

-- it is this word of BIRD's
abbrev pub IsForeignAt : List ℕ → List Word → ℕ → Type 0
IsForeignAt name words k = (kind_at words k ≡ kind.Foreign) × (bytes_at words k ≡ name)

-- the word before an index is this keyword or punctuator
abbrev pub IsBehind : Symbol → List Word → ℕ → Type 0
IsBehind wanted words k = (0 < k) × IsAt wanted words (k - 1)
