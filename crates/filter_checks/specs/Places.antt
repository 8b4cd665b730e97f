-- Where a filter's file is that a test file names. (This project's own choice.)
use Rattle.std.specs.Prelude.{ℕ, ◌-◌, ◌==◌, ◌++◌, Bool, false, not, List, [], ◌∷◌, if◌then◌else◌, length, take}
use Rattle.std.specs.List.{suffix_len}
use Rattle.prefix_patterns.specs.Token.{slash}

-- a byte of a name within its folder
abbrev pub is_inside : ℕ → Bool
is_inside byte = not (byte == slash)

-- the folder of a file's name: what stands up to its last slash
abbrev pub folder_of : List ℕ → List ℕ
folder_of name = take (length name - suffix_len is_inside name) name

-- a name that does not depend on a folder
abbrev pub is_absolute : List ℕ → Bool
is_absolute [] = false
is_absolute (byte ∷ bytes) = byte == slash

-- the name of a file that is named in another: relative to the folder of that one
abbrev pub path_beside : List ℕ → List ℕ → List ℕ
path_beside name other = if is_absolute other then other else folder_of name ++ other
