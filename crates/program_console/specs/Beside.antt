-- The path of a file that another one names. (This project's own choice.)
use Rattle.std.specs.Prelude.{◌≡◌, ◌⊎◌, ◌++◌, ◌==◌, ℕ, Bool, true, false, List, [], ◌∷◌, Option, Some, None}
use Rattle.std.specs.Str.{NoCharPasses}

abbrev pub is_slash : ℕ → Bool
is_slash char = char == 47

-- the path of a file of this name in the folder of another one, which has none if its path has no slash
abbrev pub IsBeside : List ℕ → List ℕ → List ℕ → Type 0
IsBeside by name path =
    (NoCharPasses is_slash by × (path ≡ name))
    ⊎ ((folder : List ℕ) × (own : List ℕ) × (by ≡ folder ++ 47 ∷ own) × NoCharPasses is_slash own × (path ≡ folder ++ 47 ∷ name))

-- a name says where the file is from the root on
abbrev pub is_absolute : List ℕ → Bool
is_absolute [] = false
is_absolute (byte ∷ bytes) = byte == 47

abbrev pub IsPathBy : Bool → List ℕ → List ℕ → List ℕ → Type 0
IsPathBy true by name path = path ≡ name
IsPathBy false by name path = IsBeside by name path

-- the path of a file that is included by this name: beside the file of a path that includes it, unless the name is absolute; what standard input
-- includes is opened by the name itself
abbrev pub IsIncludedPath : Option (List ℕ) → List ℕ → List ℕ → Type 0
IsIncludedPath None name path = path ≡ name
IsIncludedPath (Some by) name path = IsPathBy (is_absolute name) by name path
