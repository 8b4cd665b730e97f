-- Which sources the words of a command line name that takes any number of them. (This project's own choice.)
use Rattle.std.specs.Prelude.{◌≡◌, ℕ, List, [], ◌∷◌, ⊤}
use Rattle.program_words.specs.Sources.{IsNamed}
use Rattle.program_words.specs.declared.source.Source.{Source}
use Rattle.program_words.specs.declared.source.Source.TheVariants.{Input}

-- each name's source, in order
abbrev pub AreNamed : List (List ℕ) → List Source → Type 0
AreNamed [] [] = ⊤
AreNamed (name ∷ names) (source ∷ sources) = IsNamed name source × AreNamed names sources
AreNamed [] (source ∷ sources) = ⊥
AreNamed (name ∷ names) [] = ⊥

-- the sources of some names; where there are none, it is standard input alone
abbrev pub AreSources : List (List ℕ) → List Source → Type 0
AreSources [] sources = sources ≡ Input ∷ []
AreSources (name ∷ names) sources = AreNamed (name ∷ names) sources
