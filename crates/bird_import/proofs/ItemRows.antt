-- A worked row: the definitions of some words.
use Rattle.std.proofs.Common.{◌≡◌, ℕ, List, [], ◌∷◌, ◌++◌, codes, refl}
use Rattle.filter_tokens.specs.declared.symbol.Symbol.{Symbol}
use Rattle.filter_tokens.specs.declared.symbol.Symbol.TheVariants as symbol
use Rattle.bird_import.specs.Items.{blocks_before, blocks_behind, definition_at, definition_behind, definitions_before, definitions_in}
use Rattle.bird_import.specs.Items.{depth_past, first_outside, is_foreign_at, is_name, is_symbol, outside_from}
use Rattle.bird_import.specs.declared.items.Definition.{Definition}
use Rattle.bird_import.specs.declared.word.Word.{Word}
use Rattle.bird_import.specs.declared.word.WordKind.{WordKind}
use Rattle.bird_import.specs.declared.word.WordKind.TheVariants as kind

abbrev word : WordKind → List ℕ → Word
word kind bytes =
    record { kind = kind; bytes = record { ref_ptr = (0, 0); now = bytes }; at = 0; gap = record { ref_ptr = (0, 0); now = [] } }

abbrev name : List ℕ → Word
name bytes = word kind.Name bytes

abbrev foreign : List ℕ → Word
foreign bytes = word kind.Foreign bytes

abbrev sign : Symbol → Word
sign wanted = word (kind.Symbol wanted) []

abbrev number : Word
number = word kind.Number (codes "1")

abbrev definition : ℕ → ℕ → ℕ → Definition
definition name from to = record { name = name; from = from; to = to }

-- define NAME = 1;
abbrev define : List ℕ → List Word
define bytes = foreign (codes "define") ∷ name bytes ∷ sign symbol.Equal ∷ number ∷ sign symbol.Semicolon ∷ []

-- { WORDS }
abbrev block : List Word → List Word
block words = (sign symbol.LeftBrace ∷ words) ++ sign symbol.RightBrace ∷ []

-- define a = 1; filter f { define b = 1; } define c = 1;
two_defined : definitions_in (define (codes "a") ++ (sign symbol.Filter ∷ name (codes "f") ∷ []) ++ block (define (codes "b")) ++ define (codes "c"))
    ≡ definition 1 3 4 ∷ definition 15 17 18 ∷ []
unfolding definitions_before definition_at definition_behind is_foreign_at blocks_before blocks_behind outside_from first_outside depth_past is_symbol is_name
two_defined = refl
