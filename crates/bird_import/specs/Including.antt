-- The files that a configuration includes. (Includes are those of the BIRD 2.0 User's Guide.)
use Rattle.std.specs.Prelude.{◌≡◌, ℕ, ◌+◌, ◌-◌, ◌^◌, ◌&&◌, ◌==◌, if◌then◌else◌, nat_le, min, Bool, true, false, List, [], ◌∷◌, length, take}
use Rattle.std.specs.Prelude.{drop, codes, slice_index, Option, Some, None}
use Rattle.std.specs.Str.{bytes_eq}
use Rattle.filter_tokens.specs.Shapes.{quote}
use Rattle.filter_tokens.specs.declared.symbol.Symbol.TheVariants as symbol
use Rattle.bird_import.specs.Cutting.{IsCutInto}
use Rattle.bird_import.specs.declared.cut.Cut.{Cut}
use Rattle.bird_import.specs.declared.includes.Include.{Include}
use Rattle.bird_import.specs.declared.word.Word.{Word}
use Rattle.bird_import.specs.declared.word.WordKind.{WordKind}
use Rattle.bird_import.specs.declared.word.WordKind.TheVariants as kind

-- a file that is included, without where its name lies in memory
pub record IncludeView : Type 0 where
  pub from : ℕ
  pub to : ℕ
  pub name : List ℕ

abbrev pub view_of : Include → IncludeView
view_of include = record { from = include.from; to = include.to; name = include.name.now }

-- bytes begin and end with a double quote each
abbrev pub is_quoted : List ℕ → Bool
is_quoted bytes = nat_le 2 (length bytes) && slice_index bytes 0 == quote && slice_index bytes (length bytes - 1) == quote

-- what stands between the quotes of a text
abbrev pub between_quotes : List ℕ → List ℕ
between_quotes bytes = if is_quoted bytes then take (length bytes - 2) (drop 1 bytes) else bytes

abbrev pub is_foreign : WordKind → Bool
is_foreign kind.Foreign = true
is_foreign others = false

abbrev pub is_text : WordKind → Bool
is_text kind.Text = true
is_text others = false

abbrev pub is_semicolon : WordKind → Bool
is_semicolon (kind.Symbol symbol.Semicolon) = true
is_semicolon others = false

-- the word `include`
abbrev pub is_include : Word → Bool
is_include word = is_foreign word.kind && bytes_eq word.bytes.now (codes "include")

-- the last word of an include: the `;` that follows its text, or else that text
abbrev pub last_word : Word → List Word → Word
last_word text [] = text
last_word text (stop ∷ words) = if is_semicolon stop.kind then stop else text

-- the place behind a word, or the greatest place that there is: of words that stand in a text it is always their end
abbrev pub end_of : Word → ℕ
end_of word = min (word.at + length word.bytes.now) (2 ^ 64 - 1)

-- what the word `include` with a text behind it includes at the front of words: the file that the text names
abbrev pub include_ahead : List Word → Option IncludeView
include_ahead [] = None
include_ahead (word ∷ []) = None
include_ahead (word ∷ text ∷ words) =
    if is_include word && is_text text.kind
    then Some (record { from = word.at; to = end_of (last_word text words); name = between_quotes text.bytes.now })
    else None

-- a view before others, if there is one
abbrev pub with_view : Option IncludeView → List IncludeView → List IncludeView
with_view None views = views
with_view (Some view) views = view ∷ views

-- all that words include, in order
abbrev pub includes_in : List Word → List IncludeView
includes_in [] = []
includes_in (word ∷ words) = with_view (include_ahead (word ∷ words)) (includes_in words)

-- the files that a text includes
pub record Includes (text : List ℕ) (found : List IncludeView) : Type 0 where
  pub cut : Cut
  pub is : IsCutInto text cut
  pub are : found ≡ includes_in cut.words.items
