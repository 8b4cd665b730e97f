-- What a configuration consists of: its definitions, its filters and its functions. (Definitions, filters, functions and protocols are those
-- of the BIRD 2.0 User's Guide.)
use Rattle.std.specs.Prelude.{◌≡◌, ◌⊎◌, ℕ, zero, suc, ◌+◌, ◌-◌, ◌<◌, ◌≤◌, ◌&&◌, ◌==◌, not, if◌then◌else◌, nat_lt, Bool, true, false}
use Rattle.std.specs.Prelude.{List, [], ◌∷◌, ◌++◌, All, AllPairs, codes, drop}
use Rattle.std.specs.Prelude.{length, take, Option, Some, None, ⊤}
use Rattle.std.specs.Option.{option_and_then, option_map, option_to_list}
use Rattle.std.specs.Str.{bytes_eq}
use denote.Enum.Bare.{sameb}
use Rattle.filter_tokens.specs.contracts.symbol.Symbol.{the_type}
use Rattle.filter_tokens.specs.declared.symbol.Symbol.{Symbol}
use Rattle.filter_tokens.specs.declared.symbol.Symbol.TheVariants as symbol
use Rattle.bird_import.specs.Including.{is_foreign}
use Rattle.bird_import.specs.Indices.{IsAt, IsForeignAt, IsNameAt, bytes_at, kind_at}
use Rattle.bird_import.specs.Rules.{closes, open_behind, opens}
use Rattle.bird_import.specs.declared.items.Definition.{Definition}
use Rattle.bird_import.specs.declared.items.Item.{Item}
use Rattle.bird_import.specs.declared.items.ItemKind.{ItemKind}
use Rattle.bird_import.specs.declared.items.ItemKind.TheVariants as item
use Rattle.bird_import.specs.declared.word.Word.{Word}
use Rattle.bird_import.specs.declared.word.WordKind.{WordKind}
use Rattle.bird_import.specs.declared.word.WordKind.TheVariants as kind

-- a word is this keyword or punctuator
unfoldable pub is_symbol : Symbol → WordKind → Bool
is_symbol wanted (kind.Symbol found) = sameb the_type found wanted
is_symbol wanted other = false

-- it is a name
unfoldable pub is_name : WordKind → Bool
is_name kind.Name = true
is_name other = false

-- it is a prefix
unfoldable pub is_prefix : WordKind → Bool
is_prefix kind.Prefix = true
is_prefix other = false

-- how many parentheses, brackets and braces are open behind a word, where so many are before it, unless it closes one that is not open
unfoldable pub depth_past : ℕ → WordKind → Option ℕ
depth_past depth word =
    if opens word then Some (depth + 1) else (if closes word then (if depth == 0 then None else Some (depth - 1)) else Some depth)

-- The index of the first wanted word among some words, of which the first has an index: outside of what is opened among them, where so many
-- are open before them, and before what closes more than that.
unfoldable pub first_outside : (WordKind → Bool) → ℕ → ℕ → List Word → Option ℕ
first_outside wanted depth at [] = None
first_outside wanted depth at (word ∷ words) =
    if depth == 0 && wanted word.kind then Some at
    else option_and_then (λ after. first_outside wanted after (at + 1) words) (depth_past depth word.kind)

-- how many blocks are open behind a word, where so many are before it: a brace that closes none counts for nothing
unfoldable pub blocks_behind : ℕ → WordKind → ℕ
blocks_behind depth word =
    if is_symbol symbol.LeftBrace word then depth + 1 else (if is_symbol symbol.RightBrace word then depth - 1 else depth)

-- an item, without where its name lies in memory
pub record ItemView : Type 0 where
  pub kind : ItemKind
  pub from : ℕ
  pub to : ℕ
  pub name : List ℕ
  pub is_closed : Bool
  pub is_ipv6 : Bool

abbrev pub view_of_item : Item → ItemView
view_of_item one =
    record { kind = one.kind; from = one.from; to = one.to; name = one.name.items; is_closed = one.is_closed; is_ipv6 = one.is_ipv6 }

-- `words` are those of the configuration.
module _ (words : List Word) where
  -- the index of the first wanted word from an index on, outside of what is opened from there on
  unfoldable pub outside_from : (WordKind → Bool) → ℕ → Option ℕ
  outside_from wanted from = first_outside wanted 0 from (drop from words)

  -- the word at an index is this word of BIRD's
  unfoldable pub is_foreign_at : ℕ → List ℕ → Bool
  is_foreign_at k word = is_foreign (kind_at words k) && bytes_eq (bytes_at words k) word

  -- a block opens at an index: its brace is not that of a pattern, which stands behind a prefix
  unfoldable pub opens_block : ℕ → Bool
  opens_block k = is_symbol symbol.LeftBrace (kind_at words k) && not (nat_lt 0 k && is_prefix (kind_at words (k - 1)))

  -- how many blocks are open before the word at an index
  unfoldable pub blocks_before : ℕ → ℕ
  blocks_before zero = 0
  blocks_before (suc k) = blocks_behind (blocks_before k) (kind_at words k)

  -- a definition whose first word has an index, and its `;` another
  abbrev pub definition_to : ℕ → ℕ → Definition
  definition_to at to = record { name = at + 1; from = at + 3; to = to }

  -- behind an index stands `NAME = VALUE ;`
  unfoldable pub definition_behind : ℕ → Option Definition
  definition_behind at =
      if is_name (kind_at words (at + 1)) && is_symbol symbol.Equal (kind_at words (at + 2))
      then option_map (definition_to at) (outside_from (is_symbol symbol.Semicolon) (at + 3))
      else None

  -- the definition that begins at an index, where so many blocks are open: none is within a block
  unfoldable pub definition_at : ℕ → ℕ → Option Definition
  definition_at depth at = if depth == 0 && is_foreign_at at (codes "define") then definition_behind at else None

  -- those that begin before an index, in order
  unfoldable pub definitions_before : ℕ → List Definition
  definitions_before zero = []
  definitions_before (suc k) = definitions_before k ++ option_to_list (definition_at (blocks_before k) k)

  -- all of them
  abbrev pub definitions_in : List Definition
  definitions_in = definitions_before (length words)

-- the definition `define NAME = VALUE ;` begins at an index, outside of each block
pub record IsDefinitionAt (words : List Word) (at : ℕ) (definition : Definition) : Type 0 where
  pub begins : IsForeignAt (codes "define") words at
  pub outermost : blocks_before words at ≡ 0
  pub named : IsNameAt words (at + 1)
  pub equals : IsAt symbol.Equal words (at + 2)
  pub ends : outside_from words (is_symbol symbol.Semicolon) (at + 3) ≡ Some definition.to
  pub stops : IsAt symbol.Semicolon words definition.to
  pub balanced : open_behind 0 (take (definition.to - (at + 3)) (drop (at + 3) words)) ≡ Some 0
  pub name : definition.name ≡ at + 1
  pub value : definition.from ≡ at + 3

-- it begins somewhere
abbrev pub IsDefinitionIn : List Word → Definition → Type 0
IsDefinitionIn words definition = (at : ℕ) × IsDefinitionAt words at definition

-- the word at an index is this one, a name or a word that only BIRD's configurations have
abbrev pub IsPlainAt : List ℕ → List Word → ℕ → Type 0
IsPlainAt bytes words k = (bytes_at words k ≡ bytes) × ((kind_at words k ≡ kind.Name) ⊎ (kind_at words k ≡ kind.Foreign))

-- it is `import` or `export`
abbrev pub IsDirectionAt : List Word → ℕ → Type 0
IsDirectionAt words k = IsPlainAt (codes "import") words k ⊎ IsPlainAt (codes "export") words k

-- what stands where an item of a kind begins: `filter`, `function`, a direction with `filter` and no name, or a direction with `where`
abbrev pub BeginsItem : ItemKind → List Word → ℕ → Type 0
BeginsItem item.Filter words from = IsAt symbol.Filter words from
BeginsItem item.Function words from = IsForeignAt (codes "function") words from
BeginsItem item.Anonymous words from = IsDirectionAt words from × IsAt symbol.Filter words (from + 1) × (IsNameAt words (from + 2) → ⊥)
BeginsItem item.Condition words from = IsDirectionAt words from × IsPlainAt (codes "where") words (from + 1)

-- the name of one that has a name: the word behind the first
abbrev pub IsNameOf : ItemKind → List Word → ℕ → List ℕ → Type 0
IsNameOf item.Filter words from name = name ≡ bytes_at words (from + 1)
IsNameOf item.Function words from name = name ≡ bytes_at words (from + 1)
IsNameOf other words from name = ⊤

-- an item stands in words, from an index on
pub record IsItemAt (words : List Word) (at : ℕ) (one : ItemView) : Type 0 where
  pub from : one.from ≡ at
  pub begins : BeginsItem one.kind words at
  pub named : IsNameOf one.kind words at one.name
  pub ordered : at < one.to
  pub within : one.to ≤ length words

abbrev pub IsItemIn : List Word → ItemView → Type 0
IsItemIn words one = IsItemAt words one.from one

-- items stand in words, one behind another
pub record AreItemsIn (words : List Word) (items : List ItemView) : Type 0 where
  pub each : All (IsItemIn words) items
  pub apart : AllPairs (λ one other. one.to ≤ other.from) items

-- so they do, and end at an index or before it
pub record AreUpTo (words : List Word) (next : ℕ) (items : List ItemView) : Type 0 where
  pub are : AreItemsIn words items
  pub behind : All (λ one. one.to ≤ next) items
