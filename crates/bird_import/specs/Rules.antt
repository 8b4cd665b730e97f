-- The rules by which words of a filter of BIRD's are written as others: each keeps what the filter does. As in the BIRD 2.0 User's Guide;
-- that printing is left out, and where a `;` may be missing, is this project's own choice.
use Rattle.std.specs.Prelude.{◌≡◌, ◌≢◌, ◌⊎◌, ℕ, ◌+◌, ◌-◌, ◌<◌, ◌==◌, ◌||◌, Bool, true, false, if◌then◌else◌}
use Rattle.std.specs.Prelude.{List, [], ◌∷◌, ◌++◌, Option, Some, None, All, codes, drop, length, ⊤}
use Rattle.std.specs.Str.{bytes_eq}
use Rattle.bird_import.specs.Alike.{AreAlike}
use Rattle.bird_import.specs.Indices.{IsAt, IsNameAt, bytes_at}
use Rattle.filter_tokens.specs.declared.symbol.Symbol.{Symbol}
use Rattle.filter_tokens.specs.declared.symbol.Symbol.TheVariants as symbol
use Rattle.bird_import.specs.declared.word.Word.{Word}
use Rattle.bird_import.specs.declared.word.WordKind.{WordKind}
use Rattle.bird_import.specs.declared.word.WordKind.TheVariants as kind

-- a word is this keyword or punctuator
abbrev pub Is : Symbol → Word → Type 0
Is wanted word = word.kind ≡ kind.Symbol wanted

-- it is this word of BIRD's
abbrev pub IsForeign : List ℕ → Word → Type 0
IsForeign name word = (word.kind ≡ kind.Foreign) × (word.bytes.now ≡ name)

-- it is this name
abbrev pub IsNamed : List ℕ → Word → Type 0
IsNamed name word = (word.kind ≡ kind.Name) × (word.bytes.now ≡ name)

-- two words are the same, wherever they stand
abbrev pub IsSame : Word → Word → Type 0
IsSame one other = (one.kind ≡ other.kind) × (one.bytes.now ≡ other.bytes.now)

-- words between two symbols
pub record IsEnclosed (left right : Symbol) (inner words : List Word) : Type 0 where
  pub opening : Word
  pub closing : Word
  pub whole : words ≡ opening ∷ (inner ++ closing ∷ [])
  pub is_opening : Is left opening
  pub is_closing : Is right closing

-- words in parentheses that are put in
pub record IsGrouped (inner new : List Word) : Type 0 where
  pub opening : Word
  pub closing : Word
  pub kept : List Word
  pub same : AreAlike IsSame inner kept
  pub is_opening : Is symbol.LeftParen opening
  pub is_closing : Is symbol.RightParen closing
  pub whole : new ≡ opening ∷ (kept ++ closing ∷ [])

-- whether a word opens, or closes, parentheses, brackets or braces
abbrev pub opens : WordKind → Bool
opens (kind.Symbol symbol.LeftParen) = true
opens (kind.Symbol symbol.LeftBracket) = true
opens (kind.Symbol symbol.LeftBrace) = true
opens other = false

abbrev pub closes : WordKind → Bool
closes (kind.Symbol symbol.RightParen) = true
closes (kind.Symbol symbol.RightBracket) = true
closes (kind.Symbol symbol.RightBrace) = true
closes other = false

-- how many are open behind some words, where so many are before them; none where one is closed that is not open
unfoldable pub open_behind : ℕ → List Word → Option ℕ
open_behind depth [] = Some depth
open_behind depth (word ∷ words) =
    if opens word.kind then open_behind (depth + 1) words
    else (if closes word.kind then (if depth == 0 then None else open_behind (depth - 1) words)
    else open_behind depth words)

-- `[ .. ]`
pub record IsSet (words : List Word) : Type 0 where
  pub opening : Word
  pub inner : List Word
  pub closing : Word
  pub whole : words ≡ opening ∷ (inner ++ closing ∷ [])
  pub is_opening : Is symbol.LeftBracket opening
  pub is_closing : Is symbol.RightBracket closing
  pub balanced : open_behind 0 inner ≡ Some 0

-- a value that is the same beside any operator: one word, or a set
abbrev pub IsOneOperand : List Word → Type 0
IsOneOperand value = (length value ≡ 1) ⊎ IsSet value

-- a value that is put in: one word or a set as it is, and any other in parentheses
abbrev pub IsPlaced : List Word → List Word → Type 0
IsPlaced value new = (IsOneOperand value × AreAlike IsSame value new) ⊎ ((IsOneOperand value → ⊥) × IsGrouped value new)

-- Words begin with the definition of a name, `define NAME = VALUE;`, which ends before the name, and the value is put in: that goes to the
-- first `;`.
pub record Defines (words : List Word) (name : Word) (new : List Word) : Type 0 where
  pub begin : Word
  pub defined : Word
  pub equal : Word
  pub value : List Word
  pub end : Word
  pub after : List Word
  pub stands : words ≡ begin ∷ defined ∷ equal ∷ (value ++ end ∷ after)
  pub begins : IsForeign (codes "define") begin
  pub names : IsSame defined name
  pub equals : Is symbol.Equal equal
  pub ends : Is symbol.Semicolon end
  pub first : All (λ word. word.kind ≢ kind.Symbol symbol.Semicolon) value
  pub earlier : end.at < name.at
  pub placed : IsPlaced value new

-- a name is written as what it is defined as
pub record IsDefined (config old new : List Word) : Type 0 where
  pub name : Word
  pub alone : old ≡ name ∷ []
  pub is_name : name.kind ≡ kind.Name
  pub at : ℕ
  pub by : Defines (drop at config) name new

-- keywords and punctuators of what may be printed without doing anything else
abbrev pub is_harmless_symbol : Symbol → Bool
is_harmless_symbol symbol.Comma = true
is_harmless_symbol symbol.Dot = true
is_harmless_symbol symbol.LeftParen = true
is_harmless_symbol symbol.RightParen = true
is_harmless_symbol symbol.Plus = true
is_harmless_symbol symbol.Minus = true
is_harmless_symbol symbol.Times = true
is_harmless_symbol symbol.Net = true
is_harmless_symbol symbol.RipMetric = true
is_harmless_symbol symbol.Ip = true
is_harmless_symbol symbol.True = true
is_harmless_symbol symbol.False = true
is_harmless_symbol other = false

-- attributes whose names this language leaves out
abbrev pub is_attribute_word : List ℕ → Bool
is_attribute_word word =
    bytes_eq word (codes "from") || (bytes_eq word (codes "proto") || (bytes_eq word (codes "source") || bytes_eq word (codes "preference")))

-- a word that may be printed: no division can be made of such words
abbrev pub is_harmless : WordKind → List ℕ → Bool
is_harmless (kind.Symbol symbol) bytes = is_harmless_symbol symbol
is_harmless kind.Foreign bytes = is_attribute_word bytes
is_harmless kind.Strange bytes = false
is_harmless other bytes = true

abbrev pub IsHarmless : Word → Type 0
IsHarmless word = is_harmless word.kind word.bytes.now ≡ true

-- no function is called at an index: of names, `mask` alone stands before a parenthesis
abbrev pub CallsNoneAt : List Word → ℕ → Type 0
CallsNoneAt words k = IsNameAt words k → IsAt symbol.LeftParen words (k + 1) → bytes_at words k ≡ codes "mask"

-- none is called among some words
abbrev pub CallsNone : List Word → Type 0
CallsNone words = (k : ℕ) → CallsNoneAt words k

-- a command that prints: its words do nothing else, and a `;` stands in its place
pub record IsUnprinted (old new : List Word) : Type 0 where
  pub print : Word
  pub prints : IsForeign (codes "print") print ⊎ IsForeign (codes "printn") print
  pub terms : List Word
  pub harmless : All IsHarmless terms
  pub free : CallsNone terms
  pub end : Word
  pub ends : Is symbol.Semicolon end
  pub whole : old ≡ print ∷ (terms ++ end ∷ [])
  pub stop : Word
  pub stops : Is symbol.Semicolon stop
  pub written : new ≡ stop ∷ []

-- nothing is left of some terms, or their first text
abbrev pub IsFirstText : List Word → List Word → Type 0
IsFirstText old [] = ⊤
IsFirstText (text ∷ others) (kept ∷ []) = (text.kind ≡ kind.Text) × IsSame text kept
IsFirstText old other = ⊥

-- what is printed behind `accept` or `reject`: it does nothing else, and its first text is kept, or nothing
pub record IsShortened (front old new : List Word) : Type 0 where
  pub before : List Word
  pub command : Word
  pub last : front ≡ before ++ command ∷ []
  pub ends : Is symbol.Accept command ⊎ Is symbol.Reject command
  pub harmless : All IsHarmless old
  pub free : CallsNone old
  pub kept : IsFirstText old new

-- a `;` is put in before `else` or a closing brace
pub record IsSeparated (old new back : List Word) : Type 0 where
  pub none : old ≡ []
  pub stop : Word
  pub stops : Is symbol.Semicolon stop
  pub written : new ≡ stop ∷ []
  pub next : Word
  pub others : List Word
  pub behind : back ≡ next ∷ others
  pub ends : Is symbol.Else next ⊎ Is symbol.RightBrace next

-- a word behind which a command begins
abbrev pub ends_command : WordKind → Bool
ends_command (kind.Symbol symbol.Semicolon) = true
ends_command (kind.Symbol symbol.LeftBrace) = true
ends_command (kind.Symbol symbol.RightBrace) = true
ends_command (kind.Symbol symbol.Then) = true
ends_command (kind.Symbol symbol.Else) = true
ends_command (kind.Symbol symbol.Colon) = true
ends_command other = false

-- a word is a number or an address
abbrev pub is_constant : WordKind → Bool
is_constant kind.Number = true
is_constant (kind.Address address) = true
is_constant other = false

-- What stands before a `(` here calls nothing: a label may begin behind the word, or a member of a set.
abbrev pub begins_member : WordKind → Bool
begins_member (kind.Symbol symbol.Comma) = true
begins_member (kind.Symbol symbol.DotDot) = true
begins_member (kind.Symbol symbol.LeftBracket) = true
begins_member other = false

abbrev pub begins_constant : WordKind → Bool
begins_constant word = ends_command word || begins_member word

-- a label or a set goes on, or ends, with this word
abbrev pub ends_constant : WordKind → Bool
ends_constant (kind.Symbol symbol.Comma) = true
ends_constant (kind.Symbol symbol.DotDot) = true
ends_constant (kind.Symbol symbol.Colon) = true
ends_constant (kind.Symbol symbol.RightBracket) = true
ends_constant other = false

-- `( CONSTANT )` is written as `CONSTANT`
pub record IsBare (old new : List Word) : Type 0 where
  pub opening : Word
  pub constant : Word
  pub closing : Word
  pub whole : old ≡ opening ∷ constant ∷ closing ∷ []
  pub is_opening : Is symbol.LeftParen opening
  pub is_one : is_constant constant.kind ≡ true
  pub is_closing : Is symbol.RightParen closing
  pub kept : Word
  pub same : IsSame constant kept
  pub written : new ≡ kept ∷ []

-- a constant of a label or of a set is taken out of its parentheses: BIRD's labels are numbers, or what is computed in parentheses
pub record IsUnwrapped (front old new back : List Word) : Type 0 where
  pub before : List Word
  pub last : Word
  pub ahead : front ≡ before ++ last ∷ []
  pub begins : begins_constant last.kind ≡ true
  pub bare : IsBare old new
  pub next : Word
  pub others : List Word
  pub behind : back ≡ next ∷ others
  pub ends : ends_constant next.kind ≡ true

-- How a test of the kind of a prefix comes out, where all prefixes are of IPv4.
abbrev pub IsTest : Word → Word → Word → Type 0
IsTest compare family answer =
    (Is symbol.Equal compare × IsNamed (codes "NET_IP4") family × Is symbol.True answer)
    ⊎ ((Is symbol.NotEqual compare × IsNamed (codes "NET_IP4") family × Is symbol.False answer)
    ⊎ ((Is symbol.Equal compare × IsNamed (codes "NET_IP6") family × Is symbol.False answer)
    ⊎ (Is symbol.NotEqual compare × IsNamed (codes "NET_IP6") family × Is symbol.True answer)))

-- `net.type` compared: its answer is written
pub record IsTypeTest (old new : List Word) : Type 0 where
  pub net : Word
  pub dot : Word
  pub property : Word
  pub compare : Word
  pub family : Word
  pub whole : old ≡ net ∷ dot ∷ property ∷ compare ∷ family ∷ []
  pub of_net : Is symbol.Net net × Is symbol.Dot dot × IsNamed (codes "type") property
  pub answer : Word
  pub written : new ≡ answer ∷ []
  pub is : IsTest compare family answer

-- a word with which no expression goes on
abbrev pub is_separator : WordKind → Bool
is_separator (kind.Symbol symbol.Semicolon) = true
is_separator (kind.Symbol symbol.Then) = true
is_separator (kind.Symbol symbol.Else) = true
is_separator (kind.Symbol symbol.Colon) = true
is_separator (kind.Symbol symbol.If) = true
is_separator (kind.Symbol symbol.Case) = true
is_separator other = false

-- an expression begins behind this word
abbrev pub BeginsBehind : Word → Type 0
BeginsBehind word =
    Is symbol.If word ⊎ (Is symbol.Case word ⊎ (Is symbol.LeftParen word ⊎ IsForeign (codes "return") word))

-- it begins behind `NAME =`, where that begins a command
pub record IsAssignedBehind (front : List Word) : Type 0 where
  pub before : List Word
  pub last : Word
  pub name : Word
  pub equal : Word
  pub whole : front ≡ ((before ++ last ∷ []) ++ name ∷ []) ++ equal ∷ []
  pub begins : ends_command last.kind ≡ true
  pub named : (name.kind ≡ kind.Name) ⊎ Is symbol.RipMetric name
  pub equals : Is symbol.Equal equal

-- an expression begins behind these words
abbrev pub BeginsExpression : List Word → Type 0
BeginsExpression front =
    ((before : List Word) × (word : Word) × (front ≡ before ++ word ∷ []) × BeginsBehind word) ⊎ IsAssignedBehind front

-- Of a chain of `&&` and `||` the operands before an operator are put into parentheses: in BIRD both have one level, and group to the left.
pub record IsChainGrouped (front old new back : List Word) : Type 0 where
  pub grouped : IsGrouped old new
  pub begins : BeginsExpression front
  pub balanced : open_behind 0 old ≡ Some 0
  pub one : All (λ word. is_separator word.kind ≡ false) old
  pub operator : Word
  pub others : List Word
  pub behind : back ≡ operator ∷ others
  pub is : Is symbol.And operator ⊎ Is symbol.Or operator

-- a word is the name of a kind
abbrev pub is_kind : WordKind → Bool
is_kind (kind.Symbol symbol.Int) = true
is_kind (kind.Symbol symbol.Bool) = true
is_kind (kind.Symbol symbol.Ip) = true
is_kind (kind.Symbol symbol.Prefix) = true
is_kind other = false

-- `KIND NAME =` is declared as `KIND NAME;`
pub record IsDeclaredAs (declaration declared : List Word) : Type 0 where
  pub kind_word : Word
  pub name : Word
  pub equal : Word
  pub whole : declaration ≡ kind_word ∷ name ∷ equal ∷ []
  pub is_kind_word : is_kind kind_word.kind ≡ true
  pub is_name : name.kind ≡ kind.Name
  pub equals : Is symbol.Equal equal
  pub first : Word
  pub second : Word
  pub stop : Word
  pub written : declared ≡ first ∷ second ∷ stop ∷ []
  pub same_kind : IsSame kind_word first
  pub same_name : IsSame name second
  pub stops : Is symbol.Semicolon stop

-- it is assigned as `NAME =`
pub record IsAssignedAs (declaration left : List Word) : Type 0 where
  pub kind_word : Word
  pub name : Word
  pub last : Word
  pub whole : declaration ≡ kind_word ∷ name ∷ last ∷ []
  pub again : Word
  pub equal : Word
  pub written : left ≡ again ∷ equal ∷ []
  pub same : IsSame name again
  pub equals : Is symbol.Equal equal

-- `FRONT KIND NAME =` is written as `KIND NAME; FRONT NAME =`
pub record IsMoved (front declaration new : List Word) : Type 0 where
  pub declared : List Word
  pub rest : List Word
  pub kept : List Word
  pub left : List Word
  pub written : new ≡ declared ++ rest
  pub others : rest ≡ kept ++ left
  pub declares : IsDeclaredAs declaration declared
  pub same : AreAlike IsSame front kept
  pub assigns : IsAssignedAs declaration left

-- A declaration is moved before the brace of a body.
pub record IsHoisted (old new : List Word) : Type 0 where
  pub brace : Word
  pub between : List Word
  pub declaration : List Word
  pub whole : old ≡ (brace ∷ between) ++ declaration
  pub opens_body : Is symbol.LeftBrace brace
  pub moved : IsMoved (brace ∷ between) declaration new
