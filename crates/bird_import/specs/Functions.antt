-- Functions without parameters: what they return, and what stands for a call of one.
use Rattle.std.specs.Prelude.{◌≡◌, ◌≢◌, ◌⊎◌, ◌<◌, ℕ, ◌+◌, Bool, true, false, false, List, [], ◌∷◌, ◌++◌, Some, All, codes, slice_get}
use Rattle.filter_tokens.specs.declared.symbol.Symbol.{Symbol}
use Rattle.filter_tokens.specs.declared.symbol.Symbol.TheVariants as symbol
use Rattle.bird_import.specs.Alike.{AreAlike}
use Rattle.bird_import.specs.Rules.{Is, IsForeign, IsGrouped, IsNamed, IsSame, ends_command, is_kind, is_separator, open_behind}
use Rattle.bird_import.specs.declared.word.Word.{Word}
use Rattle.bird_import.specs.declared.word.WordKind.{WordKind}
use Rattle.bird_import.specs.declared.word.WordKind.TheVariants as kind

-- words that are one expression: they close what they open, and none of them ends an expression
pub record IsExpression (words : List Word) : Type 0 where
  pub balanced : open_behind 0 words ≡ Some 0
  pub one : All (λ word. is_separator word.kind ≡ false) words

-- `return VALUE;`
pub record IsReturn (words value : List Word) : Type 0 where
  pub command : Word
  pub stop : Word
  pub whole : words ≡ command ∷ (value ++ stop ∷ [])
  pub returns : IsForeign (codes "return") command
  pub stops : Is symbol.Semicolon stop
  pub expression : IsExpression value

-- words in braces
pub record IsBraced (inner words : List Word) : Type 0 where
  pub opening : Word
  pub closing : Word
  pub whole : words ≡ opening ∷ (inner ++ closing ∷ [])
  pub is_opening : Is symbol.LeftBrace opening
  pub is_closing : Is symbol.RightBrace closing

-- words return a value: `return VALUE;`, also in braces
abbrev pub Returns : List Word → List Word → Type 0
Returns words value = IsReturn words value ⊎ ((inner : List Word) × IsBraced inner words × IsReturn inner value)

-- a word behind which a command is on no condition
abbrev pub ends_alone : WordKind → Bool
ends_alone (kind.Symbol symbol.Semicolon) = true
ends_alone (kind.Symbol symbol.LeftBrace) = true
ends_alone (kind.Symbol symbol.RightBrace) = true
ends_alone other = false

-- a command behind these words is on no condition
abbrev pub StandsAlone : List Word → Type 0
StandsAlone front = (before : List Word) × (last : Word) × (front ≡ before ++ last ∷ []) × (ends_alone last.kind ≡ true)

-- What is returned where a condition holds, and what otherwise, follow one another: only `;` is between them, or `else`.
abbrev pub IsBetween : List Word → List Word → Type 0
IsBetween front middle =
    (StandsAlone front × All (Is symbol.Semicolon) middle) ⊎ ((word : Word) × (middle ≡ word ∷ []) × Is symbol.Else word)

-- `( CONDITION ) || ( OTHER )`, or with `&&`
pub record IsJoined (operator : Symbol) (condition other words : List Word) : Type 0 where
  pub first : List Word
  pub word : Word
  pub second : List Word
  pub whole : words ≡ first ++ word ∷ second
  pub is_operator : Is operator word
  pub is_first : IsGrouped condition first
  pub is_second : IsGrouped other second

-- what is true or false on a condition, and another value otherwise: `( CONDITION ) || ( OTHER )`, or `! ( CONDITION ) && ( OTHER )`
abbrev pub IsAnswered : Word → List Word → List Word → List Word → Type 0
IsAnswered answer condition other words =
    (Is symbol.True answer × IsJoined symbol.Or condition other words)
    ⊎ (Is symbol.False answer × ((negation : Word) × (rest : List Word) × (words ≡ negation ∷ rest) × Is symbol.Not negation
    × IsJoined symbol.And condition other rest))

-- `if CONDITION then COMMANDS`
pub record IsConditional (words condition commands : List Word) : Type 0 where
  pub begin : Word
  pub decide : Word
  pub whole : words ≡ begin ∷ (condition ++ decide ∷ commands)
  pub begins : Is symbol.If begin
  pub decides : Is symbol.Then decide
  pub expression : IsExpression condition

-- `if CONDITION then return ANSWER; MIDDLE return OTHER;`
pub record Decides (words condition : List Word) (answer : Word) (middle other : List Word) : Type 0 where
  pub first : List Word
  pub last : List Word
  pub conditional : IsConditional words condition (first ++ (middle ++ last))
  pub on_condition : Returns first (answer ∷ [])
  pub otherwise : Returns last other

-- `if CONDITION then return true; return OTHER;` returns one value, as does the same with `false`.
pub record IsDecided (front old new : List Word) : Type 0 where
  pub condition : List Word
  pub answer : Word
  pub middle : List Word
  pub other : List Word
  pub decides : Decides old condition answer middle other
  pub apart : IsBetween front middle
  pub value : List Word
  pub written : IsReturn new value
  pub meant : IsAnswered answer condition other value

-- `BETWEEN { BODY }`, whose last brace is `end`
pub record HasBody (words between body : List Word) (end : Word) : Type 0 where
  pub begin : Word
  pub whole : words ≡ between ++ begin ∷ (body ++ end ∷ [])
  pub first : All (λ word. word.kind ≢ kind.Symbol symbol.LeftBrace) between
  pub begins : Is symbol.LeftBrace begin
  pub ends : Is symbol.RightBrace end
  pub balanced : open_behind 0 body ≡ Some 0

-- `function NAME() BETWEEN { BODY }`
pub record IsFunction (name : List ℕ) (words between body : List Word) (end : Word) : Type 0 where
  pub head : Word
  pub called : Word
  pub opening : Word
  pub closing : Word
  pub rest : List Word
  pub whole : words ≡ head ∷ called ∷ opening ∷ closing ∷ rest
  pub is_function : IsForeign (codes "function") head
  pub is_called : IsNamed name called
  pub is_opening : Is symbol.LeftParen opening
  pub is_closing : Is symbol.RightParen closing
  pub has_body : HasBody rest between body end

-- two words that follow one another declare a variable: a name stands behind the word for a kind
abbrev pub IsDeclaration : Word → Word → Type 0
IsDeclaration first second = (is_kind first.kind ≡ true) × (second.kind ≡ kind.Name)

-- no variable is declared by the word at an index and the one behind it
abbrev pub DeclaresNothingAt : List Word → ℕ → Type 0
DeclaresNothingAt words k = (x y : Word) → slice_get words k ≡ Some x → slice_get words (k + 1) ≡ Some y → IsDeclaration x y → ⊥

-- no variable is declared among some words
abbrev pub DeclaresNothing : List Word → Type 0
DeclaresNothing words = (k : ℕ) → DeclaresNothingAt words k

-- between a function's name and its body nothing is declared: there is nothing, or `-> KIND`
abbrev pub IsPlain : List Word → Type 0
IsPlain between = (between ≡ []) ⊎ ((minus : Word) × (others : List Word) × (between ≡ minus ∷ others) × Is symbol.Minus minus)

-- a command begins behind these words
abbrev pub BeginsCommand : List Word → Type 0
BeginsCommand front = (before : List Word) × (last : Word) × (front ≡ before ++ last ∷ []) × (ends_command last.kind ≡ true)

-- what stands behind these words is no part of a value
abbrev pub IsNoPart : List Word → Type 0
IsNoPart front = (before : List Word) (dot : Word) → front ≡ before ++ dot ∷ [] → Is symbol.Dot dot → ⊥

-- a copy of words in braces
abbrev pub IsBlock : List Word → List Word → Type 0
IsBlock commands words = (kept : List Word) × AreAlike IsSame commands kept × IsBraced kept words

-- where a command calls a function that returns nothing, its commands stand in braces
pub record IsRun (body front rest new : List Word) : Type 0 where
  pub stop : Word
  pub whole : rest ≡ stop ∷ []
  pub stops : Is symbol.Semicolon stop
  pub begins : BeginsCommand front
  pub returns_nothing : All (λ word. IsForeign (codes "return") word → ⊥) body
  pub written : IsBlock body new

-- commands return a value, and do nothing else
pub record OnlyReturns (body value : List Word) : Type 0 where
  pub empty : List Word
  pub last : List Word
  pub parts : body ≡ empty ++ last
  pub do_nothing : All (Is symbol.Semicolon) empty
  pub returns : Returns last value

-- where a function's value is used, what it returns stands in parentheses
pub record IsValued (body front rest new : List Word) : Type 0 where
  pub none : rest ≡ []
  pub whole_name : IsNoPart front
  pub value : List Word
  pub returns : OnlyReturns body value
  pub written : IsGrouped value new

-- `NAME() REST`
pub record IsCall (words : List Word) (name : Word) (rest : List Word) : Type 0 where
  pub opening : Word
  pub closing : Word
  pub whole : words ≡ name ∷ opening ∷ closing ∷ rest
  pub is_name : name.kind ≡ kind.Name
  pub is_opening : Is symbol.LeftParen opening
  pub is_closing : Is symbol.RightParen closing

-- a function of a name ends before the place of this name
pub record EndsBefore (name : Word) (words : List Word) : Type 0 where
  pub between : List Word
  pub body : List Word
  pub end : Word
  pub is_function : IsFunction name.bytes.now words between body end
  pub earlier : end.at < name.at

-- neither between a function's name and its body nor in that a variable is declared
pub record IsPlainFunction (between body : List Word) : Type 0 where
  pub plain : IsPlain between
  pub no_variables : DeclaresNothing body

-- a function of a name declares nothing, and these are its commands
pub record HasPlainBody (name : List ℕ) (words body : List Word) : Type 0 where
  pub between : List Word
  pub end : Word
  pub is_function : IsFunction name words between body end
  pub is_plain : IsPlainFunction between body

-- A function of the configuration is called, which ends before the call. Its words have become others, and these stand for the call.
pub record IsCallOf (source function front old new : List Word) : Type 0 where
  pub name : Word
  pub rest : List Word
  pub call : IsCall old name rest
  pub earlier : EndsBefore name source
  pub body : List Word
  pub is_function : HasPlainBody name.bytes.now function body
  pub written : IsRun body front rest new ⊎ IsValued body front rest new
