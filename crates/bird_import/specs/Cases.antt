-- `case` of addresses: the commands of a label stand in an `if`, and the other labels in its `else`.
use Rattle.std.specs.Prelude.{◌≡◌, ◌⊎◌, ℕ, zero, suc, ◌+◌, ◌≤◌, Bool, true, false, List, [], ◌∷◌, ◌++◌, Some, All, length, take}
use Rattle.filter_tokens.specs.declared.symbol.Symbol.{Symbol}
use Rattle.filter_tokens.specs.declared.symbol.Symbol.TheVariants as symbol
use Rattle.bird_import.specs.Alike.{AreAlike}
use Rattle.bird_import.specs.Blocks.{AreCommands}
use Rattle.bird_import.specs.Functions.{IsBlock}
use Rattle.bird_import.specs.Indices.{IsAt, kind_at}
use Rattle.bird_import.specs.Rules.{Is, IsSame, open_behind}
use Rattle.bird_import.specs.declared.word.Word.{Word}
use Rattle.bird_import.specs.declared.word.WordKind.{WordKind}
use Rattle.bird_import.specs.declared.word.WordKind.TheVariants as kind

-- a word of an expression that may be computed for each label again: no operator
abbrev pub is_simple : WordKind → Bool
is_simple kind.Name = true
is_simple kind.Number = true
is_simple (kind.Address number) = true
is_simple (kind.Symbol symbol.Net) = true
is_simple (kind.Symbol symbol.Dot) = true
is_simple (kind.Symbol symbol.Ip) = true
is_simple (kind.Symbol symbol.LeftParen) = true
is_simple (kind.Symbol symbol.RightParen) = true
is_simple other = false

-- a word is an address
abbrev pub is_address : WordKind → Bool
is_address (kind.Address number) = true
is_address other = false

-- a word of a label
abbrev pub is_of_label : WordKind → Bool
is_of_label (kind.Address number) = true
is_of_label (kind.Symbol symbol.Comma) = true
is_of_label (kind.Symbol symbol.DotDot) = true
is_of_label (kind.Symbol symbol.Else) = true
is_of_label other = false

-- `SUBJECT OPERATOR BOUND`
pub record IsCompared (operator : Symbol) (subject : List Word) (bound : Word) (words : List Word) : Type 0 where
  pub kept : List Word
  pub word : Word
  pub again : Word
  pub whole : words ≡ kept ++ word ∷ again ∷ []
  pub same : AreAlike IsSame subject kept
  pub is_operator : Is operator word
  pub is_bound : IsSame bound again

-- one address of a label is tested: `SUBJECT = ADDRESS`
pub record IsEqualTest (subject label test : List Word) : Type 0 where
  pub address : Word
  pub whole : label ≡ address ∷ []
  pub is_address : is_address address.kind ≡ true
  pub written : IsCompared symbol.Equal subject address test

-- `( SUBJECT >= LOW && SUBJECT <= HIGH )`
pub record IsBetweenTest (subject : List Word) (low high : Word) (test : List Word) : Type 0 where
  pub opening : Word
  pub lower : List Word
  pub operator : Word
  pub upper : List Word
  pub closing : Word
  pub whole : test ≡ opening ∷ (lower ++ operator ∷ (upper ++ closing ∷ []))
  pub is_opening : Is symbol.LeftParen opening
  pub is_closing : Is symbol.RightParen closing
  pub is_operator : Is symbol.And operator
  pub at_least : IsCompared symbol.GreaterEqual subject low lower
  pub at_most : IsCompared symbol.LessEqual subject high upper

-- a range of addresses in a label is tested
pub record IsRangeTest (subject label test : List Word) : Type 0 where
  pub low : Word
  pub dots : Word
  pub high : Word
  pub whole : label ≡ low ∷ dots ∷ high ∷ []
  pub is_low : is_address low.kind ≡ true
  pub are_dots : Is symbol.DotDot dots
  pub is_high : is_address high.kind ≡ true
  pub written : IsBetweenTest subject low high test

abbrev pub IsOneTest : List Word → List Word → List Word → Type 0
IsOneTest subject label test = IsEqualTest subject label test ⊎ IsRangeTest subject label test

-- the first of several addresses or ranges: `ONE, OTHERS` is tested by `TEST || TESTS`
pub record IsFirstTest (subject label test others tests : List Word) : Type 0 where
  pub one : List Word
  pub comma : Word
  pub first : List Word
  pub operator : Word
  pub labels : label ≡ one ++ comma ∷ others
  pub written : test ≡ first ++ operator ∷ tests
  pub is_comma : Is symbol.Comma comma
  pub is_operator : Is symbol.Or operator
  pub tested : IsOneTest subject one first

-- a label of one address or range and so many more is tested
unfoldable pub AreTests : List Word → ℕ → List Word → List Word → Type 0
AreTests subject zero label test = IsOneTest subject label test
AreTests subject (suc n) label test =
    (others : List Word) × (tests : List Word) × IsFirstTest subject label test others tests × AreTests subject n others tests

-- a label is tested
abbrev pub AreSomeTests : List Word → List Word → List Word → Type 0
AreSomeTests subject label test = (n : ℕ) × AreTests subject n label test

-- `else: COMMANDS`
pub record IsElsePart (words commands : List Word) : Type 0 where
  pub begin : Word
  pub colon : Word
  pub whole : words ≡ begin ∷ colon ∷ commands
  pub begins : Is symbol.Else begin
  pub is_colon : Is symbol.Colon colon
  pub are_commands : AreCommands commands

-- a label is at the front, or there is none and nothing else
pub record BeginsWithLabel (words : List Word) : Type 0 where
  pub label : List Word
  pub colon : Word
  pub rest : List Word
  pub whole : words ≡ label ++ colon ∷ rest
  pub is_label : All (λ word. is_of_label word.kind ≡ true) label
  pub is_colon : Is symbol.Colon colon

-- `case SUBJECT { PARTS }`
pub record IsCase (words subject parts : List Word) : Type 0 where
  pub begin : Word
  pub opening : Word
  pub closing : Word
  pub whole : words ≡ begin ∷ (subject ++ opening ∷ (parts ++ closing ∷ []))
  pub begins : Is symbol.Case begin
  pub simple : All (λ word. is_simple word.kind ≡ true) subject
  pub is_opening : Is symbol.LeftBrace opening
  pub is_closing : Is symbol.RightBrace closing

-- there is no part, or that of `else`
abbrev pub IsElseOrNone : List Word → Type 0
IsElseOrNone words = (words ≡ []) ⊎ ((commands : List Word) × IsElsePart words commands)

-- further parts of a `case`, or none
pub record AreParts (words : List Word) : Type 0 where
  pub balanced : open_behind 0 words ≡ Some 0
  pub labelled : (words ≡ []) ⊎ BeginsWithLabel words

-- `LABEL: COMMANDS AFTER`
pub record IsFirstPart (words label commands after : List Word) : Type 0 where
  pub colon : Word
  pub whole : words ≡ label ++ colon ∷ (commands ++ after)
  pub is_colon : Is symbol.Colon colon
  pub are_commands : AreCommands commands
  pub later : AreParts after

-- `BEFORE LABEL: COMMANDS AFTER`: the first part that is not that of `else`, and those before and behind it
pub record IsParted (parts before label commands after : List Word) : Type 0 where
  pub rest : List Word
  pub whole : parts ≡ before ++ rest
  pub earlier : IsElseOrNone before
  pub first : IsFirstPart rest label commands after

-- behind a label's address or range comes a further one or the end of the label
abbrev pub EndsRange : List Word → ℕ → Type 0
EndsRange words k = (length words ≤ k) ⊎ (IsAt symbol.Comma words k ⊎ IsAt symbol.Colon words k)

-- at an index stands an address, or a range of addresses: those from `low` to `high`
pub record IsRangeAt (words : List Word) (k low high : ℕ) : Type 0 where
  pub begins : kind_at words k ≡ kind.Address low
  pub ends : (EndsRange words (k + 1) × (high ≡ low))
      ⊎ (IsAt symbol.DotDot words (k + 1) × (kind_at words (k + 2) ≡ kind.Address high))

-- an address is in a label of some words, outside of what is opened there
pub record IsInLabel (address : ℕ) (words : List Word) : Type 0 where
  pub k : ℕ
  pub low : ℕ
  pub high : ℕ
  pub outside : open_behind 0 (take k words) ≡ Some 0
  pub range : IsRangeAt words k low high
  pub above : low ≤ address
  pub below : address ≤ high

-- no address of a label is in one of other parts
abbrev pub AreDistinct : List Word → List Word → Type 0
AreDistinct label parts = (address : ℕ) → IsInLabel address label → IsInLabel address parts → ⊥

-- no address from `low` to `high` is in the range at an index
abbrev pub IsFreeAt : ℕ → ℕ → List Word → ℕ → Type 0
IsFreeAt low high words k =
    (from to address : ℕ) → IsRangeAt words k from to → low ≤ address → address ≤ high → from ≤ address → address ≤ to → ⊥

-- no address of a label's range at an index is in a label of other parts
abbrev pub IsDistinctAt : List Word → List Word → ℕ → Type 0
IsDistinctAt label parts k =
    (low high address : ℕ) → IsRangeAt label k low high → low ≤ address → address ≤ high → IsInLabel address parts → ⊥

-- no `else` is at the front
abbrev pub HasNoElse : List Word → Type 0
HasNoElse back = (word : Word) (others : List Word) → back ≡ word ∷ others → Is symbol.Else word → ⊥

-- `else { COMMANDS }`
pub record IsElse (commands words : List Word) : Type 0 where
  pub begin : Word
  pub block : List Word
  pub whole : words ≡ begin ∷ block
  pub begins : Is symbol.Else begin
  pub is_block : IsBlock commands block

-- a copy of words and of further ones in braces
pub record IsBlockOf (before after words : List Word) : Type 0 where
  pub opening : Word
  pub first : List Word
  pub second : List Word
  pub closing : Word
  pub whole : words ≡ opening ∷ ((first ++ second) ++ closing ∷ [])
  pub is_opening : Is symbol.LeftBrace opening
  pub is_closing : Is symbol.RightBrace closing
  pub same_before : AreAlike IsSame before first
  pub same_after : AreAlike IsSame after second

-- `else case SUBJECT { BEFORE AFTER }`
pub record IsElseCase (subject before after words : List Word) : Type 0 where
  pub begin : Word
  pub again : Word
  pub kept : List Word
  pub block : List Word
  pub whole : words ≡ begin ∷ again ∷ (kept ++ block)
  pub begins : Is symbol.Else begin
  pub is_again : Is symbol.Case again
  pub same : AreAlike IsSame subject kept
  pub is_block : IsBlockOf before after block

-- the only other part is that of `else`
abbrev pub IsOnlyElse : List Word → List Word → List Word → Type 0
IsOnlyElse before after commands = (IsElsePart before commands × (after ≡ [])) ⊎ ((before ≡ []) × IsElsePart after commands)

-- what is done where a label does not hold: nothing, the commands of `else`, or a `case` of the other parts
abbrev pub IsOtherwise : List Word → List Word → List Word → List Word → List Word → Type 0
IsOtherwise subject before after words back =
    ((before ≡ []) × (after ≡ []) × (words ≡ []) × HasNoElse back)
    ⊎ (((commands : List Word) × IsOnlyElse before after commands × IsElse commands words) ⊎ IsElseCase subject before after words)

-- `if TEST then BLOCK REST`
pub record IsTested (words test block rest : List Word) : Type 0 where
  pub begin : Word
  pub decide : Word
  pub whole : words ≡ begin ∷ (test ++ decide ∷ (block ++ rest))
  pub begins : Is symbol.If begin
  pub decides : Is symbol.Then decide

-- A `case` is written as `if TEST then { COMMANDS }`, by its first label, and the other parts, which have other addresses, in an `else`.
pub record IsCaseTaken (old new back : List Word) : Type 0 where
  pub subject : List Word
  pub parts : List Word
  pub before : List Word
  pub label : List Word
  pub commands : List Word
  pub after : List Word
  pub is_case : IsCase old subject parts
  pub parted : IsParted parts before label commands after
  pub test : List Word
  pub block : List Word
  pub rest : List Word
  pub written : IsTested new test block rest
  pub tested : AreSomeTests subject label test
  pub distinct : AreDistinct label after
  pub is_block : IsBlock commands block
  pub otherwise : IsOtherwise subject before after rest back

-- A `case` is put in braces: so no `else` behind it becomes one of its own.
pub record IsCaseBraced (old new : List Word) : Type 0 where
  pub subject : List Word
  pub parts : List Word
  pub is_case : IsCase old subject parts
  pub balanced : open_behind 0 parts ≡ Some 0
  pub is_block : IsBlock old new
