-- How a configuration is cut into words: nothing is lost of its text but space and comments. (This project's own choice.)
use Rattle.std.specs.Prelude.{◌≡◌, ◌⊎◌, ℕ, ◌+◌, ◌-◌, ◌<◌, ◌≤◌, Bool, true, false, ◌&&◌, List, [], ◌∷◌, length, map, take, drop}
use Rattle.std.specs.Prelude.{Option, Some, None, not, ◌||◌, slice_index, if◌then◌else◌, ◌==◌}
use Rattle.std.specs.Char.{is_ascii_digit}
use Rattle.std.specs.List.{prefix_len}
use Rattle.prefix_patterns.specs.Token.{dot, slash}
use Rattle.filter_tokens.specs.Codes.{fault_place}
use Rattle.filter_tokens.specs.Shapes.{quote, line_feed, continues_word}
use Rattle.filter_tokens.specs.Tokenization.{star, begins_with, IsToken, IsPart, AreFrontParts, tokens_among}
use Rattle.filter_tokens.specs.declared.fault.TokenFault.{TokenFault}
use Rattle.filter_tokens.specs.declared.fault.TokenFault.TheVariants as fault
use Rattle.filter_tokens.specs.declared.part.Part.{Part}
use Rattle.filter_tokens.specs.declared.token.Token.{Token}
use Rattle.filter_tokens.specs.declared.token_kind.TokenKind.{TokenKind}
use Rattle.bird_import.specs.Spelling.{kind_of}
use Rattle.bird_import.specs.declared.cut.Cut.{Cut}
use Rattle.bird_import.specs.declared.word.Word.{Word}
use Rattle.bird_import.specs.declared.word.WordKind.{WordKind}
use Rattle.bird_import.specs.declared.word.WordKind.TheVariants as kind

-- between two places of a text there is nothing but space and comments
pub record IsGapBetween (text : List ℕ) (from to : ℕ) : Type 0 where
  pub parts : List Part
  pub cut : AreFrontParts parts (drop from text) (drop to text)
  pub gaps : tokens_among parts from ≡ []
  pub in_order : from ≤ to

-- no space, no comment and no token of filters begins at a place of a text
abbrev pub NoPartAt : List ℕ → ℕ → Type 0
NoPartAt text at = (part : Part) → IsPart (drop at text) part → ⊥

-- a text in double quotes begins here
abbrev pub opens_text : List ℕ → Bool
opens_text text = begins_with quote text

-- a comment between `/*` and `*/` begins here
abbrev pub opens_comment : List ℕ → Bool
opens_comment text = begins_with slash text && begins_with star (drop 1 text)

-- `'`, at both ends of a name in single quotes
abbrev pub single_quote : ℕ
single_quote = 39

-- a byte of such a name, which ends on its line
abbrev pub is_of_name : ℕ → Bool
is_of_name byte = not (byte == single_quote || byte == line_feed)

-- the bytes of a name in single quotes behind whose first quote a text goes on: up to the next quote, or that first one where no name ends
abbrev pub quoted_len : List ℕ → ℕ
quoted_len others =
    if slice_index others (prefix_len is_of_name others) == single_quote then prefix_len is_of_name others + 2 else 1

-- a word that is no token goes on with letters, digits and `_`, and a number or an address that is none with `.` and `/` as well
abbrev pub goes_on : Bool → ℕ → Bool
goes_on is_number byte = continues_word byte || (is_number && (byte == dot || byte == slash))

-- `%`, `?`, `|` and `&`, which stand in BIRD's expressions
abbrev pub is_operator : ℕ → Bool
is_operator byte = byte == 37 || byte == 63 || byte == 124 || byte == 38

-- what begins no token is a word that only BIRD's configurations have, or a byte that begins no word
abbrev pub other_kind : List ℕ → WordKind
other_kind [] = kind.Strange
other_kind (first ∷ others) =
    if first == single_quote || continues_word first || is_operator first then kind.Foreign else kind.Strange

-- how many bytes it has: those of a name in single quotes, of a word or of a number, and of others one
abbrev pub other_len : List ℕ → ℕ
other_len [] = 0
other_len (first ∷ others) =
    if first == single_quote then quoted_len others
    else if continues_word first then 1 + prefix_len (goes_on (is_ascii_digit first)) others
    else 1

-- a word stands where nothing of the filter language begins, and neither a comment nor a text that does not end
pub record IsOtherIn (text : List ℕ) (word : Word) : Type 0 where
  pub none : NoPartAt text word.at
  pub no_text : opens_text (drop word.at text) ≡ false
  pub no_comment : opens_comment (drop word.at text) ≡ false
  pub of_kind : word.kind ≡ other_kind (drop word.at text)
  pub whole : length word.bytes.now ≡ other_len (drop word.at text)

-- a word stands in a text at its place: a token of filters, of its kind, or what is none
abbrev pub IsWordIn : List ℕ → Word → Type 0
IsWordIn text word =
    ((token : TokenKind) × (word.kind ≡ kind_of token) × IsToken (drop word.at text) token (length word.bytes.now)) ⊎ IsOtherIn text word

-- a word is the next of a text behind a place: between them is its gap, and it has its bytes of the text, one at least
pub record IsNextWord (text : List ℕ) (behind : ℕ) (word : Word) : Type 0 where
  pub between : IsGapBetween text behind word.at
  pub stands : IsWordIn text word
  pub some : 0 < length word.bytes.now
  pub gap : word.gap.now ≡ take (word.at - behind) (drop behind text)
  pub bytes : word.bytes.now ≡ take (length word.bytes.now) (drop word.at text)

-- a text has these words, one behind another from a place on, with nothing but space and comments before each; the last ends at `end`
unfoldable pub HasWords : List ℕ → ℕ → List Word → ℕ → Type 0
HasWords text behind [] end = behind ≡ end
HasWords text behind (word ∷ words) end = IsNextWord text behind word × HasWords text (word.at + length word.bytes.now) words end

-- a comment or a text begins here, of which the fault says that it does not end
abbrev pub IsOpenedBy : List ℕ → TokenFault → Type 0
IsOpenedBy text (fault.UnendedText at) = opens_text text ≡ true
IsOpenedBy text (fault.UnendedComment at) = opens_comment text ≡ true
IsOpenedBy text others = ⊥

-- behind a place, space and comments go to the end of a text, or to a comment or a text in quotes that does not end, where no token begins
abbrev pub EndsAt : List ℕ → ℕ → Option TokenFault → Type 0
EndsAt text behind None = IsGapBetween text behind (length text)
EndsAt text behind (Some fault) =
    IsGapBetween text behind (fault_place fault) × NoPartAt text (fault_place fault) × (fault_place fault < length text)
    × IsOpenedBy (drop (fault_place fault) text) fault

-- a text is cut into words, from its front on
pub record IsCutInto (text : List ℕ) (cut : Cut) : Type 0 where
  pub behind : ℕ
  pub words : HasWords text 0 cut.words.items behind
  pub ends : EndsAt text behind cut.end

-- a word without where it lies in memory
pub record WordView : Type 0 where
  pub kind : WordKind
  pub at : ℕ
  pub gap : List ℕ
  pub bytes : List ℕ

abbrev pub view_of_word : Word → WordView
view_of_word word = record { kind = word.kind; at = word.at; gap = word.gap.now; bytes = word.bytes.now }

-- two cuts have the same words, and end alike
abbrev pub AreOneCut : Cut → Cut → Type 0
AreOneCut one other = (map view_of_word one.words.items ≡ map view_of_word other.words.items) × (one.end ≡ other.end)

-- tokens whose places count from `at` stand in a text, from a place on up to `to`, with nothing but space and comments between them
pub record AreTokensIn (text : List ℕ) (at : ℕ) (tokens : List Token) (from to : ℕ) : Type 0 where
  pub parts : List Part
  pub cut : AreFrontParts parts (drop (at + from) text) (drop to text)
  pub among : tokens ≡ tokens_among parts from
  pub in_order : at + from ≤ to
  pub within : to ≤ length text

-- once words are added for tokens that stand in a text from a place on, the words go up to `behind`, and space and comments from there to `to`
abbrev pub AddsTokens : List ℕ → List Token → ℕ → List Word → List Word → ℕ → Type 0
AddsTokens text tokens at old new behind =
    (to : ℕ) → AreTokensIn text at tokens 0 to → HasWords text 0 old at → HasWords text 0 new behind × IsGapBetween text behind to
