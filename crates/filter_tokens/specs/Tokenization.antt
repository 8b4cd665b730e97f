-- How a text is cut into tokens, with space and comments between them, as in the BIRD 2.0 User's Guide on filters.
use Rattle.std.specs.Prelude.{◌≡◌, ◌⊎◌, ℕ, ◌+◌, ◌<◌, ◌≤◌, Bool, true, false, not, ◌&&◌, ◌||◌, ◌==◌, List, [], ◌∷◌, ◌++◌, length, take, drop}
use Rattle.std.specs.List.{prefix_len}
use Rattle.prefix_patterns.specs.Token.{slash}
use Rattle.filter_tokens.specs.declared.part.Part.{Part}
use Rattle.filter_tokens.specs.declared.part.Part.TheVariants as part
use Rattle.filter_tokens.specs.declared.shape.Shape.{Shape}
use Rattle.filter_tokens.specs.declared.token.Token.{Token}
use Rattle.filter_tokens.specs.declared.token_kind.TokenKind.{TokenKind}
use Rattle.filter_tokens.specs.Meaning.{Means}
use Rattle.filter_tokens.specs.Shapes.{line_feed, HasShape}

-- `#`, with which a comment up to the end of its line begins
abbrev pub hash : ℕ
hash = 35

-- `*`, which opens a comment after a slash, and closes it before one
abbrev pub star : ℕ
star = 42

-- space is a tab, an LF, a CR or a space, and nothing else
abbrev pub is_space : ℕ → Bool
is_space byte = byte == 9 || byte == line_feed || byte == 13 || byte == 32

-- whether this is the first byte
abbrev pub begins_with : ℕ → List ℕ → Bool
begins_with wanted [] = false
begins_with wanted (byte ∷ bytes) = byte == wanted

-- whether space or a comment begins here
abbrev pub begins_gap : List ℕ → Bool
begins_gap [] = false
begins_gap (byte ∷ bytes) = is_space byte || byte == hash || (byte == slash && begins_with star bytes)

-- a comment between `/*` and `*/` does not nest: it ends at the first `*/` after its `/*`, and one that does not end is none
pub record IsEnclosed (text : List ℕ) (len : ℕ) : Type 0 where
  pub inner : List ℕ
  pub after : List ℕ
  pub spelled : text ≡ slash ∷ star ∷ (inner ++ star ∷ slash ∷ after)
  pub whole : len ≡ length inner + 4
  pub first : (other later : List ℕ) → inner ++ star ∷ slash ∷ after ≡ other ++ star ∷ slash ∷ later → length inner ≤ length other

-- a byte of space
abbrev pub IsSpace : List ℕ → ℕ → Type 0
IsSpace [] len = ⊥
IsSpace (byte ∷ bytes) len = (is_space byte ≡ true) × (len ≡ 1)

-- a `#` and what follows it on its line, up to the LF or to the end of the text
abbrev pub IsRestOfLine : List ℕ → ℕ → Type 0
IsRestOfLine [] len = ⊥
IsRestOfLine (byte ∷ bytes) len = (byte ≡ hash) × (len ≡ 1 + prefix_len (λ byte. not (byte == line_feed)) bytes)

-- this many bytes of space or of a comment are at the front of the text
abbrev pub IsGap : List ℕ → ℕ → Type 0
IsGap text len = IsSpace text len ⊎ (IsRestOfLine text len ⊎ IsEnclosed text len)

-- a token of this many bytes is at the front of the text: these have a shape and mean the word, and no longer front has a shape;
-- where space or a comment begins there is no token
pub record IsToken (text : List ℕ) (kind : TokenKind) (len : ℕ) : Type 0 where
  pub outside : begins_gap text ≡ false
  pub within : len ≤ length text
  pub shape : Shape
  pub formed : HasShape shape (take len text)
  pub means : Means shape (take len text) kind
  pub longest : (other : Shape) (longer : ℕ) → longer ≤ length text → HasShape other (take longer text) → longer ≤ len

-- the part at the front of a text
abbrev pub IsPart : List ℕ → Part → Type 0
IsPart text (part.Gap len) = IsGap text len
IsPart text (part.Token kind len) = IsToken text kind len

-- the number of its bytes
abbrev pub part_len : Part → ℕ
part_len (part.Gap len) = len
part_len (part.Token kind len) = len

-- a text is cut into these parts, side by side
abbrev pub AreParts : List Part → List ℕ → Type 0
AreParts [] text = text ≡ []
AreParts (part ∷ parts) text = IsPart text part × AreParts parts (drop (part_len part) text)

-- the tokens among the parts of a text that begins at a place, each with the places where it begins and ends
abbrev pub tokens_among : List Part → ℕ → List Token
tokens_among [] at = []
tokens_among (part.Gap len ∷ parts) at = tokens_among parts (at + len)
tokens_among (part.Token kind len ∷ parts) at = record { word = kind; from = at; to = at + len } ∷ tokens_among parts (at + len)

-- the text, which begins at a place, is cut into these tokens, with nothing but space and comments between them
pub record IsTokenization (tokens : List Token) (at : ℕ) (text : List ℕ) : Type 0 where
  pub parts : List Part
  pub cut : AreParts parts text
  pub among : tokens ≡ tokens_among parts at

-- these parts are side by side at the front of a text, and after them comes the rest
abbrev pub AreFrontParts : List Part → List ℕ → List ℕ → Type 0
AreFrontParts [] text rest = text ≡ rest
AreFrontParts (part ∷ parts) text rest = IsPart text part × AreFrontParts parts (drop (part_len part) text) rest

-- the text is cut into these tokens up to a place, where it goes on with neither space nor a comment nor a token
pub record StopsAt (tokens : List Token) (place : ℕ) (text : List ℕ) : Type 0 where
  pub parts : List Part
  pub cut : AreFrontParts parts text (drop place text)
  pub among : tokens ≡ tokens_among parts 0
  pub before_end : place < length text
  pub no_part : (part : Part) → IsPart (drop place text) part → ⊥

-- each token has a byte at least, they are in order, and all lie between the two places
abbrev pub AreInOrder : ℕ → List Token → ℕ → Type 0
AreInOrder from [] to = from ≤ to
AreInOrder from (token ∷ tokens) to = (from ≤ token.from) × (token.from < token.to) × AreInOrder token.to tokens to
