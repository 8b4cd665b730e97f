-- Reading a text from the left: what the lexer's functions answer (this project's own choice).
-- No promise to a caller cites it: those cite Tokenization, and proofs join the two.
use Rattle.std.specs.Prelude.{◌≡◌, ℕ, ◌+◌, ◌-◌, ◌*◌, ◌==◌, ◌&&◌, ◌||◌, nat_le, nat_lt, if◌then◌else◌, Bool, false}
use Rattle.std.specs.Prelude.{not, List, [], ◌∷◌, length, take, drop, find, codes, Option, Some, None, Result, Ok, Err}
use Rattle.std.specs.Char.{digit_value, is_ascii_digit, is_ascii_hexdigit}
use Rattle.std.specs.List.{prefix_len, list_any}
use Rattle.std.specs.Option.{option_map}
use Rattle.std.specs.Str.{bytes_eq}
use Rattle.prefix_patterns.specs.Leading.{after_byte}
use Rattle.prefix_patterns.specs.Reading.{◌>>=◌, number_in, address_in, written_in}
use Rattle.prefix_patterns.specs.Token.{dot, slash}
use Rattle.prefix_patterns.specs.declared.written.WrittenPrefix.{WrittenPrefix}
use Rattle.filter_tokens.specs.declared.symbol.Symbol.{Symbol}
use Rattle.filter_tokens.specs.declared.symbol.Symbol.TheVariants as symbol
use Rattle.filter_tokens.specs.declared.part.Part.{Part}
use Rattle.filter_tokens.specs.declared.part.Part.TheVariants as part
use Rattle.filter_tokens.specs.declared.shape.Shape.{Shape}
use Rattle.filter_tokens.specs.declared.shape.Shape.TheVariants as shape
use Rattle.filter_tokens.specs.declared.token_kind.TokenKind.{TokenKind}
use Rattle.filter_tokens.specs.declared.token_kind.TokenKind.TheVariants as kind
use Rattle.filter_tokens.specs.Tokenization.{hash, star, is_space, begins_with}
use Rattle.filter_tokens.specs.Symbols.{symbol_text, left_out}
use Rattle.filter_tokens.specs.Meaning.{greatest_number, longest_name}
use Rattle.filter_tokens.specs.ByteClasses.{is_quotable, is_of_line}
use Rattle.filter_tokens.specs.Shapes.{quote, zero_digit, small_x, begins_word, continues_word}

-- what a call that may refuse answers, whatever fault it names
abbrev pub OkWhereSome : {A E : Type 0} → Result A E → Option A → Type 0
OkWhereSome (Ok value) reading = reading ≡ Some value
OkWhereSome (Err fault) reading = reading ≡ None

-- what follows the bytes at the front that pass a test
abbrev pub drop_while : (ℕ → Bool) → List ℕ → List ℕ
drop_while passes text = drop (prefix_len passes text) text

-- after one digit at least
unfoldable pub after_digits : List ℕ → Option (List ℕ)
after_digits text = if prefix_len is_ascii_digit text == 0 then None else Some (drop_while is_ascii_digit text)

-- after four groups of digits and the dots between them
unfoldable pub after_address : List ℕ → Option (List ℕ)
after_address text = do
  rest ← after_digits text
  rest ← after_byte dot rest
  rest ← after_digits rest
  rest ← after_byte dot rest
  rest ← after_digits rest
  rest ← after_byte dot rest
  after_digits rest

-- after a slash and digits
abbrev pub after_length : List ℕ → Option (List ℕ)
after_length text = do
  rest ← after_byte slash text
  after_digits rest

-- after an address, a slash and digits
unfoldable pub after_prefix : List ℕ → Option (List ℕ)
after_prefix text = do
  rest ← after_address text
  after_length rest

-- after a `0x` and the hexadecimal digits that follow, if any do
unfoldable pub after_hexadecimal : List ℕ → Option (List ℕ)
after_hexadecimal text = do
  rest ← after_byte zero_digit text
  rest ← after_byte small_x rest
  Some (drop_while is_ascii_hexdigit rest)

-- after a text in double quotes
unfoldable pub after_quoted : List ℕ → Option (List ℕ)
after_quoted text = do
  rest ← after_byte quote text
  after_byte quote (drop_while is_quotable rest)

-- a text in double quotes at the front, and what follows it
abbrev pub quoted_shape : List ℕ → Option (Shape × List ℕ)
quoted_shape text = option_map (λ (rest : List ℕ). let found : Shape × List ℕ = (shape.Text, rest) in found) (after_quoted text)

-- the first of two shapes that is there
abbrev pub or_shape : Shape → Option (List ℕ) → Shape × List ℕ → Shape × List ℕ
or_shape shape None other = other
or_shape shape (Some rest) other = (shape, rest)

-- the longest shape at the front of a text that begins with a digit
unfoldable pub digits_shape : List ℕ → Shape × List ℕ
digits_shape text =
    or_shape shape.Prefix (after_prefix text)
    (or_shape shape.Address (after_address text)
    (or_shape shape.Hexadecimal (after_hexadecimal text)
    (shape.Decimal, drop_while is_ascii_digit text)))

-- the punctuators, longer ones first
abbrev pub punctuators : List Symbol
punctuators =
    symbol.And ∷ symbol.Or ∷ symbol.NotEqual ∷ symbol.NotMatch ∷ symbol.LessEqual ∷ symbol.GreaterEqual ∷ symbol.DotDot ∷ symbol.LeftParen ∷
    symbol.RightParen ∷ symbol.LeftBrace ∷ symbol.RightBrace ∷ symbol.LeftBracket ∷ symbol.RightBracket ∷ symbol.Semicolon ∷ symbol.Colon ∷
    symbol.Comma ∷ symbol.Dot ∷ symbol.Equal ∷ symbol.Less ∷ symbol.Greater ∷ symbol.Match ∷ symbol.Not ∷ symbol.Plus ∷ symbol.Minus ∷
    symbol.Times ∷ symbol.Divide ∷ []

-- whether the text begins with a symbol
abbrev pub begins_with_symbol : List ℕ → Symbol → Bool
begins_with_symbol text symbol = bytes_eq (symbol_text symbol) (take (length (symbol_text symbol)) text)

-- the first of the punctuators that the text begins with
unfoldable pub punctuator_in : List ℕ → Option Symbol
punctuator_in text = find (begins_with_symbol text) punctuators

-- the punctuator that is written as these two bytes
abbrev pub pair_of : ℕ → ℕ → Option Symbol
pair_of first second =
    if first == 38 && second == 38 then Some symbol.And
    else (if first == 124 && second == 124 then Some symbol.Or
    else (if first == 33 && second == 61 then Some symbol.NotEqual
    else (if first == 33 && second == 126 then Some symbol.NotMatch
    else (if first == 60 && second == 61 then Some symbol.LessEqual
    else (if first == 62 && second == 61 then Some symbol.GreaterEqual
    else (if first == 46 && second == 46 then Some symbol.DotDot
    else None))))))

-- the punctuator of two bytes that begins with this byte and goes on as the text does
abbrev pub pair : ℕ → List ℕ → Option Symbol
pair first [] = None
pair first (second ∷ others) = pair_of first second

-- the punctuator that is written as this byte
abbrev pub single : ℕ → Option Symbol
single byte =
    if byte == 40 then Some symbol.LeftParen
    else (if byte == 41 then Some symbol.RightParen
    else (if byte == 123 then Some symbol.LeftBrace
    else (if byte == 125 then Some symbol.RightBrace
    else (if byte == 91 then Some symbol.LeftBracket
    else (if byte == 93 then Some symbol.RightBracket
    else (if byte == 59 then Some symbol.Semicolon
    else (if byte == 58 then Some symbol.Colon
    else (if byte == 44 then Some symbol.Comma
    else (if byte == 46 then Some symbol.Dot
    else (if byte == 61 then Some symbol.Equal
    else (if byte == 60 then Some symbol.Less
    else (if byte == 62 then Some symbol.Greater
    else (if byte == 126 then Some symbol.Match
    else (if byte == 33 then Some symbol.Not
    else (if byte == 43 then Some symbol.Plus
    else (if byte == 45 then Some symbol.Minus
    else (if byte == 42 then Some symbol.Times
    else (if byte == 47 then Some symbol.Divide
    else None))))))))))))))))))

-- a punctuator of two bytes where there is one, and otherwise one of one byte
abbrev pub pair_or : Option Symbol → Option Symbol → Option Symbol
pair_or None other = other
pair_or (Some both) other = Some both

-- the longest punctuator at the front of a text
unfoldable pub punctuator_shape : List ℕ → Option (Shape × List ℕ)
punctuator_shape text = option_map (λ punctuator. (shape.Punctuator punctuator, drop (length (symbol_text punctuator)) text)) (punctuator_in text)

-- the longest shape at the front of a text
unfoldable pub longest_shape : List ℕ → Option (Shape × List ℕ)
longest_shape [] = None
longest_shape (first ∷ others) =
    if begins_word first then Some (shape.Word, drop_while continues_word others)
    else (if is_ascii_digit first then Some (digits_shape (first ∷ others))
    else (if first == quote then quoted_shape (first ∷ others)
    else punctuator_shape (first ∷ others)))

-- the keywords
abbrev pub keywords : List Symbol
keywords =
    symbol.Filter ∷ symbol.Int ∷ symbol.Bool ∷ symbol.Ip ∷ symbol.Prefix ∷ symbol.If ∷ symbol.Then ∷ symbol.Else ∷ symbol.Case ∷ symbol.Accept ∷
    symbol.Reject ∷ symbol.True ∷ symbol.False ∷ symbol.Defined ∷ symbol.Net ∷ symbol.RipMetric ∷ []

-- whether a symbol is written so
abbrev pub is_spelled : List ℕ → Symbol → Bool
is_spelled bytes symbol = bytes_eq (symbol_text symbol) bytes

-- the keyword that is written so
unfoldable pub keyword_in : List ℕ → Option Symbol
keyword_in bytes = find (is_spelled bytes) keywords

-- the keywords that begin with a byte
abbrev pub keywords_with : ℕ → List Symbol
keywords_with first =
    if first == 97 then symbol.Accept ∷ []
    else (if first == 98 then symbol.Bool ∷ []
    else (if first == 99 then symbol.Case ∷ []
    else (if first == 100 then symbol.Defined ∷ []
    else (if first == 101 then symbol.Else ∷ []
    else (if first == 102 then symbol.Filter ∷ symbol.False ∷ []
    else (if first == 105 then symbol.Int ∷ symbol.Ip ∷ symbol.If ∷ []
    else (if first == 110 then symbol.Net ∷ []
    else (if first == 112 then symbol.Prefix ∷ []
    else (if first == 114 then symbol.Reject ∷ symbol.RipMetric ∷ []
    else (if first == 116 then symbol.Then ∷ symbol.True ∷ []
    else []))))))))))

-- whether the language leaves a word out
unfoldable pub is_left_out : List ℕ → Bool
is_left_out bytes = list_any (λ word. bytes_eq word bytes) left_out

-- the words left out that begin with a byte
abbrev pub left_out_with : ℕ → List (List ℕ)
left_out_with first =
    if first == 98 then codes "bgppath" ∷ codes "bgpmask" ∷ []
    else (if first == 99 then codes "clist" ∷ []
    else (if first == 100 then codes "define" ∷ []
    else (if first == 101 then codes "ec" ∷ codes "eclist" ∷ []
    else (if first == 102 then codes "function" ∷ codes "from" ∷ []
    else (if first == 105 then codes "include" ∷ []
    else (if first == 108 then codes "lc" ∷ codes "lclist" ∷ []
    else (if first == 112 then codes "print" ∷ codes "printn" ∷ codes "pair" ∷ codes "proto" ∷ codes "preference" ∷ []
    else (if first == 113 then codes "quad" ∷ []
    else (if first == 114 then codes "return" ∷ []
    else (if first == 115 then codes "string" ∷ codes "set" ∷ codes "source" ∷ []
    else []))))))))))

-- a name, unless it is too long or left out
abbrev pub name_in : List ℕ → Option TokenKind
name_in bytes = if nat_le (length bytes) longest_name && not (is_left_out bytes) then Some kind.Name else None

-- a keyword where there is one, and otherwise what else there is
abbrev pub keyword_or : Option Symbol → Option TokenKind → Option TokenKind
keyword_or None other = other
keyword_or (Some symbol) other = Some (kind.Symbol symbol)

-- a keyword or a name
unfoldable pub word_in : List ℕ → Option TokenKind
word_in bytes = keyword_or (keyword_in bytes) (name_in bytes)

-- one more hexadecimal digit after a number
abbrev pub with_digit : ℕ → ℕ → Option ℕ
with_digit value byte =
    if nat_lt (digit_value byte) 16 && nat_le (value * 16 + digit_value byte) greatest_number
    then Some (value * 16 + digit_value byte) else None

-- the number that hexadecimal digits write after what was read before them
unfoldable pub hexadecimal_from : ℕ → List ℕ → Option ℕ
hexadecimal_from value [] = Some value
hexadecimal_from value (byte ∷ bytes) = with_digit value byte >>= λ longer. hexadecimal_from longer bytes

-- the number after a `0x`
unfoldable pub hexadecimal_in : List ℕ → Option ℕ
hexadecimal_in bytes = if nat_lt (length bytes) 3 then None else hexadecimal_from 0 (drop 2 bytes)

-- the word of a prefix
abbrev pub prefix_kind : WrittenPrefix → TokenKind
prefix_kind written = kind.Prefix written.has_host_bits written.prefix

-- the word that bytes of a shape mean
abbrev pub meaning_in : Shape → List ℕ → Option TokenKind
meaning_in shape.Word bytes = word_in bytes
meaning_in shape.Decimal bytes = option_map kind.Number (number_in greatest_number bytes)
meaning_in shape.Hexadecimal bytes = option_map kind.Number (hexadecimal_in bytes)
meaning_in shape.Address bytes = option_map (λ address. kind.Address (record { 0 = address })) (address_in bytes)
meaning_in shape.Prefix bytes = option_map prefix_kind (written_in bytes)
meaning_in shape.Text bytes = Some kind.Text
meaning_in (shape.Punctuator punctuator) bytes = Some (kind.Symbol punctuator)

-- whether a `*/` is at the front
abbrev pub closes : List ℕ → Bool
closes text = bytes_eq (star ∷ slash ∷ []) (take 2 text)

-- the number of bytes up to the end of the first `*/`
unfoldable pub closing_len : List ℕ → Option ℕ
closing_len [] = None
closing_len (byte ∷ bytes) = if closes (byte ∷ bytes) then Some 2 else option_map (λ len. 1 + len) (closing_len bytes)

-- the number of bytes of space or of a comment at the front of a text: 0 where neither begins, nothing where a comment does not end
unfoldable pub gap_len : List ℕ → Option ℕ
gap_len [] = Some 0
gap_len (first ∷ others) =
    if is_space first then Some 1
    else (if first == hash then Some (1 + prefix_len is_of_line others)
    else (if first == slash && begins_with star others then option_map (λ len. 2 + len) (closing_len (drop 1 others))
    else Some 0))

-- the token that a shape makes, if its bytes mean one
abbrev pub token_of : List ℕ → Shape × List ℕ → Option Part
token_of text found =
    let len = length text - length found.1 in
    option_map (λ kind. part.Token kind len) (meaning_in found.0 (take len text))

-- the token at the front of a text, whether or not space or a comment begins there
unfoldable pub token_in : List ℕ → Option Part
token_in text = longest_shape text >>= token_of text

-- space or a comment of this many bytes, and otherwise a token
abbrev pub part_of : List ℕ → ℕ → Option Part
part_of text len = if len == 0 then token_in text else Some (part.Gap len)

-- the part at the front of a text
unfoldable pub part_in : List ℕ → Option Part
part_in text = gap_len text >>= part_of text

-- a punctuator of one byte
abbrev pub byte_token : Symbol → Option Part
byte_token symbol = Some (part.Token (kind.Symbol symbol) 1)

-- the part that a byte is whatever follows it: a space, or a punctuator with which neither a longer one nor a comment begins
abbrev pub byte_part : ℕ → Option Part
byte_part byte =
    if byte == 32 then Some (part.Gap 1)
    else (if byte == 40 then byte_token symbol.LeftParen
    else (if byte == 41 then byte_token symbol.RightParen
    else (if byte == 123 then byte_token symbol.LeftBrace
    else (if byte == 125 then byte_token symbol.RightBrace
    else (if byte == 91 then byte_token symbol.LeftBracket
    else (if byte == 93 then byte_token symbol.RightBracket
    else (if byte == 59 then byte_token symbol.Semicolon
    else (if byte == 58 then byte_token symbol.Colon
    else (if byte == 44 then byte_token symbol.Comma
    else (if byte == 61 then byte_token symbol.Equal
    else (if byte == 126 then byte_token symbol.Match
    else (if byte == 43 then byte_token symbol.Plus
    else (if byte == 45 then byte_token symbol.Minus
    else (if byte == 42 then byte_token symbol.Times
    else None))))))))))))))

-- the part that the first byte of a text is whatever follows it, where it is one
abbrev pub leading_byte : List ℕ → Option Part
leading_byte [] = None
leading_byte (first ∷ others) = byte_part first

-- the punctuator that a byte is whatever follows it, where it is one
abbrev pub byte_symbol : ℕ → Symbol
byte_symbol byte =
    if byte == 40 then symbol.LeftParen
    else (if byte == 41 then symbol.RightParen
    else (if byte == 123 then symbol.LeftBrace
    else (if byte == 125 then symbol.RightBrace
    else (if byte == 91 then symbol.LeftBracket
    else (if byte == 93 then symbol.RightBracket
    else (if byte == 59 then symbol.Semicolon
    else (if byte == 58 then symbol.Colon
    else (if byte == 44 then symbol.Comma
    else (if byte == 61 then symbol.Equal
    else (if byte == 126 then symbol.Match
    else (if byte == 43 then symbol.Plus
    else (if byte == 45 then symbol.Minus
    else symbol.Times))))))))))))

-- whether the first byte is a digit
abbrev pub begins_digit : List ℕ → Bool
begins_digit [] = false
begins_digit (first ∷ others) = is_ascii_digit first

-- whether digits with a text behind them may begin a longer token: an address, by a dot and a digit, or hexadecimal, by an `x`
abbrev pub goes_on : List ℕ → Bool
goes_on [] = false
goes_on (first ∷ others) = if first == dot then begins_digit others else first == small_x

-- the number at the front of a text, where nothing longer may begin with its digits
abbrev pub number_ahead : List ℕ → Option Part
number_ahead text =
    let len = prefix_len is_ascii_digit text in
    if len == 0 || goes_on (drop len text) then None
    else option_map (λ number. part.Token (kind.Number number) len) (number_in greatest_number (take len text))
