-- Prefixes that are written with host bits: bits of the address past the length, which are not kept. BIRD refuses such a prefix. (This
-- project's own choice.)
use Rattle.std.specs.Prelude.{◌≡◌, ℕ, true, List, Option, Some, None}
use Rattle.std.specs.List.{filter_map}
use Rattle.filter_tokens.specs.Tokenization.{IsTokenization}
use Rattle.filter_tokens.specs.declared.token.Token.{Token}
use Rattle.filter_tokens.specs.declared.token_kind.TokenKind.{TokenKind}
use Rattle.filter_tokens.specs.declared.token_kind.TokenKind.TheVariants as kind
use Rattle.filter_lint.specs.declared.host_bits.HostBits.{HostBits}

-- a token that is such a prefix
abbrev pub of_kind : Token → TokenKind → Option HostBits
of_kind token (kind.Prefix true prefix) = Some (record { token = token; prefix = prefix })
of_kind token other = None

abbrev pub host_bits_of : Token → Option HostBits
host_bits_of token = of_kind token token.word

-- these among the tokens, in order
abbrev pub among : List Token → List HostBits
among tokens = filter_map host_bits_of tokens

-- these are all of a text: whatever tokens cut it, they are those among them
abbrev pub AreHostBits : List ℕ → List HostBits → Type 0
AreHostBits text found = (tokens : List Token) → IsTokenization tokens 0 text → found ≡ among tokens
