-- Parts of one byte: what a byte is whatever follows it is the part at the front of a text that begins with it.
use Rattle.std.proofs.Common.{◌≡◌, ℕ, ◌-◌, List, ◌∷◌, length, Option, Some, None, refl, sym, ◌∙◌, ap, arith}
use Rattle.std.specs.Prelude.{IfSome}
use Rattle.filter_tokens.specs.declared.part.Part.{Part}
use Rattle.filter_tokens.specs.declared.part.Part.TheVariants as part
use Rattle.filter_tokens.specs.declared.symbol.Symbol.{Symbol}
use Rattle.filter_tokens.specs.declared.symbol.Symbol.TheVariants as symbol
use Rattle.filter_tokens.specs.declared.token_kind.TokenKind.TheVariants as kind
use Rattle.filter_tokens.specs.Reading.{byte_part, byte_token, gap_len, longest_shape, part_in, punctuator_in, punctuator_shape, token_in}
use Rattle.filter_tokens.proofs.FirstBytes.{at_byte}

-- a punctuator that is read at the front has one byte
token_by : (byte : ℕ) (others : List ℕ) (symbol : Symbol) (one : Part) →
    part_in (byte ∷ others) ≡ Some (part.Token (kind.Symbol symbol) (length (byte ∷ others) - length others)) →
    byte_token symbol ≡ Some one → part_in (byte ∷ others) ≡ Some one
token_by byte others symbol one read is = read ∙ ap (λ n. Some (part.Token (kind.Symbol symbol) n)) (omega arith) ∙ is

pub byte-leads : (first : ℕ) (others : List ℕ) (one : Part) → byte_part first ≡ Some one → part_in (first ∷ others) ≡ Some one
unfolding part_in gap_len token_in longest_shape punctuator_shape punctuator_in
byte-leads first others one =
    let P : ℕ → Type 0 = λ byte. byte_part byte ≡ Some one → part_in (byte ∷ others) ≡ Some one in
    at_byte first 32 P (λ e. e) (λ a32 b32.
    at_byte first 40 P (token_by 40 others symbol.LeftParen one refl) (λ a40 b40.
    at_byte first 41 P (token_by 41 others symbol.RightParen one refl) (λ a41 b41.
    at_byte first 123 P (token_by 123 others symbol.LeftBrace one refl) (λ a123 b123.
    at_byte first 125 P (token_by 125 others symbol.RightBrace one refl) (λ a125 b125.
    at_byte first 91 P (token_by 91 others symbol.LeftBracket one refl) (λ a91 b91.
    at_byte first 93 P (token_by 93 others symbol.RightBracket one refl) (λ a93 b93.
    at_byte first 59 P (token_by 59 others symbol.Semicolon one refl) (λ a59 b59.
    at_byte first 58 P (token_by 58 others symbol.Colon one refl) (λ a58 b58.
    at_byte first 44 P (token_by 44 others symbol.Comma one refl) (λ a44 b44.
    at_byte first 61 P (token_by 61 others symbol.Equal one refl) (λ a61 b61.
    at_byte first 126 P (token_by 126 others symbol.Match one refl) (λ a126 b126.
    at_byte first 43 P (token_by 43 others symbol.Plus one refl) (λ a43 b43.
    at_byte first 45 P (token_by 45 others symbol.Minus one refl) (λ a45 b45.
    at_byte first 42 P (token_by 42 others symbol.Times one refl) (λ a42 b42.
    let none : byte_part first ≡ None = simp (a32, a40, a41, a123, a125, a91, a93, a59, a58, a44, a61, a126, a43, a45, a42) in
    λ e. absurd (let never : None ≡ Some one = sym none ∙ e in cc))))))))))))))))

-- the same of what a call answers
pub byte-answer : (text others : List ℕ) (first : ℕ) (answer : Option Part) → text ≡ first ∷ others → byte_part first ≡ answer →
    IfSome answer (λ one. part_in text ≡ Some one)
byte-answer text others first None begins is = tt
byte-answer text others first (Some one) begins is = ap part_in begins ∙ byte-leads first others one is
