-- A fault to which the name before it was added.
use Rattle.std.proofs.Common.{◌≡◌, ◌≢◌, ◌⊎◌, ◌<◌, ℕ, List, length, Option, Some, None, IfSome, refl, inl, inr}
use Rattle.expression_parser.specs.Codes.{LiesWithin}
use Rattle.expression_parser.specs.declared.expected.Expected.{Expected}
use Rattle.expression_parser.specs.declared.expected.Expected.TheVariants as expected
use Rattle.expression_parser.specs.declared.fault.ParseFault.{ParseFault}
use Rattle.expression_parser.specs.declared.fault.ParseFault.TheVariants as fault
use Rattle.filter_parser.specs.Heads.{AreTokensOf, HasHead, expected_with_head, missing_at, name_before, with_head}
use Rattle.filter_tokens.specs.Codes.{fault_place}
use Rattle.filter_tokens.specs.Tokenization.{IsTokenization, StopsAt}
use Rattle.filter_tokens.specs.declared.fault.TokenFault.{TokenFault}
use Rattle.filter_tokens.specs.declared.token.Token.{Token}

-- what is cut of a text
pub cut : (fault : Option TokenFault) (tokens : List Token) (text : List ℕ) → (fault ≡ None → IsTokenization tokens 0 text)
    → IfSome fault (λ f. StopsAt tokens (fault_place f) text) → IsTokenization tokens 0 text ⊎ ((place : ℕ) × StopsAt tokens place text)
cut None tokens text found stopped = inl (found refl)
cut (Some f) tokens text found stopped = inr (fault_place f, stopped)

-- what stops them lies in the text
pub stops_within : (fault : Option TokenFault) (tokens : List Token) (text : List ℕ) → IfSome fault (λ f. StopsAt tokens (fault_place f) text)
    → IfSome fault (λ f. fault_place f < length text)
stops_within None tokens text stopped = tt
stops_within (Some f) tokens text stopped = stopped.before_end

missing_has_head : (text : List ℕ) (tokens : List Token) → AreTokensOf text tokens → (at : ℕ) (name : Option ℕ) → name ≡ name_before at None tokens
    → HasHead text (missing_at at name)
missing_has_head text tokens are at None is = (tokens, are, is)
missing_has_head text tokens are at (Some name) is = (tokens, are, is)

expected_has_head : (text : List ℕ) (tokens : List Token) → AreTokensOf text tokens → (at : ℕ) (wanted : Expected)
    → HasHead text (expected_with_head tokens at wanted)
expected_has_head text tokens are at expected.Assign = missing_has_head text tokens are at (name_before at None tokens) refl
expected_has_head text tokens are at wanted = tt

-- it has the name that its text has there
pub has_head : (text : List ℕ) (tokens : List Token) → AreTokensOf text tokens → (why : ParseFault) → HasHead text (with_head tokens why)
has_head text tokens are (fault.Unexpected at wanted) = expected_has_head text tokens are at wanted
has_head text tokens are (fault.MissingAssign at name) = missing_has_head text tokens are at (name_before at None tokens) refl
has_head text tokens are why = tt

missing_within : (len at : ℕ) (name : Option ℕ) → at < len → LiesWithin len (missing_at at name)
missing_within len at None within = within
missing_within len at (Some name) within = within

-- it is where it was
pub head_within : (len : ℕ) (tokens : List Token) (why : ParseFault) → LiesWithin len why → LiesWithin len (with_head tokens why)
head_within len tokens (fault.Unexpected at expected.Assign) within = missing_within len at (name_before at None tokens) within
head_within len tokens (fault.Unexpected at wanted) within = within
head_within len tokens (fault.MissingAssign at name) within = missing_within len at (name_before at None tokens) within
head_within len tokens why within = within

-- refused memory stays so
pub head_memory : (tokens : List Token) (why : ParseFault) → with_head tokens why ≢ fault.Memory → why ≢ fault.Memory
head_memory tokens fault.Memory other is = other refl
head_memory tokens why other is = cc
