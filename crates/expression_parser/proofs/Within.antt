-- The places of the tokens of a text, and of a fault that is handed on.
use Rattle.std.proofs.Common.{◌≡◌, ◌≢◌, ◌∙◌, ℕ, ◌<◌, ◌≤◌, List, [], ◌∷◌, length, Option, Some, None, sym, subst, arith}
use Rattle.std.specs.Prelude.{IfSome, IsErr, IsErrAnd, MatchResult, Result, Ok, Err}
use Rattle.filter_tokens.specs.Codes.{fault_place}
use Rattle.filter_tokens.specs.Lexemes.{lexemes}
use Rattle.filter_tokens.specs.Tokenization.{AreInOrder}
use Rattle.filter_tokens.specs.declared.fault.TokenFault.{TokenFault}
use Rattle.filter_tokens.specs.declared.token.Token.{Token}
use Rattle.expression_parser.specs.Codes.{LiesWithin}
use Rattle.expression_parser.specs.Steps.{ReadsAs, BeginWithin, EndsWithin, IsWithin, first_place, first_place_of, remaining}
use Rattle.expression_parser.specs.declared.fault.ParseFault.{ParseFault}
use Rattle.expression_parser.specs.declared.fault.ParseFault.TheVariants as fault
use Rattle.expression_parser.specs.declared.input.Input.{Input}

order_ends : (from len : ℕ) (tokens : List Token) → AreInOrder from tokens len → from ≤ len
order_ends from len [] order = order
order_ends from len (token ∷ tokens) order =
    let first = order.0 in
    let second = order.1 in
    let rest = order_ends token.to len tokens order.2 in
    omega arith

-- tokens in order begin within their text
order_within : (from len : ℕ) (tokens : List Token) → AreInOrder from tokens len → BeginWithin len tokens
order_within from len [] order = tt
order_within from len (token ∷ tokens) order =
    let first = order.1 in
    let rest = order_ends token.to len tokens order.2 in
    (omega arith, order_within token.to len tokens order.2)

-- the tokens of a whole text, and the fault that ended them
pub begin_all : (text : List ℕ) {all tokens : List Token} → tokens ≡ all → AreInOrder 0 all (length text) → BeginWithin (length text) tokens
begin_all text {all} {tokens} e order =
    order_within 0 (length text) tokens (subst (λ (ts : List Token). AreInOrder 0 ts (length text)) (sym e) order)

pub ends_all : (len : ℕ) (end : Option TokenFault) → IfSome end (λ why. fault_place why < len) → EndsWithin len end
ends_all len None h = tt
ends_all len (Some found) h = h

-- a fault that a `?` hands on
pub failed : {A : Type 0} (P : A → Type 0) (len : ℕ) (why : ParseFault) (r : Result A ParseFault) → IsErr r × IsErrAnd r (λ e. e ≡ why)
    → LiesWithin len why → MatchResult r P (LiesWithin len)
failed P len why (Ok x) h k = absurd h.1
failed P len why (Err e) h k = subst (LiesWithin len) (sym h.1) k

-- a function that hands on a fault with a `?` reads nothing, where what it called read nothing
pub unread : {X A : Type 0} (view : X → A) (why : ParseFault) (r : Result X ParseFault) (read : Option A) → IsErr r × IsErrAnd r (λ e. e ≡ why)
    → (why ≢ fault.Memory → read ≡ None) → ReadsAs view r read
unread view why (Ok x) read h k = absurd h.1
unread view why (Err e) read h k = λ other. k (λ m. other (h.1 ∙ m))

begins : (len end : ℕ) (text : List ℕ) (tokens : List Token) → BeginWithin len tokens → 0 < length (lexemes text tokens)
    → first_place_of end tokens < len
begins len end text [] within some = absurd (omega arith)
begins len end text (token ∷ tokens) within some = within.0

-- the first token that is left is in the text
pub first_within : (len : ℕ) (input : Input) → IsWithin len input → 0 < length (remaining input) → first_place input < len
first_within len input within some =
    begins len (length input.source.now.text.now) input.source.now.text.now input.tokens.now within.tokens some
