-- What the functions of the parser say of what they read, of its places and of its faults. No crate above
-- `filter_parser` cites it.
use Rattle.std.specs.Prelude.{◌≡◌, ◌≢◌, ℕ, ◌+◌, ◌<◌, ◌≤◌, IfOk, ⊤, List, [], ◌∷◌, ◌++◌, length, map, Option, Some, None, Result, Ok, Err, MatchResult}
use Rattle.filter_tokens.specs.Codes.{fault_place as token_fault_place}
use Rattle.filter_tokens.specs.Lexemes.{Lexeme, lexemes}
use Rattle.filter_tokens.specs.declared.token.Token.{Token}
use Rattle.filter_tokens.specs.declared.fault.TokenFault.{TokenFault}
use Rattle.filter_tokens.specs.declared.token_kind.TokenKind.{TokenKind}
use Rattle.filter_tokens.specs.declared.token_kind.TokenKind.TheVariants as kind
use Rattle.expression_parser.specs.declared.expected.Expected.{Expected}
use Rattle.expression_parser.specs.declared.fault.ParseFault.{ParseFault}
use Rattle.expression_parser.specs.declared.fault.ParseFault.TheVariants as fault
use Rattle.expression_parser.specs.declared.input.Input.{Input}
use Rattle.expression_parser.specs.Codes.{LiesWithin}
use Rattle.filter_syntax.specs.Placed.{Kept, AreAt, joined}
use Rattle.expression_parser.specs.Readers.{Reader}

-- the lexemes that are left
abbrev pub remaining : Input → List Lexeme
remaining i = lexemes i.source.now.text.now i.tokens.now

-- the place of the first token that is left, and that of the text's end where there is none
abbrev pub first_place_of : ℕ → List Token → ℕ
first_place_of end [] = end
first_place_of end (token ∷ tokens) = token.from

-- the same of what is left to read
abbrev pub first_place : Input → ℕ
first_place i = first_place_of (length i.source.now.text.now) i.tokens.now

-- the tokens between two states of the input of one text, and the places that the tree keeps for them
pub record Spans (kept : Kept) (before after : Input) : Type 0 where
  pub tokens : List Token
  pub whole : before.tokens.now ≡ tokens ++ after.tokens.now
  pub same_text : after.source.now.text.now ≡ before.source.now.text.now
  pub placed : AreAt kept tokens

-- what was read further, after a part that kept so much: the whole keeps this
abbrev pub Continues : Kept → Kept → Input → Input → Type 0
Continues so_far all before after = (start : Input) → Spans so_far start before → Spans all start after

-- a list that has grown by what was read between two states of the input
pub record Grown {A : Type 0} (kept_of : A → Kept) (old new : List A) (before after : Input) : Type 0 where
  pub more : List A
  pub whole : new ≡ old ++ more
  pub spans : Spans (joined (map kept_of more)) before after

-- each of these tokens begins within so many bytes
abbrev pub BeginWithin : ℕ → List Token → Type 0
BeginWithin len [] = ⊤
BeginWithin len (token ∷ tokens) = (token.from < len) × BeginWithin len tokens

-- so does what ends them, where a fault does
abbrev pub EndsWithin : ℕ → Option TokenFault → Type 0
EndsWithin len None = ⊤
EndsWithin len (Some found) = token_fault_place found < len

-- what is left is of a text of so many bytes, in which its tokens and their end have their places
pub record IsWithin (len : ℕ) (input : Input) : Type 0 where
  pub text : length input.source.now.text.now ≡ len
  pub tokens : BeginWithin len input.tokens.now
  pub end : EndsWithin len input.source.now.end

-- what is left later is of the same text
abbrev pub Follows : Input → Input → Type 0
Follows before after = (len : ℕ) → IsWithin len before → IsWithin len after

-- a fault has its place in the text of which this is left
abbrev pub FailsWithin : Input → ParseFault → Type 0
FailsWithin input why = (len : ℕ) → IsWithin len input → LiesWithin len why

-- a function of the program leaves what is of the same text, or has its fault there
abbrev pub LeavesWithin : {X : Type 0} → (X → Input) → Input → Result X ParseFault → Type 0
LeavesWithin rest input result = (len : ℕ) → IsWithin len input → MatchResult result (λ x. IsWithin len (rest x)) (LiesWithin len)

-- the same of one that reads a thing
abbrev pub StaysWithin : {X : Type 0} → Input → Result (X × Input) ParseFault → Type 0
StaysWithin input result = LeavesWithin (λ x. x.1) input result

-- the same of one whose fault may be at a place before what is left
abbrev pub StaysWithinAfter : {X : Type 0} → ℕ → Input → Result (X × Input) ParseFault → Type 0
StaysWithinAfter at input result =
    (len : ℕ) → at < len → IsWithin len input → MatchResult result (λ x. IsWithin len x.1) (LiesWithin len)

-- a function of the program answers as the reading function does, or for refused memory
abbrev pub ReadsAs : {X A : Type 0} → (X → A) → Result X ParseFault → Option A → Type 0
ReadsAs view (Ok x) read = read ≡ Some (view x)
ReadsAs view (Err e) read = e ≢ fault.Memory → read ≡ None

-- a function of the program that may find nothing answers as the reading function does
abbrev pub Finds : {X A : Type 0} → (X → A) → Option X → Option A → Type 0
Finds view None read = read ≡ None
Finds view (Some x) read = read ≡ Some (view x)

-- why there are no more tokens: the text ends, or goes on with no token
abbrev pub end_fault_of : ℕ → Option TokenFault → ParseFault
end_fault_of end None = fault.EndsEarly end
end_fault_of end (Some found) = fault.Token found

-- what is wrong at a token, where something else is expected
abbrev pub unexpected_token : TokenKind → ℕ → Expected → ParseFault
unexpected_token kind.Text at wanted = fault.TextElsewhere at
unexpected_token _ at wanted = fault.Unexpected at wanted

-- what is wrong at the first of the tokens that are left
abbrev pub unexpected_of : ParseFault → List Token → Expected → ParseFault
unexpected_of none [] wanted = none
unexpected_of none (token ∷ tokens) wanted = unexpected_token token.word token.from wanted

abbrev pub unexpected : Input → Expected → ParseFault
unexpected i wanted = unexpected_of (end_fault_of (length i.source.now.text.now) i.source.now.end) i.tokens.now wanted

-- A function of the program reads what a reader does. Fewer lexemes are left, what it read keeps the places of its tokens, and a
-- fault is in the text.
pub record Reads {X A : Type 0} (view : X → A) (kept : X → Kept) (reader : Reader A) (input : Input) (result : Result (X × Input) ParseFault)
    : Type 0 where
  pub reads : ReadsAs (λ x. (view x.0, remaining x.1)) result (reader (remaining input))
  pub shorter : IfOk result (λ x. length (remaining x.1) < length (remaining input))
  pub placed : IfOk result (λ x. Spans (kept x.0) input x.1)
  pub within : StaysWithin input result

-- The same of one that goes on after a part that kept so much, and reads at least so many lexemes.
pub record ReadsOn {X A : Type 0} (least : ℕ) (so_far : Kept) (view : X → A) (kept : X → Kept) (reader : Reader A) (input : Input)
    (result : Result (X × Input) ParseFault) : Type 0 where
  pub reads : ReadsAs (λ x. (view x.0, remaining x.1)) result (reader (remaining input))
  pub shorter : IfOk result (λ x. least + length (remaining x.1) ≤ length (remaining input))
  pub placed : IfOk result (λ x. Continues so_far (kept x.0) input x.1)
  pub within : StaysWithin input result
