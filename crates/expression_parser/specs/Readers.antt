-- Readers of lexemes, and how they are put together: each says what the first lexemes are, and leaves those after them. They
-- follow the parser; no crate above `filter_parser` cites them.
use Rattle.std.specs.Prelude.{ℕ, zero, suc, Bool, true, false, List, [], ◌∷◌, Option, Some, None, nat_eq, if◌then◌else◌}
use Rattle.std.specs.Cmp.Lexicographic.{pointwise}
use denote.Enum.Bare.{sameb}
use Rattle.prefix_patterns.specs.Reading.{◌>>=◌ as and_then}
use Rattle.filter_tokens.specs.Lexemes.{Lexeme}
use Rattle.filter_tokens.specs.declared.symbol.Symbol.{Symbol}
use Rattle.filter_tokens.specs.contracts.symbol.Symbol.{the_type}

-- what lexemes say, if anything
abbrev pub Reading : Type 0 → Type 0
Reading B = List Lexeme → Option B

-- what reads a thing, and leaves the lexemes after it
abbrev pub Reader : Type 0 → Type 0
Reader A = Reading (A × List Lexeme)

-- what reads lexemes that have to be there and say no more, such as a bracket, and leaves those after them
abbrev pub Skip : Type 0
Skip = Reading (List Lexeme)

-- ---- one after the other

-- one step if there is a first, and another one otherwise
abbrev pub with_some : {A B : Type 0} → Option A → Option B → (A → Option B) → Option B
with_some None other later = other
with_some (Some x) other later = later x

-- a thing, and what goes on with it
infixl 10 ◌>>=◌
abbrev pub ◌>>=◌ : {A B : Type 0} → Reader A → (A → Reading B) → Reading B
◌>>=◌ first later ws = and_then (first ws) (λ x. later x.0 x.1)

-- lexemes that have to be there, and what follows them
infixl 10 ◌>>◌
abbrev pub ◌>>◌ : {B : Type 0} → Skip → Reading B → Reading B
◌>>◌ skip later ws = and_then (skip ws) later

-- what goes on after these lexemes if they are there, and something else otherwise
infix 5 after◌then◌else◌
abbrev pub after◌then◌else◌ : {B : Type 0} → Skip → Reading B → Reading B → Reading B
after◌then◌else◌ skip later other ws = with_some (skip ws) (other ws) later

-- what goes on with a thing if that is there, and something else otherwise
infix 5 with◌then◌else◌
abbrev pub with◌then◌else◌ : {A B : Type 0} → Reader A → (A → Reading B) → Reading B → Reading B
with◌then◌else◌ first later other ws = with_some (first ws) (other ws) (λ x. later x.0 x.1)

-- one way to go on where the lexemes begin so, and another one otherwise
infix 5 when◌then◌else◌
abbrev pub when◌then◌else◌ : {B : Type 0} → (List Lexeme → Bool) → Reading B → Reading B → Reading B
when◌then◌else◌ begins later other ws = if begins ws then later ws else other ws

-- this, with nothing more read
abbrev pub done : {A : Type 0} → A → Reader A
done x ws = Some (x, ws)

-- this, if it is something, with nothing more read
abbrev pub given : {A : Type 0} → Option A → Reader A
given found ws = and_then found (λ x. Some (x, ws))

-- whether there is something
abbrev pub is_there : {A : Type 0} → Option A → Bool
is_there None = false
is_there (Some x) = true

-- nothing
abbrev pub refused : {A : Type 0} → Reader A
refused ws = None

-- ---- loops

-- a turn of a loop: it refuses, ends the loop, or goes on with what it made
abbrev pub Turn : Type 0 → Type 0
Turn A = A → Reading (Option (A × List Lexeme))

-- the loop goes on with this
abbrev pub again : {A : Type 0} → A → Reading (Option (A × List Lexeme))
again x ws = Some (Some (x, ws))

-- the loop ends
abbrev pub stop : {A : Type 0} → Reading (Option (A × List Lexeme))
stop ws = Some None

-- turns of a loop, at most this many
abbrev pub turns : {A : Type 0} → Turn A → ℕ → A → Reader A
turns turn zero x ws = Some (x, ws)
turns turn (suc n) x ws = and_then (turn x ws) (λ r. with_some r (Some (x, ws)) (λ y. turns turn n y.0 y.1))

-- ---- one lexeme

-- whether two symbols are the same
abbrev pub same_symbol : Symbol → Symbol → Bool
same_symbol = sameb the_type

-- whether a lexeme is a symbol
abbrev pub is_symbol : Symbol → Lexeme → Bool
is_symbol wanted (Lexeme.symbol m) = same_symbol wanted m
is_symbol wanted (Lexeme.name text) = false
is_symbol wanted (Lexeme.number n) = false
is_symbol wanted (Lexeme.address a) = false
is_symbol wanted (Lexeme.prefix bits) = false
is_symbol wanted Lexeme.quote = false

-- a symbol
abbrev pub symbol : Symbol → Skip
symbol wanted [] = None
symbol wanted (w ∷ ws) = if is_symbol wanted w then Some ws else None

-- a text in quotes
abbrev pub quote : Skip
quote (Lexeme.quote ∷ ws) = Some ws
quote _ = None

-- whether a lexeme is a name that is this word
abbrev pub is_word : List ℕ → Lexeme → Bool
is_word wanted (Lexeme.name text) = pointwise nat_eq text wanted
is_word wanted (Lexeme.symbol k) = false
is_word wanted (Lexeme.number n) = false
is_word wanted (Lexeme.address a) = false
is_word wanted (Lexeme.prefix bits) = false
is_word wanted Lexeme.quote = false

-- a name that is this word
abbrev pub word : List ℕ → Skip
word wanted [] = None
word wanted (w ∷ ws) = if is_word wanted w then Some ws else None

-- a name
abbrev pub a_name : Reader (List ℕ)
a_name [] = None
a_name (Lexeme.name text ∷ ws) = Some (text, ws)
a_name (_ ∷ ws) = None

-- a number
abbrev pub a_number : Reader ℕ
a_number [] = None
a_number (Lexeme.number n ∷ ws) = Some (n, ws)
a_number (_ ∷ ws) = None

-- a prefix
abbrev pub a_prefix : Reader (List Bool)
a_prefix [] = None
a_prefix (Lexeme.prefix p ∷ ws) = Some (p, ws)
a_prefix (_ ∷ ws) = None
