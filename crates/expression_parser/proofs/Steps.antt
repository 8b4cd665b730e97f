-- Steps on lists of lexemes, taken apart and put together.
use Rattle.std.proofs.Common.{◌≡◌, refl, sym, ap, List, [], ◌∷◌, Bool, true, false, Option, Some, None, ◌⊎◌, inl, inr, if◌then◌else◌, rules}
use denote.Enum.Bare.{same_true, true_same}
use Rattle.filter_tokens.specs.Lexemes.{Lexeme}
use Rattle.filter_tokens.specs.declared.symbol.Symbol.{Symbol}
use Rattle.filter_tokens.specs.contracts.symbol.Symbol.{the_type}
use Rattle.prefix_patterns.specs.Reading.{◌>>=◌}
use Rattle.expression_parser.specs.Readers.{given, with_some, is_symbol, symbol}

-- what two equal answers hold
pub some_is : {A : Type 0} {x y : A} → Some x ≡ Some y → x ≡ y
some_is {x = x} {y = y} e = cc

-- both steps of two were taken
pub bind_some : {A B : Type 0} (r : Option A) (f : A → Option B) (y : B) → (r >>= f) ≡ Some y → (x : A) × (r ≡ Some x) × (f x ≡ Some y)
bind_some None f y e = absurd (cc)
bind_some (Some x) f y e = (x, refl, e)

-- the same of a reader's two steps, where the first only looks at what was read
pub bind_given : {A B : Type 0} (r : Option A) (ws : List Lexeme) (f : A × List Lexeme → Option B) (y : B) → (given r ws >>= f) ≡ Some y
    → (x : A) × (r ≡ Some x) × (f (x, ws) ≡ Some y)
bind_given None ws f y e = absurd (cc)
bind_given (Some x) ws f y e = (x, refl, e)

-- one of two ways was taken
pub with_some_cases : {A B : Type 0} (r : Option A) (other : Option B) (f : A → Option B) (y : B) →
    with_some r other f ≡ Some y → ((r ≡ None) × (other ≡ Some y)) ⊎ ((x : A) × (r ≡ Some x) × (f x ≡ Some y))
with_some_cases None other f y e = inl (refl, e)
with_some_cases (Some x) other f y e = inr (x, refl, e)

pub symbol_is : (m : Symbol) (w : Lexeme) → is_symbol m w ≡ true → w ≡ Lexeme.symbol m
symbol_is m (Lexeme.symbol k) e = ap Lexeme.symbol (sym (same_true the_type (search rules) m k e))
symbol_is m (Lexeme.name text) e = absurd (cc)
symbol_is m (Lexeme.number n) e = absurd (cc)
symbol_is m (Lexeme.address a) e = absurd (cc)
symbol_is m (Lexeme.prefix bits) e = absurd (cc)
symbol_is m Lexeme.quote e = absurd (cc)

-- what a symbol was found before
pub symbol_found : (m : Symbol) (ws rest : List Lexeme) → symbol m ws ≡ Some rest → ws ≡ Lexeme.symbol m ∷ rest
symbol_found m [] rest e = absurd (cc)
symbol_found m (w ∷ ws) rest e = go (is_symbol m w) refl e
  where
    go : (b : Bool) → is_symbol m w ≡ b → (if b then Some ws else None) ≡ Some rest → w ∷ ws ≡ Lexeme.symbol m ∷ rest
    go true s h = let a : w ≡ Lexeme.symbol m = symbol_is m w s in let b : ws ≡ rest = some_is h in cc
    go false s h = absurd (cc)

-- a symbol is found where it is
pub symbol_there : (m : Symbol) (ws : List Lexeme) → symbol m (Lexeme.symbol m ∷ ws) ≡ Some ws
symbol_there m ws = rw (true_same the_type m m refl) refl
