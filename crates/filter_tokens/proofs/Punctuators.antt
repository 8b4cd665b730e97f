-- Which punctuator is at the front of a text, and which keyword a word is.
use Rattle.std.proofs.Common.{◌≡◌, ◌≢◌, ℕ, zero, suc, ◌<◌, ◌≤◌, Bool, true, false, List, [], ◌∷◌, ◌++◌, length, take, drop}
use Rattle.std.proofs.Common.{get_or, Some, All, refl, sym, ◌∙◌, ap, arith, lit<}
use Rattle.std.specs.List.{find, list_all}
use Rattle.std.specs.Str.{bytes_eq}
use Rattle.std.proofs.lemmas.Bool.{and_parts, false_from_ne_true}
use Rattle.std.proofs.lemmas.List.{take-append-drop}
use Rattle.std.proofs.lemmas.List.Elements.{All-get_or, All-from_get_or}
use Rattle.std.proofs.lemmas.List.Folds.{list_any_none, list_any_at}
use Rattle.std.proofs.lemmas.Slice.Eq.{bytes_eq-Decides}
use Rattle.filter_tokens.specs.declared.symbol.Symbol.{Symbol}
use Rattle.filter_tokens.specs.declared.symbol.Symbol.TheVariants as symbol
use Rattle.filter_tokens.specs.Symbols.{symbol_text, is_punctuator, left_out}
use Rattle.filter_tokens.specs.Reading.{punctuators, keywords, begins_with_symbol, punctuator_in, is_spelled, keyword_in, is_left_out}
use Rattle.filter_tokens.specs.Shapes.{IsWord}

-- what is found passes, and has what each of the list has
found_step : {X : Type 0} (p q : X → Bool) (x y : X) (xs : List X) (here : Bool) → p y ≡ here → q y ≡ true → find p (y ∷ xs) ≡ Some x
    → (find p xs ≡ Some x → (p x ≡ true) × (q x ≡ true)) → (p x ≡ true) × (q x ≡ true)
found_step p q x y xs true e f g later = let same : y ≡ x = let first : Some y ≡ Some x = sym (rw e refl)
    ∙ g in cc in (ap p (sym same) ∙ e, ap q (sym same) ∙ f)
found_step p q x y xs false e f g later = later (sym (rw e refl) ∙ g)

pub find-found : {X : Type 0} (p q : X → Bool) (x : X) (xs : List X) → list_all q xs ≡ true → find p xs ≡ Some x
    → (p x ≡ true) × (q x ≡ true)
find-found p q x [] all e = absurd cc
find-found p q x (y ∷ xs) all e =
    let parts = and_parts (q y) (list_all q xs) all in
    found_step p q x y xs (p y) refl parts.0 e (find-found p q x xs parts.1)

some_step : {X : Type 0} (p : X → Bool) (y : X) (xs : List X) (here : Bool) → p y ≡ here → (x : X) × (find p xs ≡ Some x)
    → (x : X) × (find p (y ∷ xs) ≡ Some x)
some_step p y xs true e later = (y, rw e refl)
some_step p y xs false e later = (later.0, rw e later.1)

-- where one passes, one is found
pub find-some : {X : Type 0} (p : X → Bool) (d : X) (xs : List X) (k : ℕ) → k < length xs → p (get_or xs k d) ≡ true
    → (x : X) × (find p xs ≡ Some x)
find-some p d [] k within e = absurd (omega arith)
find-some p d (y ∷ xs) zero within e = (y, rw e refl)
find-some p d (y ∷ xs) (suc k) within e = some_step p y xs (p y) refl (find-some p d xs k (omega arith) e)

-- no punctuator is empty
pub punctuator_positive : (punctuator : Symbol) → is_punctuator punctuator ≡ true → 0 < length (symbol_text punctuator)
punctuator_positive symbol.And is = lit< tt
punctuator_positive symbol.Or is = lit< tt
punctuator_positive symbol.NotEqual is = lit< tt
punctuator_positive symbol.NotMatch is = lit< tt
punctuator_positive symbol.LessEqual is = lit< tt
punctuator_positive symbol.GreaterEqual is = lit< tt
punctuator_positive symbol.DotDot is = lit< tt
punctuator_positive symbol.LeftParen is = lit< tt
punctuator_positive symbol.RightParen is = lit< tt
punctuator_positive symbol.LeftBrace is = lit< tt
punctuator_positive symbol.RightBrace is = lit< tt
punctuator_positive symbol.LeftBracket is = lit< tt
punctuator_positive symbol.RightBracket is = lit< tt
punctuator_positive symbol.Semicolon is = lit< tt
punctuator_positive symbol.Colon is = lit< tt
punctuator_positive symbol.Comma is = lit< tt
punctuator_positive symbol.Dot is = lit< tt
punctuator_positive symbol.Equal is = lit< tt
punctuator_positive symbol.Less is = lit< tt
punctuator_positive symbol.Greater is = lit< tt
punctuator_positive symbol.Match is = lit< tt
punctuator_positive symbol.Not is = lit< tt
punctuator_positive symbol.Plus is = lit< tt
punctuator_positive symbol.Minus is = lit< tt
punctuator_positive symbol.Times is = lit< tt
punctuator_positive symbol.Divide is = lit< tt
punctuator_positive symbol.Filter is = absurd cc
punctuator_positive symbol.Int is = absurd cc
punctuator_positive symbol.Bool is = absurd cc
punctuator_positive symbol.Ip is = absurd cc
punctuator_positive symbol.Prefix is = absurd cc
punctuator_positive symbol.If is = absurd cc
punctuator_positive symbol.Then is = absurd cc
punctuator_positive symbol.Else is = absurd cc
punctuator_positive symbol.Case is = absurd cc
punctuator_positive symbol.Accept is = absurd cc
punctuator_positive symbol.Reject is = absurd cc
punctuator_positive symbol.True is = absurd cc
punctuator_positive symbol.False is = absurd cc
punctuator_positive symbol.Defined is = absurd cc
punctuator_positive symbol.Net is = absurd cc
punctuator_positive symbol.RipMetric is = absurd cc

-- a punctuator is found in itself
pub punctuator-itself : (punctuator : Symbol) → is_punctuator punctuator ≡ true → punctuator_in (symbol_text punctuator) ≡ Some punctuator
unfolding punctuator_in
punctuator-itself symbol.And is = refl
punctuator-itself symbol.Or is = refl
punctuator-itself symbol.NotEqual is = refl
punctuator-itself symbol.NotMatch is = refl
punctuator-itself symbol.LessEqual is = refl
punctuator-itself symbol.GreaterEqual is = refl
punctuator-itself symbol.DotDot is = refl
punctuator-itself symbol.LeftParen is = refl
punctuator-itself symbol.RightParen is = refl
punctuator-itself symbol.LeftBrace is = refl
punctuator-itself symbol.RightBrace is = refl
punctuator-itself symbol.LeftBracket is = refl
punctuator-itself symbol.RightBracket is = refl
punctuator-itself symbol.Semicolon is = refl
punctuator-itself symbol.Colon is = refl
punctuator-itself symbol.Comma is = refl
punctuator-itself symbol.Dot is = refl
punctuator-itself symbol.Equal is = refl
punctuator-itself symbol.Less is = refl
punctuator-itself symbol.Greater is = refl
punctuator-itself symbol.Match is = refl
punctuator-itself symbol.Not is = refl
punctuator-itself symbol.Plus is = refl
punctuator-itself symbol.Minus is = refl
punctuator-itself symbol.Times is = refl
punctuator-itself symbol.Divide is = refl
punctuator-itself symbol.Filter is = absurd cc
punctuator-itself symbol.Int is = absurd cc
punctuator-itself symbol.Bool is = absurd cc
punctuator-itself symbol.Ip is = absurd cc
punctuator-itself symbol.Prefix is = absurd cc
punctuator-itself symbol.If is = absurd cc
punctuator-itself symbol.Then is = absurd cc
punctuator-itself symbol.Else is = absurd cc
punctuator-itself symbol.Case is = absurd cc
punctuator-itself symbol.Accept is = absurd cc
punctuator-itself symbol.Reject is = absurd cc
punctuator-itself symbol.True is = absurd cc
punctuator-itself symbol.False is = absurd cc
punctuator-itself symbol.Defined is = absurd cc
punctuator-itself symbol.Net is = absurd cc
punctuator-itself symbol.RipMetric is = absurd cc

-- what the longest punctuator at the front of a text covers, where this one is there
pub record Covers (punctuator : Symbol) (text : List ℕ) : Type 0 where
  pub longest : Symbol
  pub found : punctuator_in text ≡ Some longest
  pub covers : length (symbol_text punctuator) ≤ length (symbol_text longest)

two_bytes : (punctuator : Symbol) (rest : List ℕ) → punctuator_in (symbol_text punctuator ++ rest) ≡ Some punctuator → Covers punctuator (symbol_text punctuator ++ rest)
two_bytes punctuator rest e = record { longest = punctuator; found = e; covers = omega arith }

-- a punctuator of one byte: something is found, and no punctuator is shorter
one_byte : (punctuator : Symbol) (rest : List ℕ) (k : ℕ) → length (symbol_text punctuator) ≡ 1 → k < 26
    → begins_with_symbol (symbol_text punctuator ++ rest) (get_or punctuators k punctuator) ≡ true
    → Covers punctuator (symbol_text punctuator ++ rest)
unfolding punctuator_in
one_byte punctuator rest k one within e =
    let text = symbol_text punctuator ++ rest in
    let some = find-some (begins_with_symbol text) punctuator punctuators k within e in
    let is = find-found (begins_with_symbol text) is_punctuator some.0 punctuators refl some.1 in
    record { longest = some.0; found = some.1; covers = omega (arith, punctuator_positive some.0 is.1) }

pub punctuator-covers : (punctuator : Symbol) (rest : List ℕ) → is_punctuator punctuator ≡ true → Covers punctuator (symbol_text punctuator ++ rest)
unfolding punctuator_in
punctuator-covers symbol.And rest is = two_bytes symbol.And rest refl
punctuator-covers symbol.Or rest is = two_bytes symbol.Or rest refl
punctuator-covers symbol.NotEqual rest is = two_bytes symbol.NotEqual rest refl
punctuator-covers symbol.NotMatch rest is = two_bytes symbol.NotMatch rest refl
punctuator-covers symbol.LessEqual rest is = two_bytes symbol.LessEqual rest refl
punctuator-covers symbol.GreaterEqual rest is = two_bytes symbol.GreaterEqual rest refl
punctuator-covers symbol.DotDot rest is = two_bytes symbol.DotDot rest refl
punctuator-covers symbol.LeftParen rest is = one_byte symbol.LeftParen rest 7 refl (lit< tt) refl
punctuator-covers symbol.RightParen rest is = one_byte symbol.RightParen rest 8 refl (lit< tt) refl
punctuator-covers symbol.LeftBrace rest is = one_byte symbol.LeftBrace rest 9 refl (lit< tt) refl
punctuator-covers symbol.RightBrace rest is = one_byte symbol.RightBrace rest 10 refl (lit< tt) refl
punctuator-covers symbol.LeftBracket rest is = one_byte symbol.LeftBracket rest 11 refl (lit< tt) refl
punctuator-covers symbol.RightBracket rest is = one_byte symbol.RightBracket rest 12 refl (lit< tt) refl
punctuator-covers symbol.Semicolon rest is = one_byte symbol.Semicolon rest 13 refl (lit< tt) refl
punctuator-covers symbol.Colon rest is = one_byte symbol.Colon rest 14 refl (lit< tt) refl
punctuator-covers symbol.Comma rest is = one_byte symbol.Comma rest 15 refl (lit< tt) refl
punctuator-covers symbol.Dot rest is = one_byte symbol.Dot rest 16 refl (lit< tt) refl
punctuator-covers symbol.Equal rest is = one_byte symbol.Equal rest 17 refl (lit< tt) refl
punctuator-covers symbol.Less rest is = one_byte symbol.Less rest 18 refl (lit< tt) refl
punctuator-covers symbol.Greater rest is = one_byte symbol.Greater rest 19 refl (lit< tt) refl
punctuator-covers symbol.Match rest is = one_byte symbol.Match rest 20 refl (lit< tt) refl
punctuator-covers symbol.Not rest is = one_byte symbol.Not rest 21 refl (lit< tt) refl
punctuator-covers symbol.Plus rest is = one_byte symbol.Plus rest 22 refl (lit< tt) refl
punctuator-covers symbol.Minus rest is = one_byte symbol.Minus rest 23 refl (lit< tt) refl
punctuator-covers symbol.Times rest is = one_byte symbol.Times rest 24 refl (lit< tt) refl
punctuator-covers symbol.Divide rest is = one_byte symbol.Divide rest 25 refl (lit< tt) refl
punctuator-covers symbol.Filter rest is = absurd cc
punctuator-covers symbol.Int rest is = absurd cc
punctuator-covers symbol.Bool rest is = absurd cc
punctuator-covers symbol.Ip rest is = absurd cc
punctuator-covers symbol.Prefix rest is = absurd cc
punctuator-covers symbol.If rest is = absurd cc
punctuator-covers symbol.Then rest is = absurd cc
punctuator-covers symbol.Else rest is = absurd cc
punctuator-covers symbol.Case rest is = absurd cc
punctuator-covers symbol.Accept rest is = absurd cc
punctuator-covers symbol.Reject rest is = absurd cc
punctuator-covers symbol.True rest is = absurd cc
punctuator-covers symbol.False rest is = absurd cc
punctuator-covers symbol.Defined rest is = absurd cc
punctuator-covers symbol.Net rest is = absurd cc
punctuator-covers symbol.RipMetric rest is = absurd cc

-- the punctuator that is found is at the front
pub punctuator-found : (text : List ℕ) (punctuator : Symbol) → punctuator_in text ≡ Some punctuator
    → (is_punctuator punctuator ≡ true) × (text ≡ symbol_text punctuator ++ drop (length (symbol_text punctuator)) text)
unfolding punctuator_in
punctuator-found text punctuator e =
    let is = find-found (begins_with_symbol text) is_punctuator punctuator punctuators refl e in
    let n = length (symbol_text punctuator) in
    let same : symbol_text punctuator ≡ take n text = (bytes_eq-Decides (symbol_text punctuator) (take n text)).0 is.0 in
    (is.1, sym (take-append-drop n text) ∙ ap (λ front. front ++ drop n text) (sym same))

-- a word that is written as a keyword is that keyword, and no word is written as a punctuator
pub keyword-there : (keyword : Symbol) → IsWord (symbol_text keyword) → keyword_in (symbol_text keyword) ≡ Some keyword
unfolding keyword_in
keyword-there symbol.And is = absurd (let never : false ≡ true = is.0 in cc)
keyword-there symbol.Or is = absurd (let never : false ≡ true = is.0 in cc)
keyword-there symbol.NotEqual is = absurd (let never : false ≡ true = is.0 in cc)
keyword-there symbol.NotMatch is = absurd (let never : false ≡ true = is.0 in cc)
keyword-there symbol.LessEqual is = absurd (let never : false ≡ true = is.0 in cc)
keyword-there symbol.GreaterEqual is = absurd (let never : false ≡ true = is.0 in cc)
keyword-there symbol.DotDot is = absurd (let never : false ≡ true = is.0 in cc)
keyword-there symbol.LeftParen is = absurd (let never : false ≡ true = is.0 in cc)
keyword-there symbol.RightParen is = absurd (let never : false ≡ true = is.0 in cc)
keyword-there symbol.LeftBrace is = absurd (let never : false ≡ true = is.0 in cc)
keyword-there symbol.RightBrace is = absurd (let never : false ≡ true = is.0 in cc)
keyword-there symbol.LeftBracket is = absurd (let never : false ≡ true = is.0 in cc)
keyword-there symbol.RightBracket is = absurd (let never : false ≡ true = is.0 in cc)
keyword-there symbol.Semicolon is = absurd (let never : false ≡ true = is.0 in cc)
keyword-there symbol.Colon is = absurd (let never : false ≡ true = is.0 in cc)
keyword-there symbol.Comma is = absurd (let never : false ≡ true = is.0 in cc)
keyword-there symbol.Dot is = absurd (let never : false ≡ true = is.0 in cc)
keyword-there symbol.Equal is = absurd (let never : false ≡ true = is.0 in cc)
keyword-there symbol.Less is = absurd (let never : false ≡ true = is.0 in cc)
keyword-there symbol.Greater is = absurd (let never : false ≡ true = is.0 in cc)
keyword-there symbol.Match is = absurd (let never : false ≡ true = is.0 in cc)
keyword-there symbol.Not is = absurd (let never : false ≡ true = is.0 in cc)
keyword-there symbol.Plus is = absurd (let never : false ≡ true = is.0 in cc)
keyword-there symbol.Minus is = absurd (let never : false ≡ true = is.0 in cc)
keyword-there symbol.Times is = absurd (let never : false ≡ true = is.0 in cc)
keyword-there symbol.Divide is = absurd (let never : false ≡ true = is.0 in cc)
keyword-there symbol.Filter is = refl
keyword-there symbol.Int is = refl
keyword-there symbol.Bool is = refl
keyword-there symbol.Ip is = refl
keyword-there symbol.Prefix is = refl
keyword-there symbol.If is = refl
keyword-there symbol.Then is = refl
keyword-there symbol.Else is = refl
keyword-there symbol.Case is = refl
keyword-there symbol.Accept is = refl
keyword-there symbol.Reject is = refl
keyword-there symbol.True is = refl
keyword-there symbol.False is = refl
keyword-there symbol.Defined is = refl
keyword-there symbol.Net is = refl
keyword-there symbol.RipMetric is = refl

pub keyword-found : (bytes : List ℕ) (keyword : Symbol) → keyword_in bytes ≡ Some keyword → bytes ≡ symbol_text keyword
unfolding keyword_in
keyword-found bytes keyword e =
    let is = find-found (is_spelled bytes) (λ symbol. true) keyword keywords refl e in
    sym ((bytes_eq-Decides (symbol_text keyword) bytes).0 is.0)

-- the test of a word left out
pub left_out-none : (bytes : List ℕ) → All (λ word. bytes ≢ word) left_out → is_left_out bytes ≡ false
unfolding is_left_out
left_out-none bytes none =
    list_any_none (λ word. bytes_eq word bytes) left_out
    (All-from_get_or (λ word. bytes_eq word bytes ≡ false) left_out []
    (λ k within. false_from_ne_true _
    (λ same. All-get_or (λ word. bytes ≢ word) left_out k [] within none (sym ((bytes_eq-Decides (get_or left_out k []) bytes).0 same)))))

pub left_out-all : (bytes : List ℕ) → is_left_out bytes ≡ false → All (λ word. bytes ≢ word) left_out
unfolding is_left_out
left_out-all bytes none =
    All-from_get_or (λ word. bytes ≢ word) left_out []
    (λ k within same.
    let there = list_any_at (λ word. bytes_eq word bytes) left_out k [] within
    ((bytes_eq-Decides (get_or left_out k []) bytes).1 (sym same)) in
    let clash : true ≡ false = sym there ∙ none in
    absurd cc)
