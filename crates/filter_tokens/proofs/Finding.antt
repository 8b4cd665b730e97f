-- Steps of the loops that look for the first that passes.
use Rattle.std.proofs.Common.{◌≡◌, ℕ, ◌+◌, ◌<◌, ◌≤◌, Bool, true, false, cond, List, [], ◌∷◌, length, drop, get_or, Option, Some}
use Rattle.std.proofs.Common.{None, refl, sym, ◌∙◌, ap, arith}
use Rattle.std.specs.List.{find, list_any}
use Rattle.std.specs.Option.{option_map}
use Rattle.std.proofs.lemmas.List.{drop_more, drop_all}
use Rattle.filter_tokens.specs.Reading.{closes, closing_len, hexadecimal_from, with_digit}

module _ {X : Type 0} (p : X → Bool) (xs : List X) (i : ℕ) (d : X) where
  -- the element at i does not pass: the first that does follows it
  pub find-passed : i < length xs → p (get_or xs i d) ≡ false → find p (drop i xs) ≡ find p (drop (i + 1) xs)
  find-passed within e = rw (drop_more xs i d within, e) refl

  -- the element at i passes
  pub find-here : i < length xs → p (get_or xs i d) ≡ true → find p (drop i xs) ≡ Some (get_or xs i d)
  find-here within e = rw (drop_more xs i d within, e) refl

  -- no element is left
  pub find-none : length xs ≤ i → find p (drop i xs) ≡ None
  find-none past = rw (drop_all i xs past) refl

  pub any-passed : i < length xs → p (get_or xs i d) ≡ false → list_any p (drop i xs) ≡ list_any p (drop (i + 1) xs)
  any-passed within e = rw (drop_more xs i d within, e) refl

  pub any-here : i < length xs → p (get_or xs i d) ≡ true → list_any p (drop i xs) ≡ true
  any-here within e = rw (drop_more xs i d within, e) refl

  pub any-none : length xs ≤ i → list_any p (drop i xs) ≡ false
  any-none past = rw (drop_all i xs past) refl

-- nothing added is nothing changed
none_more : (found : Option ℕ) → found ≡ option_map (λ len. 0 + len) found
none_more None = refl
none_more (Some len) = ap Some (omega arith)

-- one added after n added is one more than n
one_more : (n : ℕ) (found : Option ℕ)
    → option_map (λ len. n + len) (option_map (λ len. 1 + len) found) ≡ option_map (λ len. (n + 1) + len) found
one_more n None = refl
one_more n (Some len) = ap Some (omega arith)

-- the loop that looks for `*/`: at its start, at a place where there is none, where there is one, and past the end
pub closing-start : (text : List ℕ) → closing_len text ≡ option_map (λ len. 0 + len) (closing_len text)
closing-start text = none_more (closing_len text)

pub closing-passed : (text : List ℕ) (at : ℕ) → at < length text → closes (drop at text) ≡ false
    → option_map (λ len. at + len) (closing_len (drop at text)) ≡ option_map (λ len. (at + 1) + len) (closing_len (drop (at + 1) text))
unfolding closing_len
closing-passed text at within e =
    let more = drop_more text at 0 within in
    let other : closes (get_or text at 0 ∷ drop (at + 1) text) ≡ false = ap closes (sym more) ∙ e in
    ap (λ rest. option_map (λ len. at + len) (closing_len rest)) more ∙ rw other (one_more at (closing_len (drop (at + 1) text)))

pub closing-here : (text : List ℕ) (at : ℕ) → at < length text → closes (drop at text) ≡ true
    → option_map (λ len. at + len) (closing_len (drop at text)) ≡ Some (at + 2)
unfolding closing_len
closing-here text at within e =
    let more = drop_more text at 0 within in
    let same : closes (get_or text at 0 ∷ drop (at + 1) text) ≡ true = ap closes (sym more) ∙ e in
    ap (λ rest. option_map (λ len. at + len) (closing_len rest)) more ∙ rw same refl

pub closing-none : (text : List ℕ) (at : ℕ) → length text ≤ at → option_map (λ len. at + len) (closing_len (drop at text)) ≡ None
unfolding closing_len
closing-none text at past = rw (drop_all at text past) refl

-- the loop that reads hexadecimal digits: a digit, what is none or makes the number too large, and the end
pub digits-more : (text : List ℕ) (at value longer : ℕ) → at < length text → with_digit value (get_or text at 0) ≡ Some longer
    → hexadecimal_from value (drop at text) ≡ hexadecimal_from longer (drop (at + 1) text)
unfolding hexadecimal_from
digits-more text at value longer within e = rw (drop_more text at 0 within, e) refl

pub digits-refused : (text : List ℕ) (at value : ℕ) → at < length text → with_digit value (get_or text at 0) ≡ None
    → hexadecimal_from value (drop at text) ≡ None
unfolding hexadecimal_from
digits-refused text at value within e = rw (drop_more text at 0 within, e) refl

pub digits-end : (text : List ℕ) (at value : ℕ) → length text ≤ at → hexadecimal_from value (drop at text) ≡ Some value
unfolding hexadecimal_from
digits-end text at value past = rw (drop_all at text past) refl

-- ---- the first of a few that passes, one at a time

first_as : {X : Type 0} (p : X → Bool) (x y : X) (xs : List X) (passes : Bool) → p x ≡ passes → cond passes (Some x) None ≡ Some y →
    find p (x ∷ xs) ≡ Some y
first_as p x y xs true e found = rw e found
first_as p x y xs false e found = absurd cc

pub found-first : {X : Type 0} (p : X → Bool) (x y : X) (xs : List X) → find p (x ∷ []) ≡ Some y → find p (x ∷ xs) ≡ Some y
found-first p x y xs found = first_as p x y xs (p x) refl found

later_as : {X : Type 0} (p : X → Bool) (x : X) (xs : List X) (passes : Bool) → p x ≡ passes → cond passes (Some x) None ≡ None →
    find p (x ∷ xs) ≡ find p xs
later_as p x xs true e found = absurd cc
later_as p x xs false e found = rw e refl

pub found-later : {X : Type 0} (p : X → Bool) (x : X) (xs : List X) → find p (x ∷ []) ≡ None → find p (x ∷ xs) ≡ find p xs
found-later p x xs found = later_as p x xs (p x) refl found
