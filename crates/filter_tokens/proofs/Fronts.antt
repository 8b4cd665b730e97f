-- The bytes at the front of a text that pass a test, and what follows them.
use Rattle.std.proofs.Common.{◌≡◌, ℕ, ◌+◌, ◌≤◌, Bool, true, false, List, [], ◌∷◌, ◌++◌, length, Option}
use Rattle.std.proofs.Common.{Some, None, All, refl, sym, ◌∙◌, ap, arith, one-add, length-append, length-drop}
use Rattle.std.specs.List.{prefix_len}
use Rattle.std.specs.Option.{option_map}
use Rattle.std.proofs.lemmas.List.Elements.{All-nil, All-cons, All-head, All-tail}
use Rattle.prefix_patterns.specs.Reading.{◌>>=◌}
use Rattle.filter_tokens.specs.Reading.{drop_while}

-- a reading that goes on found a value, and went on with it
pub bind_some : {A B P : Type 0} (r : Option A) (next : A → Option B) (y : B) → (r >>= next) ≡ Some y
    → ((x : A) → r ≡ Some x → next x ≡ Some y → P) → P
bind_some None next y e then = absurd cc
bind_some (Some x) next y e then = then x refl e

-- the same of a value that is made from another
pub map_some : {A B : Type 0} (f : A → B) (r : Option A) (y : B) → option_map f r ≡ Some y → (x : A) × (r ≡ Some x) × (f x ≡ y)
map_some f None y e = absurd cc
map_some f (Some x) y e = (x, refl, cc)

-- where the first byte passes, it is left out
pub drop_while-yes : (p : ℕ → Bool) (byte : ℕ) (bytes : List ℕ) → p byte ≡ true → drop_while p (byte ∷ bytes) ≡ drop_while p bytes
drop_while-yes p byte bytes e = rw (e, one-add) refl

-- where it does not, all follows
pub drop_while-no : (p : ℕ → Bool) (byte : ℕ) (bytes : List ℕ) → p byte ≡ false → drop_while p (byte ∷ bytes) ≡ byte ∷ bytes
drop_while-no p byte bytes e = rw e refl

-- bytes that pass come before what follows the rest
pub drop_while-append : (p : ℕ → Bool) (x rest : List ℕ) → All (λ byte. p byte ≡ true) x → drop_while p (x ++ rest) ≡ drop_while p rest
drop_while-append p [] rest each = refl
drop_while-append p (byte ∷ bytes) rest each =
    drop_while-yes p byte (bytes ++ rest) (All-head (λ byte. p byte ≡ true) byte bytes each)
    ∙ drop_while-append p bytes rest (All-tail (λ byte. p byte ≡ true) byte bytes each)

-- the same, where nothing follows
pub drop_while-all : (p : ℕ → Bool) (x : List ℕ) → All (λ byte. p byte ≡ true) x → drop_while p x ≡ []
drop_while-all p [] each = refl
drop_while-all p (byte ∷ bytes) each =
    drop_while-yes p byte bytes (All-head (λ byte. p byte ≡ true) byte bytes each)
    ∙ drop_while-all p bytes (All-tail (λ byte. p byte ≡ true) byte bytes each)

-- the bytes at the front that pass, as many as there are
pub record Front (p : ℕ → Bool) (text : List ℕ) : Type 0 where
  pub bytes : List ℕ
  pub each : All (λ byte. p byte ≡ true) bytes
  pub count : length bytes ≡ prefix_len p text
  pub whole : text ≡ bytes ++ drop_while p text

front_step : (p : ℕ → Bool) (byte : ℕ) (bytes : List ℕ) (passes : Bool) → p byte ≡ passes → Front p bytes → Front p (byte ∷ bytes)
front_step p byte bytes true e rest = record {
  bytes = byte ∷ rest.bytes;
  each = All-cons (λ byte. p byte ≡ true) byte rest.bytes e rest.each;
  count = rw e (omega (arith, rest.count));
  whole = ap (λ tail. byte ∷ tail) (rest.whole ∙ ap (λ tail. rest.bytes ++ tail) (sym (drop_while-yes p byte bytes e)));
}
front_step p byte bytes false e rest = record {
  bytes = [];
  each = All-nil (λ byte. p byte ≡ true);
  count = rw e refl;
  whole = sym (drop_while-no p byte bytes e);
}

pub front : (p : ℕ → Bool) (text : List ℕ) → Front p text
front p [] = record { bytes = []; each = All-nil (λ byte. p byte ≡ true); count = refl; whole = refl }
front p (byte ∷ bytes) = front_step p byte bytes (p byte) refl (front p bytes)

-- no more follows than there is
pub drop_while-length : (p : ℕ → Bool) (text : List ℕ) → length (drop_while p text) ≤ length text
drop_while-length p text = omega (arith, length-drop (prefix_len p text) text)

-- what follows a front is no longer than the whole
pub split_length : (text x rest : List ℕ) → text ≡ x ++ rest → length text ≡ length x + length rest
split_length text x rest e = ap length e ∙ length-append x rest
