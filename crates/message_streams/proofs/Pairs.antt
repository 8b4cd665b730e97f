-- Two numbers with a space between them are read as they were written, and nothing else is read so.
use Rattle.std.proofs.Common.{◌≡◌, ◌≢◌, ℕ, ◌^◌, ◌<◌, ◌≤◌, true, List, ◌∷◌, ◌++◌, length, Option, Some, None, All, refl, sym, ◌∙◌, ap, arith}
use Rattle.std.proofs.Common.{decimal, length-append}
use Rattle.std.specs.Char.{IsAsciiDigit}
use Rattle.std.specs.Str.{all_ascii_digits, bytes_eq}
use Rattle.std.proofs.lemmas.Bool.{cond-true}
use Rattle.std.proofs.lemmas.Fmt.{digits_decimal, digits_value-decimal, decimal_nonempty, length-decimal-le}
use Rattle.std.proofs.lemmas.List.Elements.{All-append, All-cons, All-weaker}
use Rattle.std.proofs.lemmas.Option.{cond_some}
use Rattle.std.proofs.lemmas.Slice.Eq.{bytes_eq-Decides}
use Rattle.std.proofs.lemmas.Str.Parse.{IsNumeralModel, numerals_by_weight, tells_all_ascii_digits, WeighsDigits}
use Rattle.prefix_patterns.proofs.Numbers.{digits_decide, number_in-found, number_in-some}
use Rattle.prefix_patterns.proofs.Tokens.{parts_at-found, parts_at-joined}
use Rattle.prefix_patterns.specs.Number.{decimal_value, IsDigits}
use Rattle.prefix_patterns.specs.Reading.{◌>>=◌, number_in, parts_at}
use Rattle.message_streams.specs.Lines.{pair_text}
use Rattle.message_streams.specs.Reading.{exact_number, pair_in}

-- a reading that goes on found a value, and went on with it
pub bind_some : {A B P : Type 0} (r : Option A) (next : A → Option B) (y : B) → (r >>= next) ≡ Some y →
    ((x : A) → r ≡ Some x → next x ≡ Some y → P) → P
bind_some None next y e then = absurd cc
bind_some (Some x) next y e then = then x refl e

-- the parts of a pair that was found
abbrev first_of : {A B : Type 0} → A → Option (A × B) → A
first_of other None = other
first_of other (Some p) = p.0

abbrev second_of : {A B : Type 0} → B → Option (A × B) → B
second_of other None = other
second_of other (Some p) = p.1

-- one pair is found
pub same_pair : {A B : Type 0} (a b : A) (x y : B) (found : Option (A × B)) → found ≡ Some (a, x) → found ≡ Some (b, y) →
    (a ≡ b) × (x ≡ y)
same_pair a b x y found p q = (sym (ap (first_of a) p) ∙ ap (first_of a) q, sym (ap (second_of x) p) ∙ ap (second_of x) q)

weighs : WeighsDigits decimal_value
unfolding decimal_value
weighs = record { empty = refl; more = λ c cs digit. refl }

own : IsNumeralModel (λ digits. all_ascii_digits digits ≡ true) decimal_value
own = numerals_by_weight _ tells_all_ascii_digits decimal_value weighs

-- digits, at least one
decimal_digits : (n : ℕ) → n < 2 ^ 64 → IsDigits (decimal n)
decimal_digits n fits = record { some = decimal_nonempty n fits; each = (digits_decide (decimal n)).0 (digits_decimal own n fits) }

wide : (n : ℕ) → n < 2 ^ 16 → n < 2 ^ 64
wide n small = omega (arith, small)

-- a number of 16 bits is read from its text
pub exact_number-decimal : (n : ℕ) → n < 2 ^ 16 → exact_number (decimal n) ≡ Some n
unfolding exact_number
exact_number-decimal n small =
    let fits = wide n small in
    let value : decimal_value (decimal n) ≡ n = digits_value-decimal own n fits in
    let read : number_in 65535 (decimal n) ≡ Some n =
    number_in-some 65535 (decimal n) (decimal_digits n fits, omega (arith, value, small)) ∙ ap (λ v. Some v) value in
    let same : bytes_eq (decimal n) (decimal n) ≡ true = (bytes_eq-Decides (decimal n) (decimal n)).1 refl in
    rw read (cond-true (bytes_eq (decimal n) (decimal n)) (Some n) None same)

-- and what is read is such a number's text
pub exact_number-found : (word : List ℕ) (n : ℕ) → exact_number word ≡ Some n → (n < 2 ^ 16) × (word ≡ decimal n)
unfolding exact_number
exact_number-found word n e =
    bind_some (number_in 65535 word) _ n e (λ m read at.
    let found = cond_some (bytes_eq (decimal m) word) m n at in
    let number = number_in-found 65535 word m read in
    (omega (arith, number.0.1, number.1, found.1), sym ((bytes_eq-Decides (decimal m) word).0 found.0) ∙ ap decimal found.1))

-- no byte of a number's text is a space or a line feed
pub decimal_apart : (byte n : ℕ) → byte < 48 → n < 2 ^ 16 → All (λ b. b ≢ byte) (decimal n)
decimal_apart byte n below small =
    All-weaker IsAsciiDigit (λ b. b ≢ byte) (λ b digit same. omega (arith, digit.0, same, below)) (decimal n)
    (decimal_digits n (wide n small)).each

-- two numbers are read from their text
pub pair_in-text : (a b : ℕ) → a < 2 ^ 16 → b < 2 ^ 16 → pair_in (pair_text a b) ≡ Some (a, b)
unfolding pair_in
pair_in-text a b p q =
    rw (parts_at-joined 32 (decimal a) (decimal b) (decimal_apart 32 a (omega arith) p), exact_number-decimal a p, exact_number-decimal b q) refl

pub record IsPair (text : List ℕ) (a b : ℕ) : Type 0 where
  pub first : a < 2 ^ 16
  pub second : b < 2 ^ 16
  pub is : text ≡ pair_text a b

-- and what is read is such a text
pub pair_in-found : (text : List ℕ) (a b : ℕ) → pair_in text ≡ Some (a, b) → IsPair text a b
unfolding pair_in
pair_in-found text a b e =
    bind_some (parts_at 32 text) _ (a, b) e (λ parts at_parts e.
    bind_some (exact_number parts.0) _ (a, b) e (λ first at_first e.
    bind_some (exact_number parts.1) _ (a, b) e (λ second at_second e.
    let one = exact_number-found parts.0 first at_first in
    let two = exact_number-found parts.1 second at_second in
    let same = same_pair first a second b (Some (first, second)) refl e in
    record {
      first = omega (arith, one.0, same.0);
      second = omega (arith, two.0, same.1);
      is = parts_at-found 32 text parts.0 parts.1 at_parts ∙ ap (λ l. l ++ 32 ∷ parts.1) one.1 ∙ ap (λ l. decimal first ++ 32 ∷ l) two.1
          ∙ ap (λ n. decimal n ++ 32 ∷ decimal second) same.0 ∙ ap (λ n. decimal a ++ 32 ∷ decimal n) same.1;
    })))

-- no line feed is in such a text
pub pair_text-open : (a b : ℕ) → a < 2 ^ 16 → b < 2 ^ 16 → All (λ byte. byte ≢ 10) (pair_text a b)
pair_text-open a b p q =
    All-append (λ byte. byte ≢ 10) (decimal a) (32 ∷ decimal b) (decimal_apart 10 a (omega arith) p)
    (All-cons (λ byte. byte ≢ 10) 32 (decimal b) (λ same. omega (arith, same)) (decimal_apart 10 b (omega arith) q))

-- such a text has at most 11 bytes
pub pair_text-short : (a b : ℕ) → a < 2 ^ 16 → b < 2 ^ 16 → length (pair_text a b) ≤ 11
pair_text-short a b p q =
    omega (
      arith,
      length-append (decimal a) (32 ∷ decimal b),
      length-decimal-le 5 a (omega arith) (omega (arith, p)) (wide a p),
      length-decimal-le 5 b (omega arith) (omega (arith, q)) (wide b q),
    )
