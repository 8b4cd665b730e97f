-- A number is read as it was written, and nothing else is read so.
use Rattle.std.proofs.Common.{◌≡◌, ◌≢◌, ℕ, ◌^◌, ◌<◌, ◌≤◌, true, List, [], ◌∷◌, ◌++◌, length, Some, None, All, refl, sym, ◌∙◌, ap, arith}
use Rattle.std.proofs.Common.{decimal}
use Rattle.std.specs.Char.{IsAsciiDigit}
use Rattle.std.specs.Str.{all_ascii_digits, bytes_eq}
use Rattle.std.proofs.lemmas.Bool.{cond-true}
use Rattle.std.proofs.lemmas.Fmt.{digits_decimal, digits_value-decimal, decimal_nonempty, length-decimal-le}
use Rattle.std.proofs.lemmas.List.Elements.{All-head, All-weaker}
use Rattle.std.proofs.lemmas.Option.{cond_some}
use Rattle.std.proofs.lemmas.Slice.Eq.{bytes_eq-Decides}
use Rattle.std.proofs.lemmas.Str.Parse.{IsNumeralModel, numerals_by_weight, tells_all_ascii_digits, WeighsDigits}
use Rattle.prefix_patterns.proofs.Numbers.{digits_decide, number_in-found, number_in-some}
use Rattle.prefix_patterns.proofs.Tokens.{parts_at-found, parts_at-joined}
use Rattle.prefix_patterns.specs.Number.{decimal_value, IsDigits}
use Rattle.prefix_patterns.specs.Reading.{number_in, parts_at}
use Rattle.message_streams.proofs.Pairs.{bind_some, same_pair}
use Rattle.link_handshake.specs.Lines.{spaced}
use Rattle.link_handshake.specs.Reading.{exact_number, first_number}

weighs : WeighsDigits decimal_value
unfolding decimal_value
weighs = record { empty = refl; more = λ c cs digit. refl }

own : IsNumeralModel (λ digits. all_ascii_digits digits ≡ true) decimal_value
own = numerals_by_weight _ tells_all_ascii_digits decimal_value weighs

-- digits, at least one
pub decimal_digits : (n : ℕ) → n < 2 ^ 64 → IsDigits (decimal n)
decimal_digits n fits = record { some = decimal_nonempty n fits; each = (digits_decide (decimal n)).0 (digits_decimal own n fits) }

-- a number within the limit is read from its text
pub exact_number-decimal : (most n : ℕ) → n ≤ most → n < 2 ^ 64 → exact_number most (decimal n) ≡ Some n
unfolding exact_number
exact_number-decimal most n within fits =
    let value : decimal_value (decimal n) ≡ n = digits_value-decimal own n fits in
    let read : number_in most (decimal n) ≡ Some n =
    number_in-some most (decimal n) (decimal_digits n fits, omega (arith, value, within)) ∙ ap (λ v. Some v) value in
    let same : bytes_eq (decimal n) (decimal n) ≡ true = (bytes_eq-Decides (decimal n) (decimal n)).1 refl in
    rw read (cond-true (bytes_eq (decimal n) (decimal n)) (Some n) None same)

-- and what is read is such a number's text
pub exact_number-found : (most : ℕ) (word : List ℕ) (n : ℕ) → exact_number most word ≡ Some n → (n ≤ most) × (word ≡ decimal n)
unfolding exact_number
exact_number-found most word n e =
    bind_some (number_in most word) _ n e (λ m read at.
    let found = cond_some (bytes_eq (decimal m) word) m n at in
    let number = number_in-found most word m read in
    (omega (arith, number.0.1, number.1, found.1), sym ((bytes_eq-Decides (decimal m) word).0 found.0) ∙ ap decimal found.1))

-- no byte of a number's text is a space or a line feed
pub decimal_apart : (byte n : ℕ) → byte < 48 → n < 2 ^ 64 → All (λ b. b ≢ byte) (decimal n)
decimal_apart byte n below fits =
    All-weaker IsAsciiDigit (λ b. b ≢ byte) (λ b digit same. omega (arith, digit.0, same, below)) (decimal n) (decimal_digits n fits).each

-- a number with a space behind it
pub first_number-spaced : (most n : ℕ) (rest : List ℕ) → n ≤ most → n < 2 ^ 64 → first_number most (spaced n rest) ≡ Some (n, rest)
unfolding first_number
first_number-spaced most n rest within fits =
    rw (parts_at-joined 32 (decimal n) rest (decimal_apart 32 n (omega arith) fits), exact_number-decimal most n within fits) refl

pub first_number-found : (most : ℕ) (text : List ℕ) (n : ℕ) (rest : List ℕ) → first_number most text ≡ Some (n, rest) →
    (n ≤ most) × (text ≡ spaced n rest)
unfolding first_number
first_number-found most text n rest e =
    bind_some (parts_at 32 text) _ (n, rest) e (λ parts at_parts e.
    bind_some (exact_number most parts.0) _ (n, rest) e (λ m at_number e.
    let number = exact_number-found most parts.0 m at_number in
    let same = same_pair m n parts.1 rest (Some (m, parts.1)) refl e in (
      omega (arith, number.0, same.0),
      parts_at-found 32 text parts.0 parts.1 at_parts ∙ ap (λ l. l ++ 32 ∷ parts.1) number.1 ∙ ap (λ k. decimal k ++ 32 ∷ parts.1) same.0
          ∙ ap (λ l. decimal n ++ 32 ∷ l) same.1,
    )))

-- how long a number's text is
pub decimal_short : (count n : ℕ) → 0 < count → n < 10 ^ count → n < 2 ^ 64 → length (decimal n) ≤ count
decimal_short count n some below fits = length-decimal-le count n some below fits

-- a text that begins with a number begins with a digit
abbrev head_of : List ℕ → ℕ
head_of [] = 0
head_of (byte ∷ bytes) = byte

digit_of : (byte : ℕ) (bytes digits rest : List ℕ) → IsDigits digits → byte ∷ bytes ≡ digits ++ rest → IsAsciiDigit byte
digit_of byte bytes [] rest is e = absurd (omega (arith, is.some))
digit_of byte bytes (digit ∷ digits) rest is e =
    let same : byte ≡ digit = ap head_of e in
    let d : IsAsciiDigit digit = All-head IsAsciiDigit digit digits is.each in
    (omega (arith, same, d.0), omega (arith, same, d.1))

pub begins_with_digit : (byte : ℕ) (bytes : List ℕ) (n : ℕ) (rest : List ℕ) → n < 2 ^ 64 → byte ∷ bytes ≡ decimal n ++ rest → IsAsciiDigit byte
begins_with_digit byte bytes n rest fits e = digit_of byte bytes (decimal n) rest (decimal_digits n fits) e
