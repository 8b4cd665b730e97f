-- Numbers that are read in one pass: what is read is the number at the front.
use Rattle.std.proofs.Common.{◌≡◌, ℕ, ◌+◌, ◌-◌, ◌*◌, ◌<◌, ◌≤◌, eqb, Bool, true, false, cond}
use Rattle.std.proofs.Common.{◌||◌, List, [], ◌∷◌, ◌++◌, All, length, take, drop, get_or}
use Rattle.std.proofs.Common.{Option, Some, None, refl, sym, ◌∙◌, ap, arith}
use Rattle.std.specs.Char.{IsAsciiDigit, is_ascii_digit}
use Rattle.std.specs.List.{prefix_len}
use Rattle.std.specs.Option.{option_map}
use Rattle.std.proofs.Math.Seq.{drop-append_seam, take-append_seam}
use Rattle.std.proofs.lemmas.Bool.{ne_eqb}
use Rattle.std.proofs.lemmas.List.{length-take-le, take-append-drop, take-take}
use Rattle.std.proofs.lemmas.List.Elements.{All-head, All-more, All-tail}
use Rattle.prefix_patterns.specs.Leading.{BeginsWith, BeginsWithDigit, IsUsualPrefix}
use Rattle.prefix_patterns.specs.Number.{IsDigits, decimal_value}
use Rattle.prefix_patterns.specs.Reading.{number_in}
use Rattle.prefix_patterns.proofs.DecimalValues.{decimal_value-more, decimal_value-take}
use Rattle.prefix_patterns.proofs.Numbers.{number_in-none, number_in-some}
use Rattle.filter_tokens.specs.declared.part.Part.{Part}
use Rattle.filter_tokens.specs.declared.part.Part.TheVariants as part
use Rattle.filter_tokens.specs.declared.token_kind.TokenKind.TheVariants as kind
use Rattle.filter_tokens.specs.Meaning.{greatest_number}
use Rattle.filter_tokens.specs.Reading.{begins_digit, goes_on, number_ahead, token_in}
use Rattle.filter_tokens.proofs.Forms.{digit_fact, digits_pass}
use Rattle.filter_tokens.proofs.Fronts.{split_length}
use Rattle.filter_tokens.proofs.PlainNumbers.{number-token}

-- where the first byte is no digit, no digits are at the front
pub no_first_digit : (rest : List ℕ) → begins_digit rest ≡ false → prefix_len is_ascii_digit rest ≡ 0
no_first_digit [] e = refl
no_first_digit (byte ∷ bytes) e = rw e refl

-- where it is one, the text begins with it
pub begins_with_digit : (rest : List ℕ) → begins_digit rest ≡ true → BeginsWithDigit rest
begins_with_digit [] e = absurd cc
begins_with_digit (byte ∷ bytes) e = digit_fact byte e

-- so does a text that begins with a prefix in the usual spelling: the first number of it has a digit
begins_as_digits : (digits others more rest text : List ℕ) → IsDigits digits → text ≡ ((digits ++ others) ++ more) ++ rest → begins_digit text ≡ true
begins_as_digits [] others more rest text is spelled = absurd (omega (arith, is.some))
begins_as_digits (byte ∷ bytes) others more rest text is spelled =
    ap begins_digit spelled ∙ All-head (λ byte. is_ascii_digit byte ≡ true) byte bytes (digits_pass (byte ∷ bytes) is)

pub usual_prefix_begins : (text rest : List ℕ) → BeginsWith IsUsualPrefix text rest → begins_digit text ≡ true
usual_prefix_begins text rest begins =
    let usual = begins.wanted in
    begins_as_digits usual.first _ _ rest text usual.groups.0.0.0 (begins.spelled ∙ ap (λ token. token ++ rest) usual.spelled)

-- digits at the front are counted with those that follow them
count_with : (digits rest : List ℕ) → All (λ byte. is_ascii_digit byte ≡ true) digits →
    prefix_len is_ascii_digit (digits ++ rest) ≡ length digits + prefix_len is_ascii_digit rest
count_with [] rest each = omega arith
count_with (byte ∷ bytes) rest each =
    let first = All-head (λ byte. is_ascii_digit byte ≡ true) byte bytes each in
    let others = count_with bytes rest (All-tail (λ byte. is_ascii_digit byte ≡ true) byte bytes each) in
    rw first (omega (arith, others))

-- digits at the front write a number, and this follows them
abbrev pub LeadsNumber : List ℕ → ℕ → List ℕ → Type 0
LeadsNumber text number rest = BeginsWith (λ digits. IsDigits digits × (number ≡ decimal_value digits)) text rest

-- so many bytes at the front are digits, and write the number
pub front_leads : (text : List ℕ) (n number : ℕ) → 0 < n → n ≤ length text → All IsAsciiDigit (take n text) →
    number ≡ decimal_value (take n text) → LeadsNumber text number (drop n text)
front_leads text n number some within each value = record {
  token = take n text;
  wanted = (record { some = omega (arith, length-take-le n text within, some); each = each }, value);
  spelled = sym (take-append-drop n text);
}

-- it leaves no more than there is
pub number-within : (text : List ℕ) (number : ℕ) (rest : List ℕ) → LeadsNumber text number rest → length rest ≤ length text
number-within text number rest leads = omega (arith, split_length text leads.token rest leads.spelled)

-- its digits are all that are at the front
digits_counted : (text : List ℕ) (number : ℕ) (rest : List ℕ) (leads : LeadsNumber text number rest) → begins_digit rest ≡ false →
    prefix_len is_ascii_digit text ≡ length leads.token
digits_counted text number rest leads ends =
    ap (prefix_len is_ascii_digit) leads.spelled ∙ count_with leads.token rest (digits_pass leads.token leads.wanted.0)
    ∙ omega (arith, no_first_digit rest ends)

-- the number at the front, where it has so many digits
abbrev number_of_len : List ℕ → ℕ → Option Part
number_of_len text len =
    cond (eqb len 0 || goes_on (drop len text)) None
    (option_map (λ number. part.Token (kind.Number number) len) (number_in greatest_number (take len text)))

number_counted : (text : List ℕ) (number : ℕ) (rest : List ℕ) (leads : LeadsNumber text number rest) → begins_digit rest ≡ false →
    number_ahead text ≡ number_of_len (leads.token ++ rest) (length leads.token)
number_counted text number rest leads ends =
    ap (number_of_len text) (digits_counted text number rest leads ends) ∙ ap (λ t. number_of_len t (length leads.token)) leads.spelled

-- where it may go on, no number is read
pub number-longer : (text : List ℕ) (number : ℕ) (rest : List ℕ) → LeadsNumber text number rest → begins_digit rest ≡ false →
    goes_on rest ≡ true → number_ahead text ≡ None
number-longer text number rest leads ends e =
    let some : eqb (length leads.token) 0 ≡ false = ne_eqb _ _ (λ none. omega (arith, leads.wanted.0.some, none)) in
    let on : goes_on (drop (length leads.token) (leads.token ++ rest)) ≡ true = ap goes_on (drop-append_seam leads.token rest) ∙ e in
    number_counted text number rest leads ends ∙ rw (some, on) refl

-- where it does not, it is read
pub number-read : (text : List ℕ) (number : ℕ) (rest : List ℕ) → LeadsNumber text number rest → number ≤ greatest_number → begins_digit rest ≡ false →
    goes_on rest ≡ false → number_ahead text ≡ Some (part.Token (kind.Number number) (length text - length rest))
number-read text number rest leads limit ends e =
    let digits = leads.token in
    let some : eqb (length digits) 0 ≡ false = ne_eqb _ _ (λ none. omega (arith, leads.wanted.0.some, none)) in
    let on : goes_on (drop (length digits) (digits ++ rest)) ≡ false = ap goes_on (drop-append_seam digits rest) ∙ e in
    let read : number_in greatest_number (take (length digits) (digits ++ rest)) ≡ Some number =
    ap (number_in greatest_number) (take-append_seam digits rest)
    ∙ number_in-some greatest_number digits (leads.wanted.0, omega (arith, leads.wanted.1, limit)) ∙ ap Some (sym leads.wanted.1) in
    let len : length digits ≡ length text - length rest = omega (arith, split_length text digits rest leads.spelled) in
    number_counted text number rest leads ends ∙ rw (some, on, read) (ap (λ n. Some (part.Token (kind.Number number) n)) len)

-- and is the token at the front
pub number-leads : (text : List ℕ) (number : ℕ) (rest : List ℕ) → LeadsNumber text number rest → number ≤ greatest_number → begins_digit rest ≡ false →
    goes_on rest ≡ false → token_in text ≡ Some (part.Token (kind.Number number) (length text - length rest))
number-leads text number rest leads limit ends e =
    let digits = leads.token in
    let split = split_length text digits rest leads.spelled in
    let len : length text - length rest ≡ length digits = omega (arith, split) in
    let taken : take (length text - length rest) text ≡ digits =
    ap (λ n. take n text) len ∙ ap (take (length digits)) leads.spelled ∙ take-append_seam digits rest in
    let dropped : drop (length text - length rest) text ≡ rest =
    ap (λ n. drop n text) len ∙ ap (drop (length digits)) leads.spelled ∙ drop-append_seam digits rest in
    let read : number_in greatest_number (take (length text - length rest) text) ≡ Some number =
    ap (number_in greatest_number) taken
    ∙ number_in-some greatest_number digits (leads.wanted.0, omega (arith, leads.wanted.1, limit)) ∙ ap Some (sym leads.wanted.1) in
    number-token text (length text - length rest) number (len ∙ sym (digits_counted text number rest leads ends)) (omega arith)
    (omega (arith, len, leads.wanted.0.some)) (ap goes_on dropped ∙ e) read

-- so many digits at the front are among all that are there
among_digits : (text : List ℕ) (n : ℕ) → 0 < n → n ≤ length text → All IsAsciiDigit (take n text) → n ≤ prefix_len is_ascii_digit text
among_digits text n some within each =
    let long = length-take-le n text within in
    let pass = digits_pass (take n text) (record { some = omega (arith, long, some); each = each }) in
    omega (arith, long, ap (prefix_len is_ascii_digit) (take-append-drop n text), count_with (take n text) (drop n text) pass)

-- digits that write more than the greatest number begin no number
too_many : (text : List ℕ) (n number : ℕ) → n < length text → All IsAsciiDigit (take (n + 1) text) → number ≡ decimal_value (take n text) →
    greatest_number < number * 10 + (get_or text n 0 - 48) → number_in greatest_number (take (prefix_len is_ascii_digit text) text) ≡ None
too_many text n number within each value large =
    let front = among_digits text (n + 1) (omega arith) (omega arith) each in
    let same = take-take (n + 1) (prefix_len is_ascii_digit text) text front in
    number_in-none greatest_number _ (λ number.
    absurd (omega (
      arith,
      number.1,
      ap decimal_value same,
      decimal_value-take (take (prefix_len is_ascii_digit text) text) (n + 1),
      decimal_value-more text n within,
      value,
      large,
    )))

pub number-large : (text : List ℕ) (n number : ℕ) → n < length text → All IsAsciiDigit (take n text) → IsAsciiDigit (get_or text n 0) →
    number ≡ decimal_value (take n text) → greatest_number < number * 10 + (get_or text n 0 - 48) → number_ahead text ≡ None
number-large text n number within each digit value large =
    ended text (too_many text n number within (All-more IsAsciiDigit text n 0 within each digit) value large)
    (eqb (prefix_len is_ascii_digit text) 0 || goes_on (drop (prefix_len is_ascii_digit text) text)) where
      ended : (text : List ℕ) → number_in greatest_number (take (prefix_len is_ascii_digit text) text) ≡ None → (longer : Bool) →
          cond longer None (option_map (λ number. part.Token (kind.Number number) (prefix_len is_ascii_digit text))
          (number_in greatest_number (take (prefix_len is_ascii_digit text) text))) ≡ None
      ended text none true = refl
      ended text none false = ap (option_map (λ number. part.Token (kind.Number number) (prefix_len is_ascii_digit text))) none

-- a text that begins with a digit, and that digit
pub one_digit : (text : List ℕ) → begins_digit text ≡ true →
    All IsAsciiDigit (take 1 text) × (decimal_value (take 1 text) ≡ get_or text 0 0 - 48) × (get_or text 0 0 ≤ 57)
unfolding decimal_value
one_digit [] e = absurd cc
one_digit (byte ∷ bytes) e =
    let digit = digit_fact byte e in
    (All-more IsAsciiDigit (byte ∷ bytes) 0 0 (omega arith) (λ k d within. absurd (omega arith)) digit, omega arith, digit.1)
