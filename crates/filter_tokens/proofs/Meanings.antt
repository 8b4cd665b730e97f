-- What the bytes of a shape mean: what is read is meant, and what is meant is read.
use Rattle.std.proofs.Common.{◌≡◌, ℕ, zero, suc, ◌+◌, ◌*◌, ◌^◌, ◌<◌, ◌≤◌, true, false, not, ◌&&◌, ◌||◌, ⊎_elim, nat_le}
use Rattle.std.proofs.Common.{nat_lt, List, [], ◌∷◌, length, Option, Some, None, refl, sym, ◌∙◌, ap, subst, arith}
use Rattle.std.specs.Char.{digit_value, is_ascii_hexdigit}
use Rattle.std.specs.Int.{is_in_range}
use Rattle.std.specs.Option.{option_map}
use Rattle.std.proofs.lemmas.Bool.{leb-true, le-leb, le-ltb, and_parts, and_from, not-true}
use Rattle.std.proofs.lemmas.Bool.{not_from_false, cond-true, or_cases, agree_below_at}
use Rattle.std.proofs.lemmas.List.Elements.{All-head, All-tail, All-same}
use Rattle.std.proofs.lemmas.Option.{cond_some, same_Some}
use Rattle.std.proofs.Math.Nat.{mul-le-mul_left, pow-succ'}
use Rattle.prefix_patterns.specs.Reading.{◌>>=◌, number_in, address_in, written_in}
use Rattle.prefix_patterns.proofs.Numbers.{number_in-some, number_in-found}
use Rattle.prefix_patterns.proofs.Tokens.{address_in-found, address_in-only, written_in-found, written_in-only}
use Rattle.filter_tokens.specs.declared.symbol.Symbol.{Symbol}
use Rattle.filter_tokens.specs.declared.shape.Shape.{Shape}
use Rattle.filter_tokens.specs.declared.shape.Shape.TheVariants as shape
use Rattle.filter_tokens.specs.declared.token_kind.TokenKind.{TokenKind}
use Rattle.filter_tokens.specs.declared.token_kind.TokenKind.TheVariants as kind
use Rattle.filter_tokens.specs.Symbols.{symbol_text}
use Rattle.filter_tokens.specs.Meaning.{greatest_number, longest_name, hexadecimal_value, IsName, IsHexadecimal, Means}
use Rattle.filter_tokens.specs.Reading.{keyword_in, is_left_out, name_in, keyword_or, word_in, with_digit, hexadecimal_from, prefix_kind}
use Rattle.filter_tokens.specs.Reading.{hexadecimal_in, meaning_in}
use Rattle.filter_tokens.specs.Shapes.{zero_digit, small_x, IsWord, AreHexadecimal, HasShape}
use Rattle.filter_tokens.proofs.Fronts.{bind_some, map_some}
use Rattle.filter_tokens.proofs.Punctuators.{keyword-there, keyword-found, left_out-none, left_out-all}

-- ---- words

-- a word that is written as a symbol is that keyword
keyword_written : (bytes : List ℕ) (symbol : Symbol) → IsWord bytes → bytes ≡ symbol_text symbol → keyword_in bytes ≡ Some symbol
keyword_written bytes symbol is e = ap keyword_in e ∙ keyword-there symbol (subst IsWord e is)

name_found : (bytes : List ℕ) (made : TokenKind) → IsWord bytes → keyword_in bytes ≡ None → name_in bytes ≡ Some made
    → Means shape.Word bytes made
name_found bytes made is none e =
    let some = cond_some (nat_le (length bytes) longest_name && not (is_left_out bytes)) kind.Name made e in
    let parts = and_parts (nat_le (length bytes) longest_name) (not (is_left_out bytes)) some.0 in
    subst (Means shape.Word bytes) some.1 (record {
      limit = leb-true (length bytes) longest_name parts.0;
      no_keyword = λ symbol same. let there = keyword_written bytes symbol is same in cc;
      not_left_out = left_out-all bytes (not-true _ parts.1);
    })

word_found_as : (bytes : List ℕ) (made : TokenKind) → IsWord bytes → (keyword : Option Symbol) → keyword_in bytes ≡ keyword
    → keyword_or keyword (name_in bytes) ≡ Some made → Means shape.Word bytes made
word_found_as bytes made is None none e = name_found bytes made is none e
word_found_as bytes made is (Some symbol) some e = subst (Means shape.Word bytes) (same_Some _ _ e) (keyword-found bytes symbol some)

word_found : (bytes : List ℕ) (made : TokenKind) → IsWord bytes → word_in bytes ≡ Some made → Means shape.Word bytes made
unfolding word_in
word_found bytes made is e = word_found_as bytes made is (keyword_in bytes) refl e

no_keyword_in : (bytes : List ℕ) → IsName bytes → (keyword : Option Symbol) → keyword_in bytes ≡ keyword → keyword ≡ None
no_keyword_in bytes is None e = refl
no_keyword_in bytes is (Some symbol) e = absurd (is.no_keyword symbol (keyword-found bytes symbol e))

name_there : (bytes : List ℕ) → IsName bytes → word_in bytes ≡ Some kind.Name
unfolding word_in
name_there bytes is =
    let none : keyword_in bytes ≡ None = no_keyword_in bytes is (keyword_in bytes) refl in
    let limit = le-leb (length bytes) longest_name is.limit in
    let not_left = not_from_false _ (left_out-none bytes is.not_left_out) in
    ap (λ keyword. keyword_or keyword (name_in bytes)) none ∙ cond-true _ (Some kind.Name) None (and_from _ _ limit not_left)

keyword_there : (bytes : List ℕ) (symbol : Symbol) → IsWord bytes → bytes ≡ symbol_text symbol → word_in bytes ≡ Some (kind.Symbol symbol)
unfolding word_in
keyword_there bytes symbol is e = ap (λ keyword. keyword_or keyword (name_in bytes)) (keyword_written bytes symbol is e)

-- ---- hexadecimal numbers

-- a power of sixteen is no zero
power_some : (n : ℕ) → 1 ≤ 16 ^ n
power_some zero = omega arith
power_some (suc n) = let more = power_some n in rw (pow-succ' 16 n) (omega (arith, more))

scale : (value digit power rest : ℕ) → (value * 16 + digit) * power + rest ≡ value * (16 * power) + (digit * power + rest)
scale value digit power rest = omega arith

-- one more digit after a number, and then those after it
digits_sum : (value byte : ℕ) (bytes : List ℕ)
    → (value * 16 + digit_value byte) * 16 ^ length bytes + hexadecimal_value bytes
    ≡ value * 16 ^ length (byte ∷ bytes) + hexadecimal_value (byte ∷ bytes)
unfolding hexadecimal_value
digits_sum value byte bytes =
    scale value (digit_value byte) (16 ^ length bytes) (hexadecimal_value bytes)
    ∙ ap (λ power. value * power + (digit_value byte * 16 ^ length bytes + hexadecimal_value bytes)) (sym (pow-succ' 16 (length bytes)))

digit_step : (value byte longer : ℕ) → with_digit value byte ≡ Some longer
    → (longer ≡ value * 16 + digit_value byte) × (longer ≤ greatest_number)
digit_step value byte longer e =
    let some = cond_some (nat_lt (digit_value byte) 16 && nat_le (value * 16 + digit_value byte) greatest_number) _ longer e in
    let parts = and_parts (nat_lt (digit_value byte) 16) (nat_le (value * 16 + digit_value byte) greatest_number) some.0 in
    let limit = leb-true (value * 16 + digit_value byte) greatest_number parts.1 in
    (sym some.1, omega (arith, limit, some.1))

digits_found : (value : ℕ) (bytes : List ℕ) (n : ℕ) → value ≤ greatest_number → hexadecimal_from value bytes ≡ Some n
    → (n ≡ value * 16 ^ length bytes + hexadecimal_value bytes) × (n ≤ greatest_number)
unfolding hexadecimal_from hexadecimal_value
digits_found value [] n limit e = let same = same_Some _ _ e in (omega (arith, same), omega (arith, same))
digits_found value (byte ∷ bytes) n limit e =
    bind_some _ _ _ e (λ (longer : ℕ) (here : with_digit value byte ≡ Some longer) (e : hexadecimal_from longer bytes ≡ Some n).
    let step = digit_step value byte longer here in
    let rest = digits_found longer bytes n step.1 e in
    (rest.0 ∙ ap (λ v. v * 16 ^ length bytes + hexadecimal_value bytes) step.0 ∙ digits_sum value byte bytes, rest.1))

-- a hexadecimal digit has a value below 16
digit_below : (byte : ℕ) → is_ascii_hexdigit byte ≡ true → nat_lt (digit_value byte) 16 ≡ true
digit_below byte e =
    let small : byte < 128 =
    ⊎_elim
    (λ either. ⊎_elim (λ range. omega (arith, leb-true byte 57 (and_parts (nat_le 48 byte) (nat_le byte 57) range).1))
    (λ range. omega (arith, leb-true byte 70 (and_parts (nat_le 65 byte) (nat_le byte 70) range).1))
    (or_cases (is_in_range 48 57 byte) (is_in_range 65 70 byte) either))
    (λ range. omega (arith, leb-true byte 102 (and_parts (nat_le 97 byte) (nat_le byte 102) range).1))
    (or_cases (is_in_range 48 57 byte || is_in_range 65 70 byte) (is_in_range 97 102 byte) e) in
    sym (agree_below_at is_ascii_hexdigit (λ c. nat_lt (digit_value c) 16) 128 byte refl small) ∙ e

-- a number is no larger with more digits after it
grows : (value power rest most : ℕ) → 1 ≤ power → value * power + rest ≤ most → value ≤ most
grows value power rest most some limit = omega (arith, mul-le-mul_left value some)

digits_there : (value : ℕ) (bytes : List ℕ) → AreHexadecimal bytes → value * 16 ^ length bytes + hexadecimal_value bytes ≤ greatest_number
    → hexadecimal_from value bytes ≡ Some (value * 16 ^ length bytes + hexadecimal_value bytes)
unfolding hexadecimal_from hexadecimal_value
digits_there value [] each limit = ap Some (omega arith)
digits_there value (byte ∷ bytes) each limit =
    let longer = value * 16 + digit_value byte in
    let power = 16 ^ length bytes in
    let same = digits_sum value byte bytes in
    let fits : longer * power + hexadecimal_value bytes ≤ greatest_number = omega (arith, same, limit) in
    let small = digit_below byte (All-head (λ byte. is_ascii_hexdigit byte ≡ true) byte bytes each) in
    let limit_here = le-leb longer greatest_number
    (grows longer power (hexadecimal_value bytes) greatest_number (power_some (length bytes)) fits) in
    let here : with_digit value byte ≡ Some longer = cond-true _ (Some longer) None (and_from _ _ small limit_here) in
    ap (λ o. o >>= λ longer. hexadecimal_from longer bytes) here
    ∙ digits_there longer bytes (All-tail (λ byte. is_ascii_hexdigit byte ≡ true) byte bytes each) fits
    ∙ ap Some same

hexadecimal_found_as : (digits : List ℕ) (n : ℕ) → hexadecimal_in (zero_digit ∷ small_x ∷ digits) ≡ Some n
    → IsHexadecimal (zero_digit ∷ small_x ∷ digits) n
unfolding hexadecimal_in
hexadecimal_found_as [] n e = absurd cc
hexadecimal_found_as (byte ∷ bytes) n e =
    let digits = byte ∷ bytes in
    let long : nat_lt (length (zero_digit ∷ small_x ∷ digits)) 3 ≡ false = le-ltb _ _ (omega arith) in
    let read : hexadecimal_from 0 digits ≡ Some n = sym (rw long refl) ∙ e in
    let found = digits_found 0 digits n (omega arith) read in
    record { first = byte; others = bytes; spelled = refl; value = omega (arith, found.0); limit = found.1 }

hexadecimal_found : (bytes : List ℕ) (n : ℕ) → HasShape shape.Hexadecimal bytes → hexadecimal_in bytes ≡ Some n → IsHexadecimal bytes n
hexadecimal_found bytes n is e =
    subst (λ (b : List ℕ). IsHexadecimal b n) (sym is.2) (hexadecimal_found_as is.0 n (ap hexadecimal_in (sym is.2) ∙ e))

hexadecimal_there_as : (byte : ℕ) (bytes : List ℕ) (n : ℕ) → AreHexadecimal (byte ∷ bytes) → n ≡ hexadecimal_value (byte ∷ bytes)
    → n ≤ greatest_number
    → hexadecimal_in (zero_digit ∷ small_x ∷ byte ∷ bytes) ≡ Some n
unfolding hexadecimal_in
hexadecimal_there_as byte bytes n each value limit =
    let digits = byte ∷ bytes in
    let long : nat_lt (length (zero_digit ∷ small_x ∷ digits)) 3 ≡ false = le-ltb _ _ (omega arith) in
    let whole : n ≡ 0 * 16 ^ length digits + hexadecimal_value digits = omega (arith, value) in
    rw long (digits_there 0 digits each (omega (arith, whole, limit)) ∙ ap Some (sym whole))

hexadecimal_there : (bytes : List ℕ) (n : ℕ) → HasShape shape.Hexadecimal bytes → IsHexadecimal bytes n → hexadecimal_in bytes ≡ Some n
hexadecimal_there bytes n shape is =
    let same : zero_digit ∷ small_x ∷ shape.0 ≡ zero_digit ∷ small_x ∷ is.first ∷ is.others = sym shape.2 ∙ is.spelled in
    let inner : is.first ∷ is.others ≡ shape.0 = cc in
    let each = All-same (λ byte. is_ascii_hexdigit byte ≡ true) (is.first ∷ is.others) shape.0 inner shape.1 in
    ap hexadecimal_in is.spelled ∙ hexadecimal_there_as is.first is.others n each is.value is.limit

-- ---- all shapes

-- a number that is read is meant
pub meaning-found : (kind : Shape) (bytes : List ℕ) (made : TokenKind) → HasShape kind bytes → meaning_in kind bytes ≡ Some made
    → Means kind bytes made
meaning-found shape.Word bytes made is e = word_found bytes made is e
meaning-found shape.Decimal bytes made is e =
    let some = map_some kind.Number (number_in greatest_number bytes) made e in
    let found = number_in-found greatest_number bytes some.0 some.1 in
    subst (Means shape.Decimal bytes) some.2 (sym found.1, omega (arith, found.0.1, found.1))
meaning-found shape.Hexadecimal bytes made is e =
    let some = map_some kind.Number (hexadecimal_in bytes) made e in
    subst (Means shape.Hexadecimal bytes) some.2 (hexadecimal_found bytes some.0 is some.1)
meaning-found shape.Address bytes made is e =
    let some = map_some (λ (address : ℕ). kind.Address (record { 0 = address })) (address_in bytes) made e in
    subst (Means shape.Address bytes) some.2 (address_in-found bytes some.0 some.1)
meaning-found shape.Prefix bytes made is e =
    let some = map_some prefix_kind (written_in bytes) made e in
    subst (Means shape.Prefix bytes) some.2 (written_in-found bytes some.0 some.1)
meaning-found shape.Text bytes made is e = subst (Means shape.Text bytes) (same_Some _ _ e) tt
meaning-found (shape.Punctuator punctuator) bytes made is e = subst (Means (shape.Punctuator punctuator) bytes) (same_Some _ _ e) refl

-- what bytes of a shape mean is read
pub meaning-there : (kind : Shape) (bytes : List ℕ) (made : TokenKind) → HasShape kind bytes → Means kind bytes made
    → meaning_in kind bytes ≡ Some made
meaning-there shape.Word bytes kind.Name is means = name_there bytes means
meaning-there shape.Word bytes (kind.Number n) is means = absurd means
meaning-there shape.Word bytes (kind.Address a) is means = absurd means
meaning-there shape.Word bytes (kind.Prefix has_host_bits prefix) is means = absurd means
meaning-there shape.Word bytes kind.Text is means = absurd means
meaning-there shape.Word bytes (kind.Symbol symbol) is means = keyword_there bytes symbol is means
meaning-there shape.Decimal bytes kind.Name is means = absurd means
meaning-there shape.Decimal bytes (kind.Number n) is means =
    ap (option_map kind.Number) (number_in-some greatest_number bytes (is, omega (arith, means.0, means.1)))
    ∙ ap (λ n. Some (kind.Number n)) (sym means.0)
meaning-there shape.Decimal bytes (kind.Address a) is means = absurd means
meaning-there shape.Decimal bytes (kind.Prefix has_host_bits prefix) is means = absurd means
meaning-there shape.Decimal bytes kind.Text is means = absurd means
meaning-there shape.Decimal bytes (kind.Symbol symbol) is means = absurd means
meaning-there shape.Hexadecimal bytes kind.Name is means = absurd means
meaning-there shape.Hexadecimal bytes (kind.Number n) is means = ap (option_map kind.Number) (hexadecimal_there bytes n is means)
meaning-there shape.Hexadecimal bytes (kind.Address a) is means = absurd means
meaning-there shape.Hexadecimal bytes (kind.Prefix has_host_bits prefix) is means = absurd means
meaning-there shape.Hexadecimal bytes kind.Text is means = absurd means
meaning-there shape.Hexadecimal bytes (kind.Symbol symbol) is means = absurd means
meaning-there shape.Address bytes kind.Name is means = absurd means
meaning-there shape.Address bytes (kind.Number n) is means = absurd means
meaning-there shape.Address bytes (kind.Address a) is means =
    ap (option_map (λ (address : ℕ). kind.Address (record { 0 = address }))) (address_in-only bytes a.0 means)
meaning-there shape.Address bytes (kind.Prefix has_host_bits prefix) is means = absurd means
meaning-there shape.Address bytes kind.Text is means = absurd means
meaning-there shape.Address bytes (kind.Symbol symbol) is means = absurd means
meaning-there shape.Prefix bytes kind.Name is means = absurd means
meaning-there shape.Prefix bytes (kind.Number n) is means = absurd means
meaning-there shape.Prefix bytes (kind.Address a) is means = absurd means
meaning-there shape.Prefix bytes (kind.Prefix has_host_bits prefix) is means = ap (option_map prefix_kind) (written_in-only bytes _ means)
meaning-there shape.Prefix bytes kind.Text is means = absurd means
meaning-there shape.Prefix bytes (kind.Symbol symbol) is means = absurd means
meaning-there shape.Text bytes kind.Name is means = absurd means
meaning-there shape.Text bytes (kind.Number n) is means = absurd means
meaning-there shape.Text bytes (kind.Address a) is means = absurd means
meaning-there shape.Text bytes (kind.Prefix has_host_bits prefix) is means = absurd means
meaning-there shape.Text bytes kind.Text is means = refl
meaning-there shape.Text bytes (kind.Symbol symbol) is means = absurd means
meaning-there (shape.Punctuator punctuator) bytes kind.Name is means = absurd means
meaning-there (shape.Punctuator punctuator) bytes (kind.Number n) is means = absurd means
meaning-there (shape.Punctuator punctuator) bytes (kind.Address a) is means = absurd means
meaning-there (shape.Punctuator punctuator) bytes (kind.Prefix has_host_bits prefix) is means = absurd means
meaning-there (shape.Punctuator punctuator) bytes kind.Text is means = absurd means
meaning-there (shape.Punctuator punctuator) bytes (kind.Symbol symbol) is means = ap (λ symbol. Some (kind.Symbol symbol)) means
