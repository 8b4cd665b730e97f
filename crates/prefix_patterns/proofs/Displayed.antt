-- What is displayed writes the address or the prefix that it was displayed of.
use Rattle.std.proofs.Common.{◌≡◌, ℕ, ◌+◌, ◌-◌, ◌^◌, ◌/◌, ◌%◌, ◌<◌, ◌≤◌, Bool, true, List, length, refl, sym, ◌∙◌, ap, arith, lit<}
use Rattle.std.specs.Fmt.{decimal}
use Rattle.std.specs.Str.{all_ascii_digits}
use Rattle.std.proofs.lemmas.Fmt.{digits_decimal, digits_value-decimal, decimal_nonempty}
use Rattle.std.proofs.lemmas.Nat.{from_be_bytes-to_be_bytes_4, shl_below}
use Rattle.std.proofs.lemmas.Str.Parse.{IsNumeralModel, numerals_by_weight, tells_all_ascii_digits, WeighsDigits}
use Rattle.prefix_patterns.proofs.Numbers.{digits_decide}
use Rattle.prefix_patterns.specs.Bits.{address_of, prefix_bits, number}
use Rattle.prefix_patterns.specs.BitLists.{prefix_bits-address_of, number_lt}
use Rattle.prefix_patterns.specs.Number.{decimal_value, IsNumber}
use Rattle.prefix_patterns.specs.Spelling.{address_text, prefix_text}
use Rattle.prefix_patterns.specs.Token.{IsAddress, IsPrefix}

weighs : WeighsDigits decimal_value
unfolding decimal_value
weighs = record { empty = refl; more = λ c cs digit. refl }

own : IsNumeralModel (λ digits. all_ascii_digits digits ≡ true) decimal_value
own = numerals_by_weight _ tells_all_ascii_digits decimal_value weighs

-- a number of at most 255 in decimal
displayed_number : (most n : ℕ) → most < 256 → n ≤ most → IsNumber most (decimal n)
displayed_number most n small limit =
    let fits : n < 2 ^ 64 = omega arith in (
      record { some = decimal_nonempty n fits; each = (digits_decide (decimal n)).0 (digits_decimal own n fits) },
      omega (arith, digits_value-decimal own n fits),
    )

displayed_value : (n : ℕ) → n < 256 → decimal_value (decimal n) ≡ n
displayed_value n small = digits_value-decimal own n (omega arith)

pub address_text-writes : (address : ℕ) → address < 2 ^ 32 → IsAddress (address_text address) address
address_text-writes address fits =
    let byte = λ (n : ℕ). displayed_number 255 (n % 256) (lit< tt) (omega arith) in
    let of_byte = λ (n : ℕ). displayed_value (n % 256) (omega arith) in
    record {
      first = decimal (address / 16777216 % 256);
      second = decimal (address / 65536 % 256);
      third = decimal (address / 256 % 256);
      fourth = decimal (address % 256);
      groups = (byte (address / 16777216), byte (address / 65536), byte (address / 256), byte address);
      spelled = refl;
      value =
          rw (of_byte (address / 16777216), of_byte (address / 65536), of_byte (address / 256), of_byte address)
          (sym (from_be_bytes-to_be_bytes_4 address fits));
    }

address_of_lt : (prefix : List Bool) → length prefix ≤ 32 → address_of prefix < 2 ^ 32
address_of_lt prefix limit =
    let all : length prefix + (32 - length prefix) ≡ 32 = omega arith in
    rw all at (shl_below (number prefix) (length prefix) (32 - length prefix) (number_lt prefix))

pub prefix_text-writes : (prefix : List Bool) → length prefix ≤ 32 → IsPrefix (prefix_text prefix) prefix
prefix_text-writes prefix limit =
    let len = length prefix in
    let small : length prefix < 256 = omega arith in
    record {
      address = address_of prefix;
      address_text = address_text (address_of prefix);
      length_text = decimal (length prefix);
      is_address = address_text-writes (address_of prefix) (address_of_lt prefix limit);
      is_length = displayed_number 32 (length prefix) (lit< tt) limit;
      spelled = refl;
      cleared = sym (ap (prefix_bits (address_of prefix)) (displayed_value (length prefix) small) ∙ prefix_bits-address_of prefix limit);
    }
