-- A number in decimal digits is read as itself.
use Rattle.std.proofs.Common.{◌≡◌, ℕ, ◌^◌, ◌<◌, ◌≤◌, true, Some, refl, ◌∙◌, ap, arith, decimal}
use Rattle.std.specs.Str.{all_ascii_digits}
use Rattle.std.proofs.lemmas.Fmt.{digits_decimal, digits_value-decimal, decimal_nonempty}
use Rattle.std.proofs.lemmas.Str.Parse.{IsNumeralModel, numerals_by_weight, tells_all_ascii_digits, WeighsDigits}
use Rattle.prefix_patterns.proofs.Numbers.{digits_decide, number_in-some}
use Rattle.prefix_patterns.specs.Number.{decimal_value, IsDigits}
use Rattle.prefix_patterns.specs.Reading.{number_in}

weighs : WeighsDigits decimal_value
unfolding decimal_value
weighs = record { empty = refl; more = λ c cs digit. refl }

own : IsNumeralModel (λ digits. all_ascii_digits digits ≡ true) decimal_value
own = numerals_by_weight _ tells_all_ascii_digits decimal_value weighs

-- digits, at least one
pub decimal_digits : (n : ℕ) → n < 2 ^ 64 → IsDigits (decimal n)
decimal_digits n fits = record { some = decimal_nonempty n fits; each = (digits_decide (decimal n)).0 (digits_decimal own n fits) }

-- within the limit it is read as the number
pub number_in-decimal : (most n : ℕ) → n ≤ most → n < 2 ^ 64 → number_in most (decimal n) ≡ Some n
number_in-decimal most n within fits =
    let value : decimal_value (decimal n) ≡ n = digits_value-decimal own n fits in
    number_in-some most (decimal n) (decimal_digits n fits, omega (arith, value)) ∙ ap (λ v. Some v) value
