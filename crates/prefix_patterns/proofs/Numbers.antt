-- The number that a text writes: the test and the fact are one.
use Rattle.std.proofs.Common.{◌≡◌, ℕ, ◌&&◌, nat_le, List, [], ◌∷◌, Some, None, All, refl, arith}
use Rattle.std.specs.Bool.{Decides}
use Rattle.std.specs.Char.{IsAsciiDigit, is_ascii_digit}
use Rattle.std.specs.Str.{all_ascii_digits}
use Rattle.std.proofs.lemmas.Bool.{cond-true, cond-false, leb-true, le-leb, and_parts, and_from, false_from_ne_true}
use Rattle.std.proofs.lemmas.Bool.Decides.{Decides-by_and, Decides-and}
use Rattle.std.proofs.lemmas.Option.{cond_some}
use Rattle.prefix_patterns.specs.Number.{decimal_value, IsDigits, IsNumber}
use Rattle.prefix_patterns.specs.Reading.{is_digits, number_in}

digit_decides : (byte : ℕ) → Decides (is_ascii_digit byte) (IsAsciiDigit byte)
digit_decides byte = (
  λ yes. let parts = and_parts _ _ yes in (leb-true _ _ parts.0, leb-true _ _ parts.1),
  λ digit. and_from _
      _ (le-leb _ _ digit.0) (le-leb _ _ digit.1),
)

pub digits_decide : (text : List ℕ) → Decides (all_ascii_digits text) (All IsAsciiDigit text)
digits_decide = Decides-by_and is_ascii_digit IsAsciiDigit all_ascii_digits digit_decides refl (λ _ _. refl)

-- the test of digits
pub is_digits-Decides : (text : List ℕ) → Decides (is_digits text) (IsDigits text)
is_digits-Decides [] = (λ yes. absurd cc, λ digits. absurd (omega (arith, digits.some)))
is_digits-Decides (byte ∷ bytes) = (
  λ yes. record { some = omega arith; each = (digits_decide (byte ∷ bytes)).0 yes },
  λ digits.
      (digits_decide (byte ∷ bytes)).1 digits.each,
)

-- the test of a number
number_test : (most : ℕ) (text : List ℕ) → Decides (is_digits text && nat_le (decimal_value text) most) (IsNumber most text)
number_test most text = Decides-and (is_digits text) (nat_le (decimal_value text) most) (is_digits-Decides text) (leb-true _ _, le-leb _ _)

pub number_in-some : (most : ℕ) (text : List ℕ) → IsNumber most text → number_in most text ≡ Some (decimal_value text)
unfolding number_in
number_in-some most text number = cond-true _ _ _ ((number_test most text).1 number)

pub number_in-none : (most : ℕ) (text : List ℕ) → (IsNumber most text → ⊥) → number_in most text ≡ None
unfolding number_in
number_in-none most text none = cond-false _ _ _ (false_from_ne_true _ (λ yes. none ((number_test most text).0 yes)))

pub number_in-found : (most : ℕ) (text : List ℕ) (value : ℕ) → number_in most text ≡ Some value →
    IsNumber most text × (decimal_value text ≡ value)
unfolding number_in
number_in-found most text value e =
    let parts = cond_some (is_digits text && nat_le (decimal_value text) most) (decimal_value text) value e in
    ((number_test most text).0 parts.0, parts.1)
