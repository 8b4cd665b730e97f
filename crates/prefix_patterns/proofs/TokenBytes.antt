-- The bytes of a prefix: digits, dots and a slash.
use Rattle.std.proofs.Common.{◌≤◌, ◌<◌, ℕ, Bool, List, ◌∷◌, length, All, arith, length-append}
use Rattle.std.specs.Char.{IsAsciiDigit}
use Rattle.std.proofs.lemmas.List.Elements.{All-append, All-cons, All-weaker, All-same}
use Rattle.prefix_patterns.specs.Number.{IsDigits}
use Rattle.prefix_patterns.specs.Token.{dot, slash, IsAddress, IsPrefix}

-- a byte from the dot on, in the order of ASCII: a dot, a slash, a digit, or a later one
abbrev pub IsFromDot : ℕ → Type 0
IsFromDot byte = dot ≤ byte

pub digits_bytes : (text : List ℕ) → IsDigits text → All IsFromDot text
digits_bytes text digits = All-weaker IsAsciiDigit IsFromDot (λ byte digit. omega (arith, digit.0)) text digits.each

address_bytes : (text : List ℕ) (address : ℕ) → IsAddress text address → All IsFromDot text
address_bytes text address is =
    let after_dot = λ (rest : List ℕ) (others : All IsFromDot rest). All-cons IsFromDot dot rest (omega arith) others in
    All-same IsFromDot text _ is.spelled
    (All-append IsFromDot is.first _ (digits_bytes is.first is.groups.0.0)
    (after_dot _ (All-append IsFromDot is.second _ (digits_bytes is.second is.groups.1.0)
    (after_dot _ (All-append IsFromDot is.third _ (digits_bytes is.third is.groups.2.0)
    (after_dot _ (digits_bytes is.fourth is.groups.3.0)))))))

pub prefix_bytes : (text : List ℕ) (bits : List Bool) → IsPrefix text bits → All IsFromDot text
prefix_bytes text bits is =
    All-same IsFromDot text _ is.spelled
    (All-append IsFromDot is.address_text _ (address_bytes is.address_text is.address is.is_address)
    (All-cons IsFromDot slash is.length_text (omega arith) (digits_bytes is.length_text is.is_length.0)))

pub prefix_some : (text : List ℕ) (bits : List Bool) → IsPrefix text bits → 0 < length text
prefix_some text bits is = rw is.spelled (omega (arith, length-append is.address_text (slash ∷ is.length_text)))
