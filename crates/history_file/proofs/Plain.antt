-- Words of a line are plain: none has a blank or a line feed in it. So a line of words that spaces part has these words.
use Rattle.std.proofs.Common.{◌≡◌, ◌≢◌, ℕ, ◌^◌, ◌<◌, ◌≤◌, Bool, false, List, [], ◌∷◌, ◌++◌, length, refl, ◌∙◌}
use Rattle.std.proofs.Common.{ap, arith, All, decimal, append-nil, length-append}
use Rattle.std.specs.Char.{IsAsciiDigit}
use Rattle.std.proofs.lemmas.Bool.{ne_eqb}
use Rattle.std.proofs.lemmas.List.Elements.{All-append, All-cons, All-weaker}
use Rattle.line_protocol.proofs.WordLemmas.{words-next, words-only}
use Rattle.line_protocol.specs.Words.{is_blank, words}
use Rattle.prefix_patterns.proofs.TokenBytes.{IsFromDot, prefix_bytes, prefix_some}
use Rattle.prefix_patterns.proofs.Displayed.{prefix_text-writes}
use Rattle.prefix_patterns.specs.Spelling.{prefix_text}
use Rattle.history_file.proofs.Numbers.{decimal_digits}
use Rattle.history_lines.specs.Text.{spaced}

-- a byte behind the space in the order of ASCII
abbrev pub IsPlainByte : ℕ → Type 0
IsPlainByte byte = 32 < byte

-- at least one byte, and each of them plain
pub record IsPlain (word : List ℕ) : Type 0 where
  pub some : 0 < length word
  pub each : All IsPlainByte word

abbrev pub ArePlain : List (List ℕ) → Type 0
ArePlain [] = Unit {0}
ArePlain (w ∷ ws) = IsPlain w × ArePlain ws

pub are_plain-append : (front back : List (List ℕ)) → ArePlain front → ArePlain back → ArePlain (front ++ back)
are_plain-append [] back p q = q
are_plain-append (w ∷ front) back p q = (p.0, are_plain-append front back p.1 q)

pub plain-decimal : (n : ℕ) → n < 2 ^ 64 → IsPlain (decimal n)
plain-decimal n fits =
    let digits = decimal_digits n fits in
    record { some = digits.some; each = All-weaker IsAsciiDigit IsPlainByte (λ byte digit. omega (arith, digit.0)) (decimal n) digits.each }

pub plain-prefix : (bits : List Bool) → length bits ≤ 32 → IsPlain (prefix_text bits)
plain-prefix bits limit =
    let is = prefix_text-writes bits limit in
    record {
      some = prefix_some (prefix_text bits) bits is;
      each = All-weaker IsFromDot IsPlainByte (λ byte from. omega (arith, from)) (prefix_text bits) (prefix_bytes (prefix_text bits) bits is);
    }

pub plain-joined : (front back : List ℕ) (byte : ℕ) → IsPlain front → IsPlain back → 32 < byte → IsPlain (front ++ byte ∷ back)
plain-joined front back byte p q h = record {
  some = omega (arith, length-append front (byte ∷ back), p.some);
  each = All-append IsPlainByte front (byte ∷ back) p.each (All-cons IsPlainByte byte back h q.each);
}

-- no blank is plain
not_blank : (byte : ℕ) → 32 < byte → is_blank byte ≡ false
not_blank byte h = rw (ne_eqb byte 32 (λ e. omega (arith, e)), ne_eqb byte 9 (λ e. omega (arith, e))) refl

no_blanks : (word : List ℕ) → IsPlain word → All (λ c. is_blank c ≡ false) word
no_blanks word p = All-weaker IsPlainByte (λ c. is_blank c ≡ false) not_blank word p.each

-- the words of a line of plain words with a space between any two
pub words-spaced : (w : List ℕ) (ws : List (List ℕ)) → IsPlain w → ArePlain ws → words (w ++ spaced ws) ≡ w ∷ ws
words-spaced w [] p q = ap words (append-nil w) ∙ words-only is_blank w (no_blanks w p) p.some
words-spaced w (v ∷ vs) p q =
    words-next is_blank w (v ++ spaced vs) 32 (no_blanks w p) p.some refl ∙ ap (λ rest. w ∷ rest) (words-spaced v vs q.0 q.1)

-- all bytes of such a line are the space or plain
abbrev pub IsLineByte : ℕ → Type 0
IsLineByte byte = 32 ≤ byte

spaced_bytes : (ws : List (List ℕ)) → ArePlain ws → All IsLineByte (spaced ws)
spaced_bytes [] q = λ k d h. absurd (omega (arith, h))
spaced_bytes (v ∷ vs) q = All-cons IsLineByte 32 (v ++ spaced vs) (omega arith)
    (All-append IsLineByte v (spaced vs) (All-weaker IsPlainByte IsLineByte (λ byte h. omega (arith, h)) v q.0.each) (spaced_bytes vs q.1))

pub line_bytes : (w : List ℕ) (ws : List (List ℕ)) → IsPlain w → ArePlain ws → All IsLineByte (w ++ spaced ws)
line_bytes w ws p q = All-append IsLineByte w (spaced ws)
    (All-weaker IsPlainByte IsLineByte (λ byte h. omega (arith, h)) w p.each) (spaced_bytes ws q)

-- no line feed is in it
pub no_feed : (line : List ℕ) → All IsLineByte line → All (λ byte. byte ≢ 10) line
no_feed line h = All-weaker IsLineByte (λ byte. byte ≢ 10) (λ byte l e. omega (arith, l, e)) line h
