-- Tokens at the front of a text, read piece by piece.
use Rattle.std.proofs.Common.{◌≡◌, ℕ, ◌+◌, ◌-◌, ◌*◌, ◌<◌, ◌≤◌, Bool, List, [], ◌∷◌, ◌++◌, length, take, drop, get_or, All, refl, sym, ap, ◌∙◌, arith}
use Rattle.std.proofs.Common.{append_assoc, length-drop, length-take}
use Rattle.std.specs.Char.{IsAsciiDigit}
use Rattle.std.specs.Int.{w32, from_be_bytes}
use Rattle.std.specs.List.{join_with_byte}
use Rattle.std.proofs.lemmas.List.{take-append-drop, take_all}
use Rattle.std.proofs.lemmas.List.Elements.{All-more, All-nil}
use Rattle.prefix_patterns.specs.Leading.{BeginsWith}
use Rattle.prefix_patterns.specs.Number.{IsDigits, IsNumber, decimal_value}
use Rattle.prefix_patterns.specs.Token.{dot, slash, IsPrefix}
use Rattle.prefix_patterns.specs.Written.{IsWrittenPrefix, written_as}
use Rattle.prefix_patterns.specs.declared.written.WrittenPrefix.{WrittenPrefix}
use Rattle.prefix_patterns.proofs.Tokens.{written-prefix}
use Rattle.prefix_patterns.proofs.DecimalValues.{decimal_value-more}

-- the byte at a place is a digit of this value
abbrev pub HasDigit : List ℕ → ℕ → ℕ → Type 0
HasDigit text at value = (at < length text) × IsAsciiDigit (get_or text at 0) × (value ≡ get_or text at 0 - 48)

-- the first so many bytes are digits that write a value
pub record IsRead (text : List ℕ) (count value : ℕ) : Type 0 where
  pub within : count ≤ length text
  pub digits : All IsAsciiDigit (take count text)
  pub written : value ≡ decimal_value (take count text)

none : (text : List ℕ) → IsRead text 0 0
unfolding decimal_value
none text = record { within = omega arith; digits = All-nil IsAsciiDigit; written = refl }

more : (text : List ℕ) (count value digit wider : ℕ) → IsRead text count value → HasDigit text count digit
    → wider ≡ value * 10 + digit → IsRead text (count + 1) wider
more text count value digit wider r h e = record {
  within = omega (arith, h.0);
  digits = All-more IsAsciiDigit text count 0 h.0 r.digits h.1;
  written = omega (arith, e, r.written, h.2, decimal_value-more text count h.0);
}

pub one : (text : List ℕ) (a : ℕ) → HasDigit text 0 a → IsRead text 1 a
one text a h = more text 0 0 a a (none text) h (omega arith)

pub two : (text : List ℕ) (a b : ℕ) → HasDigit text 0 a → HasDigit text 1 b → IsRead text 2 (a * 10 + b)
two text a b h i = more text 1 a b (a * 10 + b) (one text a h) i refl

pub three : (text : List ℕ) (a b c : ℕ) → HasDigit text 0 a → HasDigit text 1 b → HasDigit text 2 c → IsRead text 3 (a * 100 + b * 10 + c)
three text a b c h i j = more text 2 (a * 10 + b) c (a * 100 + b * 10 + c) (two text a b h i) j (omega arith)

-- a text begins with digits that write a value
abbrev pub BeginsWithNumber : List ℕ → ℕ → List ℕ → Type 0
BeginsWithNumber text value rest = BeginsWith (λ digits. IsDigits digits × (value ≡ decimal_value digits)) text rest

begins : (text : List ℕ) (count value : ℕ) → IsRead text count value → 0 < count
    → BeginsWithNumber text value (take (length text - count) (drop count text))
begins text count value r h =
    let within = r.within in
    let front : length (take count text) ≡ count = rw length-take (omega arith) in
    let whole : take (length text - count) (drop count text) ≡ drop count text =
    take_all _ (drop count text) (omega (arith, length-drop count text)) in
    record {
      token = take count text;
      wanted = (record { some = omega (arith, front, h); each = r.digits }, r.written);
      spelled = sym (take-append-drop count text) ∙ ap (λ rest. take count text ++ rest) (sym whole);
    }

pub one_digit : (text : List ℕ) (a : ℕ) → HasDigit text 0 a → BeginsWithNumber text a (take (length text - 1) (drop 1 text))
one_digit text a h = begins text 1 a (one text a h) (omega arith)

pub two_digits : (text : List ℕ) (a b : ℕ) → HasDigit text 0 a → HasDigit text 1 b
    → BeginsWithNumber text (a * 10 + b) (take (length text - 2) (drop 2 text))
two_digits text a b h i = begins text 2 (a * 10 + b) (two text a b h i) (omega arith)

pub three_digits : (text : List ℕ) (a b c : ℕ) → HasDigit text 0 a → HasDigit text 1 b → HasDigit text 2 c
    → BeginsWithNumber text (a * 100 + b * 10 + c) (take (length text - 3) (drop 3 text))
three_digits text a b c h i j = begins text 3 (a * 100 + b * 10 + c) (three text a b c h i j) (omega arith)

-- a text begins with a group of an address
abbrev pub BeginsWithGroup : List ℕ → ℕ → List ℕ → Type 0
BeginsWithGroup text value rest = BeginsWith (λ digits. IsNumber 255 digits × (value ≡ decimal_value digits)) text rest

-- pieces one after another are the token, and then the rest
joined : (a b c d l rest : List ℕ) →
    a ++ dot ∷ (b ++ dot ∷ (c ++ dot ∷ (d ++ slash ∷ (l ++ rest)))) ≡
    (join_with_byte dot (a ∷ b ∷ c ∷ d ∷ []) ++ slash ∷ l) ++ rest
joined a b c d l rest = simp append_assoc refl

-- four groups and a length, with the signs between them, are a prefix that is written so
pub prefix_pieces : (text b c d l rest : List ℕ) (first second third fourth len : ℕ) (written : WrittenPrefix)
    → BeginsWithGroup text first (dot ∷ b) → BeginsWithGroup b second (dot ∷ c) → BeginsWithGroup c third (dot ∷ d)
    → BeginsWithGroup d fourth (slash ∷ l) → BeginsWithNumber l len rest → len ≤ 32
    → written ≡ written_as (from_be_bytes w32 (first ∷ second ∷ third ∷ fourth ∷ [])) len
    → BeginsWith (λ token. IsWrittenPrefix token written) text rest
prefix_pieces text b c d l rest first second third fourth len written A B C D L limit value =
    let address_text = join_with_byte dot (A.token ∷ B.token ∷ C.token ∷ D.token ∷ []) in
    let address = from_be_bytes w32 (first ∷ second ∷ third ∷ fourth ∷ []) in
    record {
      token = address_text ++ slash ∷ L.token;
      wanted = record {
        address = address;
        address_text = address_text;
        length_text = L.token;
        is_address = record {
          first = A.token;
          second = B.token;
          third = C.token;
          fourth = D.token;
          groups = (A.wanted.0, B.wanted.0, C.wanted.0, D.wanted.0);
          spelled = refl;
          value = rw (sym A.wanted.1, sym B.wanted.1, sym C.wanted.1, sym D.wanted.1) refl;
        };
        is_length = (L.wanted.0, omega (arith, L.wanted.1, limit));
        spelled = refl;
        value = value ∙ ap (written_as address) L.wanted.1;
      };
      spelled =
          A.spelled ∙ ap (λ t. A.token ++ dot ∷ t) (B.spelled ∙ ap (λ t. B.token ++ dot ∷ t) (C.spelled
          ∙ ap (λ t. C.token ++ dot ∷ t) (D.spelled ∙ ap (λ t. D.token ++ slash ∷ t) L.spelled)))
          ∙ joined A.token B.token C.token D.token L.token rest;
    }

-- a prefix that is written at the front of a text is a prefix there
pub leads_prefix : (text : List ℕ) (written : WrittenPrefix) (rest : List ℕ) → BeginsWith (λ token. IsWrittenPrefix token written) text rest
    → BeginsWith (λ token. IsPrefix token written.prefix) text rest
leads_prefix text written rest begins = record {
  token = begins.token;
  wanted = written-prefix begins.token written begins.wanted;
  spelled = begins.spelled;
}
