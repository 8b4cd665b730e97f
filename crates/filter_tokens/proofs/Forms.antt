-- The longest shape at the front of a text: what is found is there, and what is there is found or something longer.
use Rattle.std.proofs.Common.{◌≡◌, ◌≢◌, ℕ, zero, suc, ◌+◌, ◌<◌, ◌≤◌, Bool, true, false, cond, eqb, not, List, []}
use Rattle.std.proofs.Common.{◌∷◌, ◌++◌, length, Some, None, All, refl, sym, ◌∙◌, ap, arith}
use Rattle.std.specs.Char.{IsAsciiDigit, is_ascii_digit, is_ascii_hexdigit}
use Rattle.std.specs.List.{prefix_len, join_with_byte}
use Rattle.std.proofs.lemmas.Bool.{eqb-true, eq-eqb, ne_eqb, leb-true, le-leb, and_parts, and_from, or_parts, or_from}
use Rattle.std.proofs.lemmas.Bool.{not-true}
use Rattle.std.proofs.lemmas.List.{append_assoc}
use Rattle.std.proofs.lemmas.List.Elements.{All-head, All-weaker}
use Rattle.prefix_patterns.specs.Leading.{after_byte}
use Rattle.prefix_patterns.specs.Number.{IsDigits}
use Rattle.prefix_patterns.specs.Token.{dot, slash}
use Rattle.filter_tokens.specs.Reading.{drop_while, after_digits, after_address, after_prefix, after_hexadecimal, after_quoted}
use Rattle.filter_tokens.specs.ByteClasses.{is_quotable}
use Rattle.filter_tokens.specs.Shapes.{line_feed, quote, zero_digit, small_x, HasFourGroups, HasLength, IsQuoted, AreHexadecimal}
use Rattle.filter_tokens.proofs.Fronts.{bind_some, drop_while-append, front, split_length}

-- a front of the text, with what follows it
pub record Stands (P : List ℕ → Type 0) (text rest : List ℕ) : Type 0 where
  pub bytes : List ℕ
  pub is : P bytes
  pub whole : text ≡ bytes ++ rest

-- what follows a front is no longer than the text
pub rest_within : (P : List ℕ → Type 0) (text rest : List ℕ) → Stands P text rest → length rest ≤ length text
rest_within P text rest stands = omega (arith, split_length text stands.bytes rest stands.whole)

digit_test : (byte : ℕ) → IsAsciiDigit byte → is_ascii_digit byte ≡ true
digit_test byte digit = and_from _ _ (le-leb _ _ digit.0) (le-leb _ _ digit.1)

pub digit_fact : (byte : ℕ) → is_ascii_digit byte ≡ true → IsAsciiDigit byte
digit_fact byte passes = let parts = and_parts _ _ passes in (leb-true _ _ parts.0, leb-true _ _ parts.1)

pub digits_pass : (x : List ℕ) → IsDigits x → All (λ byte. is_ascii_digit byte ≡ true) x
digits_pass x digits = All-weaker IsAsciiDigit (λ byte. is_ascii_digit byte ≡ true) digit_test x digits.each

-- ---- one byte

pub after_byte-there : (wanted : ℕ) (rest : List ℕ) → after_byte wanted (wanted ∷ rest) ≡ Some rest
after_byte-there wanted rest = rw (eq-eqb wanted wanted refl) refl

byte_found : (wanted byte : ℕ) (bytes rest : List ℕ) (b : Bool) → eqb byte wanted ≡ b → cond b (Some bytes) None ≡ Some rest
    → byte ∷ bytes ≡ wanted ∷ rest
byte_found wanted byte bytes rest true e f = let same = eqb-true byte wanted e in cc
byte_found wanted byte bytes rest false e f = absurd cc

pub after_byte-found : (wanted : ℕ) (text rest : List ℕ) → after_byte wanted text ≡ Some rest → text ≡ wanted ∷ rest
after_byte-found wanted [] rest e = absurd cc
after_byte-found wanted (byte ∷ bytes) rest e = byte_found wanted byte bytes rest (eqb byte wanted) refl e

pub after_byte-shorter : (wanted : ℕ) (text rest : List ℕ) → after_byte wanted text ≡ Some rest → length rest ≤ length text
after_byte-shorter wanted text rest e = omega (arith, ap length (after_byte-found wanted text rest e))

-- ---- digits

digits_there : (byte : ℕ) (bytes rest : List ℕ) → is_ascii_digit byte ≡ true
    → after_digits (byte ∷ bytes) ≡ Some (drop_while is_ascii_digit (byte ∷ bytes))
unfolding after_digits
digits_there byte bytes rest e =
    let more : eqb (prefix_len is_ascii_digit (byte ∷ bytes)) 0 ≡ false =
    rw e (ne_eqb _ _ (λ (same : 1 + prefix_len is_ascii_digit bytes ≡ 0). omega arith)) in
    rw more refl

-- digits are found, and all that follow
pub after_digits-there : (x rest : List ℕ) → IsDigits x → after_digits (x ++ rest) ≡ Some (drop_while is_ascii_digit rest)
after_digits-there [] rest digits = absurd (omega (arith, digits.some))
after_digits-there (byte ∷ bytes) rest digits =
    let each = digits_pass (byte ∷ bytes) digits in
    digits_there byte (bytes ++ rest) rest (All-head (λ byte. is_ascii_digit byte ≡ true) byte bytes each)
    ∙ ap Some (drop_while-append is_ascii_digit (byte ∷ bytes) rest each)

digits_some : (text rest : List ℕ) (n : ℕ) (none : Bool) → n ≡ prefix_len is_ascii_digit text → eqb n 0 ≡ none
    → cond none None (Some (drop_while is_ascii_digit text)) ≡ Some rest → (0 < n) × (drop_while is_ascii_digit text ≡ rest)
digits_some text rest n true same e f = absurd cc
digits_some text rest zero false same e f = absurd cc
digits_some text rest (suc n) false same e f = (omega arith, cc)

pub after_digits-found : (text rest : List ℕ) → after_digits text ≡ Some rest → Stands IsDigits text rest
unfolding after_digits
after_digits-found text rest e =
    let f = front is_ascii_digit text in
    let some = digits_some text rest (prefix_len is_ascii_digit text) _ refl refl e in
    record {
      bytes = f.bytes;
      is = record {
        some = omega (arith, some.0, f.count);
        each = All-weaker (λ byte. is_ascii_digit byte ≡ true) IsAsciiDigit digit_fact f.bytes f.each;
      };
      whole = f.whole ∙ ap (λ tail. f.bytes ++ tail) some.1;
    }

pub after_digits-shorter : (text rest : List ℕ) → after_digits text ≡ Some rest → length rest ≤ length text
after_digits-shorter text rest e = rest_within IsDigits text rest (after_digits-found text rest e)

-- ---- addresses

-- four groups with the rest after them
joined : (a b c d rest : List ℕ) → join_with_byte dot (a ∷ b ∷ c ∷ d ∷ []) ++ rest ≡ a ++ dot ∷ (b ++ dot ∷ (c ++ dot ∷ (d ++ rest)))
joined a b c d rest = simp append_assoc

after_groups : (a b c d rest : List ℕ) → IsDigits a → IsDigits b → IsDigits c → IsDigits d
    → after_address (a ++ dot ∷ (b ++ dot ∷ (c ++ dot ∷ (d ++ rest)))) ≡ Some (drop_while is_ascii_digit rest)
unfolding after_address
after_groups a b c d rest one two three four =
    rw (
      after_digits-there a (dot ∷ (b ++ dot ∷ (c ++ dot ∷ (d ++ rest)))) one,
      after_digits-there b (dot ∷ (c ++ dot ∷ (d ++ rest))) two,
      after_digits-there c (dot ∷ (d ++ rest)) three,
    )
    (after_digits-there d rest four)

pub after_address-there : (x rest : List ℕ) → HasFourGroups x → after_address (x ++ rest) ≡ Some (drop_while is_ascii_digit rest)
after_address-there x rest is =
    ap (λ bytes. after_address (bytes ++ rest)) is.spelled
    ∙ ap after_address (joined is.first is.second is.third is.fourth rest)
    ∙ after_groups is.first is.second is.third is.fourth rest is.groups.0 is.groups.1 is.groups.2 is.groups.3

address_whole : (text one two three four five six rest a b c d : List ℕ)
    → text ≡ a ++ one → one ≡ dot ∷ two → two ≡ b ++ three → three ≡ dot ∷ four → four ≡ c ++ five → five ≡ dot ∷ six → six ≡ d ++ rest
    → text ≡ join_with_byte dot (a ∷ b ∷ c ∷ d ∷ []) ++ rest
address_whole text one two three four five six rest a b c d e f g h i j k =
    e ∙ ap (λ t. a ++ t) (f
    ∙ ap (λ t. dot ∷ t) (g ∙ ap (λ t. b ++ t) (h ∙ ap (λ t. dot ∷ t) (i ∙ ap (λ t. c ++ t) (j ∙ ap (λ t. dot ∷ t) k)))))
    ∙ sym (joined a b c d rest)

pub after_address-found : (text rest : List ℕ) → after_address text ≡ Some rest → Stands HasFourGroups text rest
unfolding after_address
after_address-found text rest e =
    bind_some _ _ _ e (λ one at_one e.
    bind_some _ _ _ e (λ two at_two e.
    bind_some _ _ _ e (λ three at_three e.
    bind_some _ _ _ e (λ four at_four e.
    bind_some _ _ _ e (λ five at_five e.
    bind_some _ _ _ e (λ six at_six e.
    let a = after_digits-found text one at_one in
    let b = after_digits-found two three at_three in
    let c = after_digits-found four five at_five in
    let d = after_digits-found six rest e in
    record {
      bytes = join_with_byte dot (a.bytes ∷ b.bytes ∷ c.bytes ∷ d.bytes ∷ []);
      is = record {
        first = a.bytes;
        second = b.bytes;
        third = c.bytes;
        fourth = d.bytes;
        groups = (a.is, b.is, c.is, d.is);
        spelled = refl;
      };
      whole =
          address_whole text one two three four five six rest a.bytes b.bytes c.bytes d.bytes a.whole (after_byte-found dot one two at_two)
          b.whole (after_byte-found dot three four at_four) c.whole (after_byte-found dot five six at_six) d.whole;
    }))))))

-- an address ends no earlier than its first digits
pub after_address-within : (text rest digits : List ℕ) → after_digits text ≡ Some digits → after_address text ≡ Some rest
    → length rest ≤ length digits
unfolding after_address
after_address-within text rest digits there e =
    bind_some _ _ _ e (λ (one : List ℕ) (at_one : after_digits text ≡ Some one) e.
    bind_some _ _ _ e (λ (two : List ℕ) (at_two : after_byte dot one ≡ Some two) e.
    bind_some _ _ _ e (λ (three : List ℕ) (at_three : after_digits two ≡ Some three) e.
    bind_some _ _ _ e (λ (four : List ℕ) (at_four : after_byte dot three ≡ Some four) e.
    bind_some _ _ _ e (λ (five : List ℕ) (at_five : after_digits four ≡ Some five) e.
    bind_some _ _ _ e (λ (six : List ℕ) (at_six : after_byte dot five ≡ Some six) (e : after_digits six ≡ Some rest).
    let same : digits ≡ one = cc in
    omega (
      arith,
      ap length same,
      after_byte-shorter dot one two at_two,
      after_digits-shorter two three at_three,
      after_byte-shorter dot three four at_four,
      after_digits-shorter four five at_five,
      after_byte-shorter dot five six at_six,
      after_digits-shorter six rest e,
    )))))))

-- ---- prefixes

after_parts : (address digits rest : List ℕ) → HasFourGroups address → IsDigits digits
    → after_prefix (address ++ slash ∷ (digits ++ rest)) ≡ Some (drop_while is_ascii_digit rest)
unfolding after_prefix
after_parts address digits rest is is_length =
    rw (after_address-there address (slash ∷ (digits ++ rest)) is) (after_digits-there digits rest is_length)

pub after_prefix-there : (x rest : List ℕ) → HasLength x → after_prefix (x ++ rest) ≡ Some (drop_while is_ascii_digit rest)
after_prefix-there x rest is =
    ap (λ bytes. after_prefix (bytes ++ rest)) is.spelled
    ∙ ap after_prefix (append_assoc is.address (slash ∷ is.length_digits) rest)
    ∙ after_parts is.address is.length_digits rest is.is_address is.is_length

pub after_prefix-found : (text rest : List ℕ) → after_prefix text ≡ Some rest → Stands HasLength text rest
unfolding after_prefix
after_prefix-found text rest e =
    bind_some _ _ _ e (λ one at_one e.
    bind_some _ _ _ e (λ two at_two e.
    let a = after_address-found text one at_one in
    let d = after_digits-found two rest e in
    record {
      bytes = a.bytes ++ slash ∷ d.bytes;
      is = record { address = a.bytes; length_digits = d.bytes; is_address = a.is; is_length = d.is; spelled = refl };
      whole =
          a.whole ∙ ap (λ t. a.bytes ++ t) (after_byte-found slash one two at_two ∙ ap (λ t. slash ∷ t) d.whole)
          ∙ sym (append_assoc a.bytes (slash ∷ d.bytes) rest);
    }))

-- a prefix ends no earlier than its address
pub after_prefix-within : (text rest : List ℕ) → after_prefix text ≡ Some rest
    → (address : List ℕ) × (after_address text ≡ Some address) × (length rest ≤ length address)
unfolding after_prefix
after_prefix-within text rest e =
    bind_some _ _ _ e (λ (one : List ℕ) (at_one : after_address text ≡ Some one) e.
    bind_some _ _ _ e (λ (two : List ℕ) (at_two : after_byte slash one ≡ Some two) (e : after_digits two ≡ Some rest).
    (one, at_one, omega (arith, after_byte-shorter slash one two at_two, after_digits-shorter two rest e))))

-- ---- hexadecimal

pub after_hexadecimal-there : (digits rest : List ℕ) → AreHexadecimal digits
    → after_hexadecimal (zero_digit ∷ small_x ∷ (digits ++ rest)) ≡ Some (drop_while is_ascii_hexdigit rest)
unfolding after_hexadecimal
after_hexadecimal-there digits rest each = ap Some (drop_while-append is_ascii_hexdigit digits rest each)

pub after_hexadecimal-found : (text rest : List ℕ) → after_hexadecimal text ≡ Some rest
    → Stands (λ bytes. (digits : List ℕ) × AreHexadecimal digits × (bytes ≡ zero_digit ∷ small_x ∷ digits)) text rest
unfolding after_hexadecimal
after_hexadecimal-found text rest e =
    bind_some _ _ _ e (λ (one : List ℕ) (at_one : after_byte zero_digit text ≡ Some one) e.
    bind_some _ _ _ e (λ (two : List ℕ) (at_two : after_byte small_x one ≡ Some two) (e : Some (drop_while is_ascii_hexdigit two) ≡ Some rest).
    let f = front is_ascii_hexdigit two in
    let last : drop_while is_ascii_hexdigit two ≡ rest = cc in
    record {
      bytes = zero_digit ∷ small_x ∷ f.bytes;
      is = (f.bytes, f.each, refl);
      whole =
          after_byte-found zero_digit text one at_one
          ∙ ap (λ t. zero_digit ∷ t) (after_byte-found small_x one two at_two
          ∙ ap (λ t. small_x ∷ t) (f.whole ∙ ap (λ t. f.bytes ++ t) last));
    }))

-- ---- texts in double quotes

plain_test : (byte : ℕ) → (byte ≢ quote) × (byte ≢ line_feed) → is_quotable byte ≡ true
plain_test byte plain = ap not (or_from _ _ (ne_eqb byte quote plain.0) (ne_eqb byte line_feed plain.1))

plain_fact : (byte : ℕ) → is_quotable byte ≡ true → (byte ≢ quote) × (byte ≢ line_feed)
plain_fact byte passes =
    let parts = or_parts (eqb byte quote) (eqb byte line_feed) (not-true _ passes) in
    (λ same. let other = eq-eqb byte quote same in absurd cc, λ same. let other = eq-eqb byte line_feed same in absurd cc)

plain_pass : (inner rest : List ℕ) → All (λ byte. (byte ≢ quote) × (byte ≢ line_feed)) inner
    → drop_while is_quotable (inner ++ quote ∷ rest) ≡ quote ∷ rest
plain_pass inner rest plain =
    drop_while-append is_quotable inner (quote ∷ rest)
    (All-weaker (λ byte. (byte ≢ quote) × (byte ≢ line_feed)) (λ byte. is_quotable byte ≡ true) plain_test inner plain)

after_inner : (inner rest : List ℕ) → All (λ byte. (byte ≢ quote) × (byte ≢ line_feed)) inner
    → after_quoted (quote ∷ (inner ++ quote ∷ rest)) ≡ Some rest
unfolding after_quoted
after_inner inner rest plain = rw (plain_pass inner rest plain) refl

pub after_quoted-there : (x rest : List ℕ) → IsQuoted x → after_quoted (x ++ rest) ≡ Some rest
after_quoted-there x rest is =
    ap (λ bytes. after_quoted (bytes ++ rest)) is.spelled
    ∙ ap (λ bytes. after_quoted (quote ∷ bytes)) (append_assoc is.inner (quote ∷ []) rest)
    ∙ after_inner is.inner rest is.plain

pub after_quoted-found : (text rest : List ℕ) → after_quoted text ≡ Some rest → Stands IsQuoted text rest
unfolding after_quoted
after_quoted-found text rest e =
    bind_some _ _ _ e (λ one at_one e.
    let f = front is_quotable one in
    record {
      bytes = quote ∷ (f.bytes ++ quote ∷ []);
      is = record {
        inner = f.bytes;
        plain = All-weaker (λ byte. is_quotable byte ≡ true) (λ byte. (byte ≢ quote) × (byte ≢ line_feed)) plain_fact f.bytes f.each;
        spelled = refl;
      };
      whole =
          after_byte-found quote text one at_one
          ∙ ap (λ t. quote ∷ t) (f.whole ∙ ap (λ t. f.bytes ++ t) (after_byte-found quote (drop_while is_quotable one) rest e)
          ∙ sym (append_assoc f.bytes (quote ∷ []) rest));
    })
