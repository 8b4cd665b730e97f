-- The longest shape at the front of a text.
use Rattle.std.proofs.Common.{◌≡◌, ℕ, ◌+◌, ◌≤◌, ◌==◌, if◌then◌else◌, Bool, true, false, List, [], ◌∷◌, ◌++◌, length}
use Rattle.std.proofs.Common.{drop, Option, Some, None, refl, sym, ◌∙◌, ap, subst, arith, append-nil, length-append}
use Rattle.std.proofs.Common.{length-drop}
use Rattle.std.specs.Char.{IsAsciiDigit, is_ascii_digit, is_ascii_hexdigit}
use Rattle.std.specs.List.{prefix_len}
use Rattle.std.specs.Option.{option_map}
use Rattle.std.proofs.lemmas.Bool.{ne_eqb, lt-leb, and_left, or_from}
use Rattle.std.proofs.lemmas.List.{drop_all}
use Rattle.std.proofs.lemmas.List.Elements.{All-head, All-tail, All-weaker, All-same}
use Rattle.std.proofs.lemmas.Option.{same_Some}
use Rattle.prefix_patterns.specs.Number.{IsDigits}
use Rattle.filter_tokens.specs.declared.symbol.Symbol.{Symbol}
use Rattle.filter_tokens.specs.declared.symbol.Symbol.TheVariants as symbol
use Rattle.filter_tokens.specs.declared.shape.Shape.{Shape}
use Rattle.filter_tokens.specs.declared.shape.Shape.TheVariants as shape
use Rattle.filter_tokens.specs.Symbols.{symbol_text, is_punctuator}
use Rattle.filter_tokens.specs.Reading.{drop_while, after_digits, after_address, after_prefix, after_hexadecimal}
use Rattle.filter_tokens.specs.Reading.{after_quoted, quoted_shape, or_shape, digits_shape, punctuator_in, punctuator_shape, longest_shape}
use Rattle.filter_tokens.specs.Shapes.{quote, zero_digit, small_x, begins_word, continues_word, IsWord, HasFourGroups, HasLength}
use Rattle.filter_tokens.specs.Shapes.{IsQuoted, AreHexadecimal, HasShape}
use Rattle.filter_tokens.proofs.Forms.{Stands, digit_fact, digits_pass, after_digits-there}
use Rattle.filter_tokens.proofs.Forms.{after_digits-found, after_address-there, after_address-found, after_address-within}
use Rattle.filter_tokens.proofs.Forms.{after_prefix-there, after_prefix-found, after_prefix-within, after_hexadecimal-there}
use Rattle.filter_tokens.proofs.Forms.{after_hexadecimal-found, after_quoted-there, after_quoted-found}
use Rattle.filter_tokens.proofs.Fronts.{bind_some, map_some, drop_while-append, drop_while-all, front, drop_while-length, split_length}
use Rattle.filter_tokens.proofs.Punctuators.{punctuator-itself, punctuator-covers, punctuator-found}

-- a shape and what follows it
abbrev pub Found : Type 0
Found = Shape × List ℕ

abbrev pub a_shape : Shape → List ℕ → Found
a_shape shape rest = (shape, rest)

-- ---- by the first byte

digit_no_word : (byte : ℕ) → IsAsciiDigit byte → begins_word byte ≡ false
digit_no_word byte digit =
    or_from _ _ (or_from _ _ (and_left _ _ (lt-leb 65 byte (omega (arith, digit.1))))
    (and_left _ _ (lt-leb 97 byte (omega (arith, digit.1)))))
    (ne_eqb byte 95 (λ same. omega (arith, digit.1)))

by_word : (first : ℕ) (others : List ℕ) → begins_word first ≡ true
    → longest_shape (first ∷ others) ≡ Some (a_shape shape.Word (drop_while continues_word others))
unfolding longest_shape
by_word first others e = rw e refl

by_digit : (first : ℕ) (others : List ℕ) → is_ascii_digit first ≡ true
    → longest_shape (first ∷ others) ≡ Some (digits_shape (first ∷ others))
unfolding longest_shape
by_digit first others e = rw (digit_no_word first (digit_fact first e), e) refl

by_digits : (bytes rest : List ℕ) → IsDigits bytes → longest_shape (bytes ++ rest) ≡ Some (digits_shape (bytes ++ rest))
by_digits [] rest digits = absurd (omega (arith, digits.some))
by_digits (byte ∷ bytes) rest digits =
    by_digit byte (bytes ++ rest) (All-head (λ byte. is_ascii_digit byte ≡ true) byte bytes (digits_pass (byte ∷ bytes) digits))

-- a text that begins with digits
pub begun_by_digits : (text rest : List ℕ) → after_digits text ≡ Some rest → longest_shape text ≡ Some (digits_shape text)
begun_by_digits text rest e =
    let stands = after_digits-found text rest e in
    let P : List ℕ → Type 0 = λ t. longest_shape t ≡ Some (digits_shape t) in
    subst P (sym stands.whole) (by_digits stands.bytes rest stands.is)

pub address_begins : (text rest : List ℕ) → after_address text ≡ Some rest → longest_shape text ≡ Some (digits_shape text)
unfolding after_address
address_begins text rest e = bind_some _ _ _ e (λ (one : List ℕ) (at_one : after_digits text ≡ Some one) e. begun_by_digits text one at_one)

by_quote : (others : List ℕ) → longest_shape (quote ∷ others) ≡ quoted_shape (quote ∷ others)
unfolding longest_shape
by_quote others = refl

-- a text that begins with a punctuator
by_punctuator_byte : (punctuator : Symbol) (rest : List ℕ) → is_punctuator punctuator ≡ true
    → longest_shape (symbol_text punctuator ++ rest) ≡ punctuator_shape (symbol_text punctuator ++ rest)
unfolding longest_shape
by_punctuator_byte symbol.And rest is = refl
by_punctuator_byte symbol.Or rest is = refl
by_punctuator_byte symbol.NotEqual rest is = refl
by_punctuator_byte symbol.NotMatch rest is = refl
by_punctuator_byte symbol.LessEqual rest is = refl
by_punctuator_byte symbol.GreaterEqual rest is = refl
by_punctuator_byte symbol.DotDot rest is = refl
by_punctuator_byte symbol.LeftParen rest is = refl
by_punctuator_byte symbol.RightParen rest is = refl
by_punctuator_byte symbol.LeftBrace rest is = refl
by_punctuator_byte symbol.RightBrace rest is = refl
by_punctuator_byte symbol.LeftBracket rest is = refl
by_punctuator_byte symbol.RightBracket rest is = refl
by_punctuator_byte symbol.Semicolon rest is = refl
by_punctuator_byte symbol.Colon rest is = refl
by_punctuator_byte symbol.Comma rest is = refl
by_punctuator_byte symbol.Dot rest is = refl
by_punctuator_byte symbol.Equal rest is = refl
by_punctuator_byte symbol.Less rest is = refl
by_punctuator_byte symbol.Greater rest is = refl
by_punctuator_byte symbol.Match rest is = refl
by_punctuator_byte symbol.Not rest is = refl
by_punctuator_byte symbol.Plus rest is = refl
by_punctuator_byte symbol.Minus rest is = refl
by_punctuator_byte symbol.Times rest is = refl
by_punctuator_byte symbol.Divide rest is = refl
by_punctuator_byte symbol.Filter rest is = absurd cc
by_punctuator_byte symbol.Int rest is = absurd cc
by_punctuator_byte symbol.Bool rest is = absurd cc
by_punctuator_byte symbol.Ip rest is = absurd cc
by_punctuator_byte symbol.Prefix rest is = absurd cc
by_punctuator_byte symbol.If rest is = absurd cc
by_punctuator_byte symbol.Then rest is = absurd cc
by_punctuator_byte symbol.Else rest is = absurd cc
by_punctuator_byte symbol.Case rest is = absurd cc
by_punctuator_byte symbol.Accept rest is = absurd cc
by_punctuator_byte symbol.Reject rest is = absurd cc
by_punctuator_byte symbol.True rest is = absurd cc
by_punctuator_byte symbol.False rest is = absurd cc
by_punctuator_byte symbol.Defined rest is = absurd cc
by_punctuator_byte symbol.Net rest is = absurd cc
by_punctuator_byte symbol.RipMetric rest is = absurd cc

no_hexadecimal_as : (x : List ℕ) → IsDigits x → (o : Option (List ℕ)) → after_hexadecimal x ≡ o → o ≡ None
no_hexadecimal_as x is None e = refl
no_hexadecimal_as x is (Some rest) e =
    let stands = after_hexadecimal-found x rest e in
    let spelled : x ≡ zero_digit ∷ small_x ∷ (stands.is.0 ++ rest) = stands.whole ∙ ap (λ t. t ++ rest) stands.is.2 in
    let each = All-same IsAsciiDigit (zero_digit ∷ small_x ∷ (stands.is.0 ++ rest)) x (sym spelled) is.each in
    let second = All-head IsAsciiDigit small_x (stands.is.0 ++ rest)
    (All-tail IsAsciiDigit zero_digit (small_x ∷ (stands.is.0 ++ rest)) each) in
    absurd (omega (arith, second.1))

-- ---- what each form of number is, where there is one

pub prefix_is : (text rest : List ℕ) → after_prefix text ≡ Some rest → digits_shape text ≡ a_shape shape.Prefix rest
unfolding digits_shape
prefix_is text rest e = rw e refl

address_is : (text rest : List ℕ) → after_prefix text ≡ None → after_address text ≡ Some rest
    → digits_shape text ≡ a_shape shape.Address rest
unfolding digits_shape
address_is text rest e f = rw (e, f) refl

hexadecimal_is : (text rest : List ℕ) → after_prefix text ≡ None → after_address text ≡ None → after_hexadecimal text ≡ Some rest
    → digits_shape text ≡ a_shape shape.Hexadecimal rest
unfolding digits_shape
hexadecimal_is text rest e f g = rw (e, f, g) refl

pub decimal_is : (text : List ℕ) → after_prefix text ≡ None → after_address text ≡ None → after_hexadecimal text ≡ None
    → digits_shape text ≡ a_shape shape.Decimal (drop_while is_ascii_digit text)
unfolding digits_shape
decimal_is text e f g = rw (e, f, g) refl

pub no_address_no_prefix : (text : List ℕ) → after_address text ≡ None → after_prefix text ≡ None
unfolding after_prefix
no_address_no_prefix text e = rw e refl

-- nothing after an address: no prefix
address_ends : (text : List ℕ) → after_address text ≡ Some [] → after_prefix text ≡ None
unfolding after_prefix
address_ends text e = rw e refl

-- nothing after digits: no address
digits_end : (text : List ℕ) → after_digits text ≡ Some [] → after_address text ≡ None
unfolding after_address
digits_end text e = rw e refl

-- no address begins with `0x`
no_hexadecimal_address : (rest : List ℕ) → after_address (zero_digit ∷ small_x ∷ rest) ≡ None
unfolding after_address after_digits
no_hexadecimal_address rest = refl

-- where `0x` begins, the bytes are these
hexadecimal_bytes : (byte second : ℕ) (others rest : List ℕ) → after_hexadecimal (byte ∷ second ∷ others) ≡ Some rest → second ≡ small_x
hexadecimal_bytes byte second others rest e =
    let stands = after_hexadecimal-found (byte ∷ second ∷ others) rest e in
    let whole : byte ∷ second ∷ others ≡ zero_digit ∷ small_x ∷ (stands.is.0 ++ rest) = stands.whole ∙ ap (λ t. t ++ rest) stands.is.2 in
    cc

-- ---- what is found is at the front

abbrev Is : List ℕ → Found → Type 0
Is text found = Stands (HasShape found.0) text found.1

or_shape-cases : (P : Found → Type 0) (kind : Shape) (o : Option (List ℕ)) (other : Found)
    → ((rest : List ℕ) → o ≡ Some rest → P (a_shape kind rest)) → (o ≡ None → P other)
    → P (or_shape kind o other)
or_shape-cases P kind None other here later = later refl
or_shape-cases P kind (Some rest) other here later = here rest refl

decimal_stands : (first : ℕ) (others : List ℕ) → is_ascii_digit first ≡ true
    → Is (first ∷ others) (a_shape shape.Decimal (drop_while is_ascii_digit (first ∷ others)))
decimal_stands first others e =
    let text = first ∷ others in
    let f = front is_ascii_digit text in
    let some : prefix_len is_ascii_digit text ≡ 1 + prefix_len is_ascii_digit others = rw e refl in
    record {
      bytes = f.bytes;
      is = record {
        some = omega (arith, f.count, some);
        each = All-weaker (λ byte. is_ascii_digit byte ≡ true) IsAsciiDigit digit_fact f.bytes f.each;
      };
      whole = f.whole;
    }

digits_stand : (first : ℕ) (others : List ℕ) → is_ascii_digit first ≡ true → Is (first ∷ others) (digits_shape (first ∷ others))
unfolding digits_shape
digits_stand first others e =
    let text = first ∷ others in
    or_shape-cases (Is text) shape.Prefix (after_prefix text) _ (λ rest found. after_prefix-found text rest found) (λ _.
    or_shape-cases (Is text) shape.Address (after_address text) _ (λ rest found. after_address-found text rest found) (λ _.
    or_shape-cases (Is text) shape.Hexadecimal (after_hexadecimal text) _ (λ rest found. after_hexadecimal-found text rest found) (λ _.
    decimal_stands first others e)))

word_stands : (first : ℕ) (others : List ℕ) → begins_word first ≡ true
    → Is (first ∷ others) (a_shape shape.Word (drop_while continues_word others))
word_stands first others e =
    let f = front continues_word others in
    record { bytes = first ∷ f.bytes; is = (e, f.each); whole = ap (λ t. first ∷ t) f.whole }

quoted_stands : (text : List ℕ) (found : Found) → quoted_shape text ≡ Some found → Is text found
quoted_stands text found e =
    let some = map_some (λ rest. a_shape shape.Text rest) (after_quoted text) found e in
    subst (Is text) some.2 (after_quoted-found text some.0 some.1)

punctuator_stands : (text : List ℕ) (found : Found) → punctuator_shape text ≡ Some found → Is text found
unfolding punctuator_shape
punctuator_stands text found e =
    let some = map_some (λ punctuator. a_shape (shape.Punctuator punctuator) (drop (length (symbol_text punctuator)) text)) (punctuator_in text) found e in
    let is = punctuator-found text some.0 some.1 in
    subst (Is text) some.2 (record { bytes = symbol_text some.0; is = (is.0, refl); whole = is.1 })

module _ (first : ℕ) (others : List ℕ) (found : Found) where
  by_punctuator : (q : Bool) → (first == quote) ≡ q → (if q then quoted_shape (first ∷ others) else punctuator_shape (first ∷ others)) ≡ Some found
      → Is (first ∷ others) found
  by_punctuator true same e = quoted_stands (first ∷ others) found e
  by_punctuator false same e = punctuator_stands (first ∷ others) found e

  by_number : (d : Bool) → is_ascii_digit first ≡ d
      → (if d then Some (digits_shape (first ∷ others))
      else (if first == quote then quoted_shape (first ∷ others) else punctuator_shape (first ∷ others))) ≡ Some found → Is (first ∷ others) found
  by_number true digit e = subst (Is (first ∷ others)) (same_Some _ _ e) (digits_stand first others digit)
  by_number false digit e = by_punctuator (first == quote) refl e

  by_name : (w : Bool) → begins_word first ≡ w
      → (if w then Some (a_shape shape.Word (drop_while continues_word others))
      else (if is_ascii_digit first then Some (digits_shape (first ∷ others))
      else (if first == quote then quoted_shape (first ∷ others) else punctuator_shape (first ∷ others)))) ≡ Some found
      → Is (first ∷ others) found
  by_name true word e = subst (Is (first ∷ others)) (same_Some _ _ e) (word_stands first others word)
  by_name false word e = by_number (is_ascii_digit first) refl e

-- what is found has its shape and is at the front
pub longest-found : (text : List ℕ) (found : Found) → longest_shape text ≡ Some found → Stands (HasShape found.0) text found.1
unfolding longest_shape
longest-found [] found e = absurd cc
longest-found (first ∷ others) found e = by_name first others found (begins_word first) refl e

-- ---- nothing longer is there

-- something is found, and no more follows it than this many bytes
pub record Within (text : List ℕ) (bound : ℕ) : Type 0 where
  pub found : Found
  pub is : longest_shape text ≡ Some found
  pub bounded : length found.1 ≤ bound

or_shape-within : (bound : ℕ) (kind : Shape) (o : Option (List ℕ)) (other : Found)
    → ((rest : List ℕ) → o ≡ Some rest → length rest ≤ bound) → length other.1 ≤ bound
    → length (or_shape kind o other).1 ≤ bound
or_shape-within bound kind None other here later = later
or_shape-within bound kind (Some rest) other here later = here rest refl

word_within : (x rest : List ℕ) → IsWord x → Within (x ++ rest) (length rest)
word_within [] rest is = absurd is
word_within (first ∷ others) rest is = record {
  found = a_shape shape.Word (drop_while continues_word (others ++ rest));
  is = by_word first (others ++ rest) is.0;
  bounded = omega (arith, ap length (drop_while-append continues_word others rest is.1), drop_while-length continues_word rest);
}

-- a prefix in a text with an address ends no earlier than it
prefix_bounded : (text address : List ℕ) → after_address text ≡ Some address → (rest : List ℕ) → after_prefix text ≡ Some rest
    → length rest ≤ length address
prefix_bounded text address there rest e =
    let within = after_prefix-within text rest e in
    let same : within.0 ≡ address = same_Some _ _ (sym within.1 ∙ there) in
    omega (arith, within.2, ap length same)

prefix_within : (x rest : List ℕ) → HasLength x → Within (x ++ rest) (length rest)
prefix_within x rest is =
    let text = x ++ rest in
    let there = after_prefix-there x rest is in
    let address = after_prefix-within text (drop_while is_ascii_digit rest) there in
    record {
      found = digits_shape text;
      is = address_begins text address.0 address.1;
      bounded = omega (
        arith,
        ap (λ (f : Found). length f.1) (prefix_is text (drop_while is_ascii_digit rest) there),
        drop_while-length is_ascii_digit rest,
      );
    }

address_within : (x rest : List ℕ) → HasFourGroups x → Within (x ++ rest) (length rest)
unfolding digits_shape
address_within x rest is =
    let text = x ++ rest in
    let last = drop_while is_ascii_digit rest in
    let there = after_address-there x rest is in
    let short = drop_while-length is_ascii_digit rest in
    record {
      found = digits_shape text;
      is = address_begins text last there;
      bounded =
          or_shape-within (length rest) shape.Prefix (after_prefix text) _ (λ r e. omega (arith, short, prefix_bounded text last there r e))
          (rw there short);
    }

-- after digits, whatever number begins with them, no more is left than after them
digits_within : (x rest : List ℕ) → IsDigits x → ((r : List ℕ) → after_hexadecimal (x ++ rest) ≡ Some r → length r ≤ length rest)
    → Within (x ++ rest) (length rest)
unfolding digits_shape
digits_within x rest is hexadecimal =
    let text = x ++ rest in
    let last = drop_while is_ascii_digit rest in
    let there = after_digits-there x rest is in
    let short = drop_while-length is_ascii_digit rest in
    let address = λ (r : List ℕ) (e : after_address text ≡ Some r). let w = after_address-within text r last there e in
    let bound : length r ≤ length rest = omega arith in bound in
    record {
      found = digits_shape text;
      is = begun_by_digits text last there;
      bounded =
          or_shape-within (length rest) shape.Prefix (after_prefix text) _
          (λ r e. let within = after_prefix-within text r e in omega (arith, within.2, address within.0 within.1))
          (or_shape-within (length rest) shape.Address (after_address text) _ address
          (or_shape-within (length rest) shape.Hexadecimal (after_hexadecimal text) _ hexadecimal
          (omega (arith, short, ap length (drop_while-append is_ascii_digit x rest (digits_pass x is))))));
    }

decimal_within : (x rest : List ℕ) → IsDigits x → Within (x ++ rest) (length rest)
decimal_within [] rest is = absurd (omega (arith, is.some))
decimal_within (byte ∷ []) rest is =
    digits_within (byte ∷ []) rest is
    (λ r e.
    let stands = after_hexadecimal-found (byte ∷ rest) r e in
    omega (arith, split_length (byte ∷ rest) stands.bytes r stands.whole, ap length stands.is.2))
decimal_within (byte ∷ second ∷ others) rest is =
    digits_within (byte ∷ second ∷ others) rest is
    (λ r e.
    let digit = All-head IsAsciiDigit second others (All-tail IsAsciiDigit byte (second ∷ others) is.each) in
    let same = hexadecimal_bytes byte second (others ++ rest) r e in
    absurd (omega (arith, digit.1, same)))

hexadecimal_within : (digits rest : List ℕ) → AreHexadecimal digits → Within (zero_digit ∷ small_x ∷ (digits ++ rest)) (length rest)
hexadecimal_within digits rest is =
    let text = zero_digit ∷ small_x ∷ (digits ++ rest) in
    let none = no_hexadecimal_address (digits ++ rest) in
    let same = hexadecimal_is text (drop_while is_ascii_hexdigit rest) (no_address_no_prefix text none) none
    (after_hexadecimal-there digits rest is) in
    record {
      found = digits_shape text;
      is = by_digit zero_digit (small_x ∷ (digits ++ rest)) refl;
      bounded = omega (arith, ap (λ (f : Found). length f.1) same, drop_while-length is_ascii_hexdigit rest);
    }

quoted_begins : (x rest : List ℕ) → IsQuoted x → longest_shape (x ++ rest) ≡ quoted_shape (x ++ rest)
quoted_begins x rest is =
    let P : List ℕ → Type 0 = λ t. longest_shape (t ++ rest) ≡ quoted_shape (t ++ rest) in
    subst P (sym is.spelled) (by_quote ((is.inner ++ quote ∷ []) ++ rest))

quoted_within : (x rest : List ℕ) → IsQuoted x → Within (x ++ rest) (length rest)
quoted_within x rest is = record {
  found = a_shape shape.Text rest;
  is = quoted_begins x rest is ∙ ap (option_map (λ rest. a_shape shape.Text rest)) (after_quoted-there x rest is);
  bounded = omega arith;
}

punctuator_within : (punctuator : Symbol) (rest : List ℕ) → is_punctuator punctuator ≡ true → Within (symbol_text punctuator ++ rest) (length rest)
unfolding punctuator_shape
punctuator_within punctuator rest is =
    let text = symbol_text punctuator ++ rest in
    let covers = punctuator-covers punctuator rest is in
    record {
      found = a_shape (shape.Punctuator covers.longest) (drop (length (symbol_text covers.longest)) text);
      is = by_punctuator_byte punctuator rest is
          ∙ ap (option_map (λ punctuator. a_shape (shape.Punctuator punctuator) (drop (length (symbol_text punctuator)) text))) covers.found;
      bounded = omega (arith, length-drop (length (symbol_text covers.longest)) text, length-append (symbol_text punctuator) rest, covers.covers);
    }

-- where there is a shape, it is found or something longer
pub longest-within : (kind : Shape) (x rest : List ℕ) → HasShape kind x → Within (x ++ rest) (length rest)
longest-within shape.Word x rest is = word_within x rest is
longest-within shape.Decimal x rest is = decimal_within x rest is
longest-within shape.Hexadecimal x rest is =
    let P : List ℕ → Type 0 = λ t. Within (t ++ rest) (length rest) in subst P (sym is.2) (hexadecimal_within is.0 rest is.1)
longest-within shape.Address x rest is = address_within x rest is
longest-within shape.Prefix x rest is = prefix_within x rest is
longest-within shape.Text x rest is = quoted_within x rest is
longest-within (shape.Punctuator punctuator) x rest is =
    let P : List ℕ → Type 0 = λ t. Within (t ++ rest) (length rest) in subst P (sym is.1) (punctuator_within punctuator rest is.0)

-- ---- a text that is one shape is found as that

-- a text with nothing after it
whole : {A : Type 0} (f : List ℕ → A) (x : List ℕ) → f (x ++ []) ≡ f x
whole f x = ap f (append-nil x)

word_itself : (x : List ℕ) → IsWord x → longest_shape x ≡ Some (a_shape shape.Word [])
word_itself [] is = absurd is
word_itself (first ∷ others) is = by_word first others is.0
    ∙ ap (λ rest. Some (a_shape shape.Word rest)) (drop_while-all continues_word others is.1)

no_hexadecimal : (x : List ℕ) → IsDigits x → after_hexadecimal x ≡ None
no_hexadecimal x is = no_hexadecimal_as x is (after_hexadecimal x) refl

decimal_itself : (x : List ℕ) → IsDigits x → longest_shape x ≡ Some (a_shape shape.Decimal [])
decimal_itself x is =
    let there = sym (whole after_digits x) ∙ after_digits-there x [] is in
    let none = digits_end x there in
    begun_by_digits x [] there
    ∙ ap Some (decimal_is x (no_address_no_prefix x none) none (no_hexadecimal x is))
    ∙ ap (λ rest. Some (a_shape shape.Decimal rest)) (drop_while-all is_ascii_digit x (digits_pass x is))

address_itself : (x : List ℕ) → HasFourGroups x → longest_shape x ≡ Some (a_shape shape.Address [])
address_itself x is =
    let there = sym (whole after_address x) ∙ after_address-there x [] is in
    address_begins x [] there ∙ ap Some (address_is x [] (address_ends x there) there)

prefix_itself : (x : List ℕ) → HasLength x → longest_shape x ≡ Some (a_shape shape.Prefix [])
prefix_itself x is =
    let there = sym (whole after_prefix x) ∙ after_prefix-there x [] is in
    let address = after_prefix-within x [] there in
    address_begins x address.0 address.1 ∙ ap Some (prefix_is x [] there)

hexadecimal_itself : (digits : List ℕ) → AreHexadecimal digits
    → longest_shape (zero_digit ∷ small_x ∷ digits) ≡ Some (a_shape shape.Hexadecimal [])
hexadecimal_itself digits is =
    let text = zero_digit ∷ small_x ∷ digits in
    let none = no_hexadecimal_address digits in
    let there = sym (whole (λ t. after_hexadecimal (zero_digit ∷ small_x ∷ t)) digits) ∙ after_hexadecimal-there digits [] is in
    by_digit zero_digit (small_x ∷ digits) refl ∙ ap Some (hexadecimal_is text [] (no_address_no_prefix text none) none there)

quoted_itself : (x : List ℕ) → IsQuoted x → longest_shape x ≡ Some (a_shape shape.Text [])
quoted_itself x is =
    sym (whole longest_shape x) ∙ quoted_begins x [] is ∙ ap (option_map (λ rest. a_shape shape.Text rest)) (after_quoted-there x [] is)

punctuator_itself : (punctuator : Symbol) → is_punctuator punctuator ≡ true → longest_shape (symbol_text punctuator) ≡ Some (a_shape (shape.Punctuator punctuator) [])
unfolding punctuator_shape
punctuator_itself punctuator is =
    let text = symbol_text punctuator in
    let nothing : drop (length text) text ≡ [] = drop_all (length text) text (omega arith) in
    sym (whole longest_shape text) ∙ by_punctuator_byte punctuator [] is ∙ whole punctuator_shape text
    ∙ ap (option_map (λ punctuator. a_shape (shape.Punctuator punctuator) (drop (length (symbol_text punctuator)) text))) (punctuator-itself punctuator is)
    ∙ ap (λ rest. Some (a_shape (shape.Punctuator punctuator) rest)) nothing

pub longest-itself : (kind : Shape) (x : List ℕ) → HasShape kind x → longest_shape x ≡ Some (a_shape kind [])
longest-itself shape.Word x is = word_itself x is
longest-itself shape.Decimal x is = decimal_itself x is
longest-itself shape.Hexadecimal x is =
    let P : List ℕ → Type 0 = λ t. longest_shape t ≡ Some (a_shape shape.Hexadecimal []) in
    subst P (sym is.2) (hexadecimal_itself is.0 is.1)
longest-itself shape.Address x is = address_itself x is
longest-itself shape.Prefix x is = prefix_itself x is
longest-itself shape.Text x is = quoted_itself x is
longest-itself (shape.Punctuator punctuator) x is =
    let P : List ℕ → Type 0 = λ t. longest_shape t ≡ Some (a_shape (shape.Punctuator punctuator) []) in subst P (sym is.1) (punctuator_itself punctuator is.0)
