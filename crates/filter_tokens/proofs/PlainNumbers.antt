-- Decimal numbers whose end is found once: what is at the front of the text is the token there.
use Rattle.std.proofs.Common.{◌≡◌, ℕ, ◌-◌, ◌<◌, ◌≤◌, eqb, Bool, true, false, cond, List, [], ◌∷◌, ◌++◌, length, take, drop}
use Rattle.std.proofs.Common.{Option, Some, None, refl, sym, ◌∙◌, ap, subst, arith, length-drop}
use Rattle.std.specs.Char.{is_ascii_digit}
use Rattle.std.specs.List.{prefix_len}
use Rattle.std.specs.Option.{option_map}
use Rattle.std.proofs.lemmas.Bool.{ne_eqb}
use Rattle.prefix_patterns.specs.Leading.{after_byte}
use Rattle.prefix_patterns.specs.Reading.{◌>>=◌, number_in}
use Rattle.prefix_patterns.specs.Token.{dot}
use Rattle.filter_tokens.specs.declared.part.Part.TheVariants as part
use Rattle.filter_tokens.specs.declared.shape.Shape.TheVariants as shape
use Rattle.filter_tokens.specs.declared.token_kind.TokenKind.TheVariants as kind
use Rattle.filter_tokens.specs.Meaning.{greatest_number}
use Rattle.filter_tokens.specs.Reading.{after_address, after_digits, after_hexadecimal, begins_digit, drop_while}
use Rattle.filter_tokens.specs.Reading.{goes_on, longest_shape, token_in, token_of}
use Rattle.filter_tokens.specs.Shapes.{small_x, zero_digit}
use Rattle.filter_tokens.proofs.Forms.{after_hexadecimal-found}
use Rattle.filter_tokens.proofs.Longest.{Found, a_shape, begun_by_digits, decimal_is, no_address_no_prefix}

-- digits are there where there is one at least
digits_are : (text : List ℕ) → eqb (prefix_len is_ascii_digit text) 0 ≡ false → after_digits text ≡ Some (drop_while is_ascii_digit text)
unfolding after_digits
digits_are text some = rw some refl

-- no group begins where no digit does
no_digits : (text : List ℕ) → begins_digit text ≡ false → after_digits text ≡ None
unfolding after_digits
no_digits [] e = refl
no_digits (first ∷ others) e = rw e refl

-- behind the first digits comes no further group
no_group : (rest : List ℕ) → goes_on rest ≡ false → (after_byte dot rest >>= λ bytes. after_digits bytes) ≡ None
no_group [] e = refl
no_group (first ∷ others) e = by_dot (eqb first dot) refl e where
  by_dot : (is : Bool) → eqb first dot ≡ is → cond is (begins_digit others) (eqb first small_x) ≡ false →
      (cond is (Some others) None >>= λ bytes. after_digits bytes) ≡ None
  by_dot true same e = no_digits others e
  by_dot false same e = refl

-- so there is no address
bound_none : {A B C : Type 0} (r : Option A) (next : A → Option B) (last : B → Option C) → (r >>= next) ≡ None →
    (r >>= λ a. next a >>= last) ≡ None
bound_none None next last e = refl
bound_none (Some a) next last e = ap (λ found. found >>= last) e

no_address : (text rest : List ℕ) → after_digits text ≡ Some rest → goes_on rest ≡ false → after_address text ≡ None
unfolding after_address
no_address text rest there e = rw there (bound_none (after_byte dot rest) (λ bytes. after_digits bytes) _ (no_group rest e))

-- where hexadecimal is there, its `x` is behind the first digits
x_goes_on : (others : List ℕ) → goes_on (drop_while is_ascii_digit (zero_digit ∷ small_x ∷ others)) ≡ true
x_goes_on others = refl

no_hexadecimal_as : (text : List ℕ) → goes_on (drop_while is_ascii_digit text) ≡ false → (o : Option (List ℕ)) → after_hexadecimal text ≡ o →
    o ≡ None
no_hexadecimal_as text e None there = refl
no_hexadecimal_as text e (Some rest) there =
    let stands = after_hexadecimal-found text rest there in
    let spelled : text ≡ zero_digit ∷ small_x ∷ (stands.is.0 ++ rest) = stands.whole ∙ ap (λ t. t ++ rest) stands.is.2 in
    let begins : goes_on (drop_while is_ascii_digit text) ≡ true =
    ap (λ t. goes_on (drop_while is_ascii_digit t)) spelled ∙ x_goes_on (stands.is.0 ++ rest) in
    let never : true ≡ false = sym begins ∙ e in
    absurd cc

-- nothing longer than the number is at the front
number_alone : (text : List ℕ) → eqb (prefix_len is_ascii_digit text) 0 ≡ false → goes_on (drop_while is_ascii_digit text) ≡ false →
    longest_shape text ≡ Some (a_shape shape.Decimal (drop_while is_ascii_digit text))
number_alone text some e =
    let there = digits_are text some in
    let none = no_address text (drop_while is_ascii_digit text) there e in
    begun_by_digits text (drop_while is_ascii_digit text) there
    ∙ ap Some (decimal_is text (no_address_no_prefix text none) none (no_hexadecimal_as text e (after_hexadecimal text) refl))

-- the token that a number makes
number_made : (text : List ℕ) (len : ℕ) → len ≤ length text →
    token_of text (a_shape shape.Decimal (drop len text))
    ≡ option_map (λ number. part.Token (kind.Number number) len) (number_in greatest_number (take len text))
number_made text len within =
    let same : length text - length (drop len text) ≡ len = omega (arith, length-drop len text) in
    ap (λ n. option_map (λ kind. part.Token kind n) (option_map kind.Number (number_in greatest_number (take n text)))) same
    ∙ made (number_in greatest_number (take len text)) where
      made : (read : Option ℕ) → option_map (λ kind. part.Token kind len) (option_map kind.Number read)
          ≡ option_map (λ number. part.Token (kind.Number number) len) read
      made None = refl
      made (Some number) = refl

-- a number that is read at once is the token at the front
pub number-token : (text : List ℕ) (len number : ℕ) → len ≡ prefix_len is_ascii_digit text → len ≤ length text → 0 < len →
    goes_on (drop len text) ≡ false → number_in greatest_number (take len text) ≡ Some number →
    token_in text ≡ Some (part.Token (kind.Number number) len)
unfolding token_in
number-token text len number same within some e read =
    let digit : eqb (prefix_len is_ascii_digit text) 0 ≡ false = ne_eqb _ _ (λ none. omega (arith, some, same, none)) in
    let ends : goes_on (drop_while is_ascii_digit text) ≡ false = subst (λ n. goes_on (drop n text) ≡ false) same e in
    let alone : longest_shape text ≡ Some (a_shape shape.Decimal (drop len text)) =
    number_alone text digit ends ∙ ap (λ n. Some (a_shape shape.Decimal (drop n text))) (sym same) in
    ap (λ (found : Option Found). found >>= token_of text) alone
    ∙ number_made text len within ∙ ap (option_map (λ number. part.Token (kind.Number number) len)) read
