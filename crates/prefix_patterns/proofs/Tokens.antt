-- What reading finds is written in the text, and what is written there is found.
use Rattle.std.proofs.Common.{◌≡◌, ◌≢◌, ℕ, ◌+◌, ◌*◌, ◌^◌, ◌<◌, ◌==◌, Bool, true, List, [], ◌∷◌, ◌++◌, length, take, drop, get_or}
use Rattle.std.proofs.Common.{position, nat_lt, Option, Some, None, All, refl, sym, ◌∙◌, ap, subst, arith, lit<, length-append}
use Rattle.std.specs.Char.{IsAsciiDigit}
use Rattle.std.specs.Int.{w32, from_be_bytes}
use Rattle.std.specs.List.{position_or_len, join_with_byte}
use Rattle.std.specs.Option.{option_map}
use Rattle.std.proofs.lemmas.Bool.{eqb-true, eq-eqb, ne_eqb, lt-ltb}
use Rattle.std.proofs.lemmas.List.{take_at, drop_at, append_assoc, take-append-drop, drop_more}
use Rattle.std.proofs.lemmas.List.Elements.{All-head, All-tail, All-append, All-cons, All-weaker, All-same}
use Rattle.std.proofs.lemmas.List.Quantifiers.{position-Some}
use Rattle.prefix_patterns.proofs.Numbers.{number_in-some, number_in-found}
use Rattle.prefix_patterns.specs.Number.{IsDigits, IsNumber, decimal_value}
use Rattle.prefix_patterns.specs.Reading.{◌>>=◌, parts_at, groups_in, address_in, prefix_in, written_in}
use Rattle.prefix_patterns.specs.Token.{dot, slash, IsAddress, IsPrefix}
use Rattle.prefix_patterns.specs.Written.{IsWrittenPrefix, written_as}
use Rattle.prefix_patterns.specs.declared.written.WrittenPrefix.{WrittenPrefix}

-- a reading that goes on found a value, and went on with it
bind_some : {A B P : Type 0} (r : Option A) (next : A → Option B) (y : B) → (r >>= next) ≡ Some y →
    ((x : A) → r ≡ Some x → next x ≡ Some y → P) → P
bind_some None next y e then = absurd cc
bind_some (Some x) next y e then = then x refl e

-- the same of a value that is made from another
map_some : {A B : Type 0} (f : A → B) (r : Option A) (y : B) → option_map f r ≡ Some y → (x : A) × (r ≡ Some x) × (f x ≡ y)
map_some f None y e = absurd cc
map_some f (Some x) y e = (x, refl, cc)

-- the place of the first separator, after bytes that are none
place : (separator : ℕ) (front rest : List ℕ) → All (λ byte. byte ≢ separator) front →
    position_or_len (λ byte. byte == separator) (front ++ separator ∷ rest) ≡ length front
place separator [] rest others = rw (eq-eqb separator separator refl) refl
place separator (byte ∷ front) rest others =
    rw (ne_eqb byte separator (All-head (λ byte. byte ≢ separator) byte front others))
    (ap (λ n. 1 + n) (place separator front rest (All-tail (λ byte. byte ≢ separator) byte front others)) ∙ omega arith)

-- the parts of what a separator joins
pub parts_at-joined : (separator : ℕ) (front rest : List ℕ) → All (λ byte. byte ≢ separator) front →
    parts_at separator (front ++ separator ∷ rest) ≡ Some (front, rest)
unfolding parts_at
parts_at-joined separator front rest others =
    let seam : drop (length front + 1) (front ++ separator ∷ rest) ≡ rest =
    ap (drop (length front + 1)) (sym (append_assoc front (separator ∷ []) rest))
    ∙ drop_at (front ++ separator ∷ []) rest (length front + 1) (length-append front (separator ∷ [])) in
    let within : nat_lt (length front) (length (front ++ separator ∷ rest)) ≡ true =
    lt-ltb _ _ (omega (arith, length-append front (separator ∷ rest))) in
    rw (place separator front rest others, within, take_at front (separator ∷ rest) (length front) refl, seam) refl

-- parts are joined by the separator
pub parts_at-found : (separator : ℕ) (text front rest : List ℕ) → parts_at separator text ≡ Some (front, rest) →
    text ≡ front ++ separator ∷ rest
unfolding parts_at
parts_at-found separator text front rest e =
    let found = map_some (λ at. (take at text, drop (at + 1) text)) (position (λ byte. byte == separator) text) (front, rest) e in
    let at = found.0 in
    let there = position-Some (λ byte. byte == separator) text at 0 found.1 in
    let byte : get_or text at 0 ≡ separator = eqb-true _ _ there.1 in
    let split : text ≡ take at text ++ get_or text at 0 ∷ drop (at + 1) text =
    sym (take-append-drop at text) ∙ ap (λ l. take at text ++ l) (drop_more text at 0 there.0) in
    split ∙ ap (λ b. take at text ++ b ∷ drop (at + 1) text) byte ∙ ap (λ (p : List ℕ × List ℕ). p.0 ++ separator ∷ p.1) found.2

-- digits are neither dots nor slashes
digits_apart : (separator : ℕ) (text : List ℕ) → separator < 48 → IsDigits text → All (λ byte. byte ≢ separator) text
digits_apart separator text below digits =
    All-weaker IsAsciiDigit (λ byte. byte ≢ separator) (λ byte digit same. omega (arith, digit.0)) text digits.each

-- four groups and the dots between them
four_joined : (text rest last a b c d : List ℕ) → text ≡ a ++ dot ∷ rest → rest ≡ b ++ dot ∷ last → last ≡ c ++ dot ∷ d →
    text ≡ join_with_byte dot (a ∷ b ∷ c ∷ d ∷ [])
four_joined text rest last a b c d e f g = e ∙ ap (λ r. a ++ dot ∷ r) (f ∙ ap (λ r. b ++ dot ∷ r) g)

pub address_in-found : (text : List ℕ) (address : ℕ) → address_in text ≡ Some address → IsAddress text address
unfolding address_in groups_in
address_in-found text address e =
    bind_some _ _ _ e (λ (groups : List ℕ) (at_groups : groups_in text ≡ Some groups) (e : Some (from_be_bytes w32 groups) ≡ Some address).
    let last : from_be_bytes w32 groups ≡ address = cc in
    bind_some _ _ _ at_groups (λ one at_one e.
    bind_some _ _ _ e (λ two at_two e.
    bind_some _ _ _ e (λ three at_three e.
    bind_some _ _ _ e (λ first is_first e.
    bind_some _ _ _ e (λ second is_second e.
    bind_some _ _ _ e (λ third is_third e.
    bind_some _ _ _ e (λ fourth is_fourth e.
    let a = number_in-found 255 one.0 first is_first in
    let b = number_in-found 255 two.0 second is_second in
    let c = number_in-found 255 three.0 third is_third in
    let d = number_in-found 255 three.1 fourth is_fourth in
    let bytes : first ∷ second ∷ third ∷ fourth ∷ [] ≡ groups = cc in
    let whole : first * 2 ^ 24 + second * 2 ^ 16 + third * 2 ^ 8 + fourth ≡ address = ap (from_be_bytes w32) bytes ∙ last in
    record {
      first = one.0;
      second = two.0;
      third = three.0;
      fourth = three.1;
      groups = (a.0, b.0, c.0, d.0);
      spelled =
          four_joined text one.1 two.1 one.0 two.0 three.0 three.1
          (parts_at-found dot text one.0 one.1 at_one) (parts_at-found dot one.1 two.0 two.1 at_two)
          (parts_at-found dot two.1 three.0 three.1 at_three);
      value = cc;
    }))))))))

pub address_in-only : (text : List ℕ) (address : ℕ) → IsAddress text address → address_in text ≡ Some address
unfolding address_in groups_in
address_in-only text address is =
    let apart = λ (group : List ℕ) (number : IsNumber 255 group). digits_apart dot group (lit< tt) number.0 in
    rw (
      is.spelled,
      parts_at-joined dot is.first _ (apart is.first is.groups.0),
      parts_at-joined dot is.second _ (apart is.second is.groups.1),
      parts_at-joined dot is.third is.fourth (apart is.third is.groups.2),
      number_in-some 255 is.first is.groups.0,
      number_in-some 255 is.second is.groups.1,
      number_in-some 255 is.third is.groups.2,
      number_in-some 255 is.fourth is.groups.3,
    )
    (ap Some (sym is.value))

-- no slash is in an address
address_apart : (text : List ℕ) (address : ℕ) → IsAddress text address → All (λ byte. byte ≢ slash) text
address_apart text address is =
    let P : ℕ → Type 0 = λ byte. byte ≢ slash in
    let group = λ (digits : List ℕ) (number : IsNumber 255 digits). digits_apart slash digits (lit< tt) number.0 in
    let after_dot = λ (rest : List ℕ) (others : All P rest). All-cons P dot rest (λ same. omega arith) others in
    All-same P text _ is.spelled
    (All-append P is.first _ (group is.first is.groups.0) (after_dot _
    (All-append P is.second _ (group is.second is.groups.1) (after_dot _
    (All-append P is.third _ (group is.third is.groups.2) (after_dot _ (group is.fourth is.groups.3)))))))

pub written_in-found : (text : List ℕ) (written : WrittenPrefix) → written_in text ≡ Some written → IsWrittenPrefix text written
unfolding written_in
written_in-found text written e =
    bind_some _ _ _ e (λ parts at_parts e.
    bind_some _ _ _ e (λ address is_address e.
    bind_some _ _ _ e (λ len is_len e.
    let number = number_in-found 32 parts.1 len is_len in
    let last : written_as address len ≡ written = cc in
    record {
      address = address;
      address_text = parts.0;
      length_text = parts.1;
      is_address = address_in-found parts.0 address is_address;
      is_length = number.0;
      spelled = parts_at-found slash text parts.0 parts.1 at_parts;
      value = sym last ∙ ap (written_as address) (sym number.1);
    })))

pub written_in-only : (text : List ℕ) (written : WrittenPrefix) → IsWrittenPrefix text written → written_in text ≡ Some written
unfolding written_in
written_in-only text written is =
    rw (
      is.spelled,
      parts_at-joined slash is.address_text is.length_text (address_apart is.address_text is.address is.is_address),
      address_in-only is.address_text is.address is.is_address,
      number_in-some 32 is.length_text is.is_length,
    )
    (ap Some (sym is.value))

-- what is written is the text of a prefix
pub written-prefix : (text : List ℕ) (written : WrittenPrefix) → IsWrittenPrefix text written → IsPrefix text written.prefix
written-prefix text written is = record {
  address = is.address;
  address_text = is.address_text;
  length_text = is.length_text;
  is_address = is.is_address;
  is_length = is.is_length;
  spelled = is.spelled;
  cleared = ap (λ (w : WrittenPrefix). w.prefix) is.value;
}

pub prefix_in-found : (text : List ℕ) (bits : List Bool) → prefix_in text ≡ Some bits → IsPrefix text bits
unfolding prefix_in
prefix_in-found text bits e =
    let some = map_some (λ (written : WrittenPrefix). written.prefix) (written_in text) bits e in
    subst (IsPrefix text) some.2 (written-prefix text some.0 (written_in-found text some.0 some.1))

pub prefix_in-only : (text : List ℕ) (bits : List Bool) → IsPrefix text bits → prefix_in text ≡ Some bits
unfolding prefix_in
prefix_in-only text bits is =
    let written = written_as is.address (decimal_value is.length_text) in
    let there : IsWrittenPrefix text written = record {
      address = is.address;
      address_text = is.address_text;
      length_text = is.length_text;
      is_address = is.is_address;
      is_length = is.is_length;
      spelled = is.spelled;
      value = refl;
    } in
    ap (option_map (λ (written : WrittenPrefix). written.prefix)) (written_in-only text written there) ∙ ap Some (sym is.cleared)
