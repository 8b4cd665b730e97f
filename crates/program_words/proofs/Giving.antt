-- What the getters of the parser of words answer, in the words of `specs/Given.antt`.
use Rattle.std.proofs.Common.{◌≡◌, ◌∙◌, ◌<◌, ◌^◌, ◌&&◌, ℕ, Bool, true, false, refl, sym, ap, List, [], ◌∷◌, map, length}
use Rattle.std.proofs.Common.{Option, Some, None, Result, Ok, Err, Bor, nat_lt, option_map, codes, lt-ltb, ltb-true}
use Rattle.std.specs.Prelude.{option_and_then, slice_get, unwrap_or}
use Rattle.std.specs.Char.{digit_value, is_digit}
use Rattle.std.specs.List.{list_all}
use Rattle.std.specs.Option.{UnwrapsOrElse, option_map_or}
use Rattle.std.specs.Str.{bytes_eq}
use Rattle.std.specs.Str.Parse.{AllDigits, IsNumeral, ParsesBool, ParsesUnsigned, digits_value, true_text, without_leading_plus}
use Rattle.std.proofs.lemmas.Bool.{false_from_ne_true}
use Rattle.std.proofs.lemmas.Option.{slice_get-map}
use Rattle.std.proofs.lemmas.Slice.Eq.{bytes_eq-Decides}
use Rattle.clap.specs.Matches.{ReadsOne, found_of, first_value, matched_of, one_text, raw_values}
use Rattle.clap.specs.declared.parser.matches.ArgMatches.{ArgMatches}
use Rattle.clap.specs.declared.parser.matches.MatchedArg.{MatchedArg}
use Rattle.clap.proofs.WalkLemmas.{one_text-rows, raw_values-rows}
use Rattle.program_words.specs.Given.{given_in, is_numeral, is_set, number_in, number_of, word_of, words_of}

-- the values that are lent, or none
lent_or_none : (found : Option (Bor (List (Bor (List ℕ))))) (words : Bor (List (Bor (List ℕ))))
    → UnwrapsOrElse found (λ none. none.now ≡ []) words
    → map (λ word. word.now) words.now ≡ unwrap_or (option_map (λ some. map (λ word. word.now) some.now) found) []
lent_or_none None words empty = ap (map (λ word. word.now)) empty
lent_or_none (Some some) words same = ap (λ lent. map (λ word. word.now) lent.now) same

pub words_found : (matches : ArgMatches) (name : List ℕ) (found : Option (Bor (List (Bor (List ℕ))))) (words : Bor (List (Bor (List ℕ))))
    → UnwrapsOrElse found (λ none. none.now ≡ []) words
    → option_map (λ some. map (λ word. word.now) some.now) found ≡ option_map raw_values (matched_of (found_of matches) name)
    → map (λ word. word.now) words.now ≡ words_of name (given_in matches)
unfolding words_of given_in
words_found matches name found words lent is =
    lent_or_none found words lent ∙ ap (λ some. unwrap_or some []) (is ∙ raw_values-rows (found_of matches) name)

first_raw : (matched : Option MatchedArg) → option_and_then (λ (a : MatchedArg). option_map (λ s. s.now) (slice_get a.vals.items 0)) matched
    ≡ slice_get (unwrap_or (option_map raw_values matched) []) 0
first_raw None = refl
first_raw (Some a) = sym (slice_get-map (λ s. s.now) a.vals.items 0)

pub word_found : (matches : ArgMatches) (name : List ℕ) → first_value (found_of matches) name ≡ word_of name (given_in matches)
unfolding words_of given_in
word_found matches name = first_raw (matched_of (found_of matches) name)
    ∙ ap (λ words. slice_get (unwrap_or words []) 0) (raw_values-rows (found_of matches) name)

-- texts that differ
differ : (xs ys : List ℕ) → (xs ≡ ys → ⊥) → bytes_eq xs ys ≡ false
differ xs ys apart = false_from_ne_true (bytes_eq xs ys) (λ e. apart ((bytes_eq-Decides xs ys).0 e))

flag_read : (E : Type 0) (text : Option (List ℕ)) (flag : Option Bool) → (text ≡ None → flag ≡ None)
    → ((t : List ℕ) → text ≡ Some t → ReadsOne {T = Bool} {E = E} ParsesBool t flag)
    → unwrap_or flag false ≡ option_map_or (λ t. bytes_eq t (codes "true")) text false
flag_read E None flag none value = ap (λ f. unwrap_or f false) (none refl)
flag_read E (Some t) (Some true) none value = let is = value t refl in sym (ap (λ x. bytes_eq x (codes "true")) is)
flag_read E (Some t) (Some false) none value = let is = value t refl in sym (ap (λ x. bytes_eq x (codes "true")) is)
flag_read E (Some t) None none value = let is = value t refl in sym (differ t true_text is.1.0)

pub flag_found : (E : Type 0) (matches : ArgMatches) (name : List ℕ) (flag : Option Bool)
    → (one_text (found_of matches) name ≡ None → flag ≡ None)
    → ((t : List ℕ) → one_text (found_of matches) name ≡ Some t → ReadsOne {T = Bool} {E = E} ParsesBool t flag)
    → unwrap_or flag false ≡ is_set name (given_in matches)
unfolding is_set given_in
flag_found E matches name flag none value = flag_read E (one_text (found_of matches) name) flag none value
    ∙ ap (λ text. option_map_or (λ t. bytes_eq t (codes "true")) text false) (one_text-rows (found_of matches) name)

all_digits : (digits : List ℕ) → AllDigits 10 digits → list_all (λ digit. is_digit digit 10) digits ≡ true
all_digits [] all = refl
all_digits (d ∷ ds) all = rw (lt-ltb (digit_value d) 10 all.0) (all_digits ds all.1)

each_digit : (digits : List ℕ) → list_all (λ digit. is_digit digit 10) digits ≡ true → AllDigits 10 digits
each_digit [] all = tt
each_digit (d ∷ ds) all = elim (is_digit d 10) as (λ b. is_digit d 10 ≡ b → (b && list_all (λ digit. is_digit digit 10) ds) ≡ true → AllDigits 10 (d ∷ ds)) [
  | true ↦ λ is rest. (ltb-true (digit_value d) 10 is, each_digit ds rest)
  | false ↦ λ is rest. absurd (cc)
] refl all

-- the text is a number of so many bits
abbrev Writes : ℕ → List ℕ → Type 0
Writes bits text = IsNumeral 10 (without_leading_plus text) × (digits_value 10 (without_leading_plus text) < 2 ^ bits)

abbrev writes : ℕ → List ℕ → Bool
writes bits text = is_numeral (without_leading_plus text) && nat_lt (digits_value 10 (without_leading_plus text)) (2 ^ bits)

both : (a b : Bool) → (a && b) ≡ true → (a ≡ true) × (b ≡ true)
both true b h = (refl, h)
both false b h = absurd (cc)

written : (bits : ℕ) (text : List ℕ) → Writes bits text → writes bits text ≡ true
written bits text is = rw (lt-ltb 0 (length (without_leading_plus text)) is.0.0, all_digits (without_leading_plus text) is.0.1) (lt-ltb _ _ is.1)

unwritten : (bits : ℕ) (text : List ℕ) → writes bits text ≡ true → Writes bits text
unwritten bits text is =
    let parts = both (is_numeral (without_leading_plus text)) (nat_lt (digits_value 10 (without_leading_plus text)) (2 ^ bits)) is in
    let numeral = both (nat_lt 0 (length (without_leading_plus text))) (list_all (λ digit. is_digit digit 10) (without_leading_plus text)) parts.0 in
    ((ltb-true 0 (length (without_leading_plus text)) numeral.0, each_digit (without_leading_plus text) numeral.1), ltb-true _ _ parts.1)

number_read : {E : Type 0} (bits : ℕ) (gives : List ℕ → Result ℕ E → Type 0) → ((t : List ℕ) (r : Result ℕ E) → gives t r → ParsesUnsigned bits 10 t r)
    → (text : Option (List ℕ)) (number : Option ℕ) → (text ≡ None → number ≡ None)
    → ((t : List ℕ) → text ≡ Some t → ReadsOne gives t number) → number ≡ option_and_then (number_in bits) text
number_read bits gives parses None number none value = none refl
number_read bits gives parses (Some t) (Some n) none value =
    let is = parses t (Ok n) (value t refl) in
    rw (written bits t is.0) (ap (λ x. Some x) is.1)
number_read bits gives parses (Some t) None none value =
    let is = value t refl in
    rw (false_from_ne_true (writes bits t) (λ e. parses t (Err is.0) is.1 (unwritten bits t e))) refl

pub number_found : {E : Type 0} (bits : ℕ) (gives : List ℕ → Result ℕ E → Type 0)
    → ((t : List ℕ) (r : Result ℕ E) → gives t r → ParsesUnsigned bits 10 t r) → (matches : ArgMatches) (name : List ℕ) (number : Option ℕ)
    → (one_text (found_of matches) name ≡ None → number ≡ None)
    → ((t : List ℕ) → one_text (found_of matches) name ≡ Some t → ReadsOne gives t number) → number ≡ number_of bits name (given_in matches)
unfolding number_of given_in
number_found bits gives parses matches name number none value = number_read bits gives parses (one_text (found_of matches) name) number none value
    ∙ ap (option_and_then (number_in bits)) (one_text-rows (found_of matches) name)
