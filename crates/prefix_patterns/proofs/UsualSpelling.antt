-- Numbers and prefixes in the usual spelling are read whole.
use Rattle.std.proofs.Common.{◌≡◌, ℕ, ◌+◌, ◌-◌, ◌*◌, ◌<◌, ◌≤◌, ◌⊎◌, inl, inr, List, [], ◌∷◌, ◌++◌}
use Rattle.std.proofs.Common.{length, take, drop, get_or, refl, sym, ap, subst, ◌∙◌, arith}
use Rattle.std.proofs.Common.{append_assoc, length-append, length-take}
use Rattle.std.specs.Char.{IsAsciiDigit}
use Rattle.std.specs.List.{join_with_byte}
use Rattle.std.proofs.Math.Nat.{add-zero}
use Rattle.std.proofs.Math.Seq.{drop-append_seam}
use Rattle.std.proofs.lemmas.Bool.{cases_order}
use Rattle.std.proofs.lemmas.List.{get_or-append-add, get_or-take, get_or_append_left, take-append-le, take_all}
use Rattle.prefix_patterns.specs.Leading.{BeginsWith, BeginsWithDigit, IsUsualNumber, IsUsualPrefix, IsUsualWithin}
use Rattle.prefix_patterns.specs.Number.{decimal_value}
use Rattle.prefix_patterns.specs.Token.{dot, slash}
use Rattle.prefix_patterns.proofs.LeadingTokens.{HasDigit, IsRead, one, three, two}

-- the byte at a place is a digit
abbrev pub IsDigitAt : List ℕ → ℕ → Type 0
IsDigitAt text at = (at < length text) × IsAsciiDigit (get_or text at 0)

first_digit : (rest : List ℕ) → IsDigitAt rest 0 → BeginsWithDigit rest
first_digit [] h = absurd (omega (arith, h.0))
first_digit (byte ∷ rest) h = h.1

front_of : (token rest : List ℕ) → take (length token) (token ++ rest) ≡ token
front_of token rest = take-append-le (length token) token rest (omega arith) ∙ take_all (length token) token (omega arith)

module _ (text rest : List ℕ) (number : BeginsWith IsUsualNumber text rest) (ends : ¬ BeginsWithDigit rest) where
  -- the bytes of the number are digits, and the one after it is none
  digit_of : (k : ℕ) → k < length number.token → IsDigitAt text k
  digit_of k low =
      subst (λ t. IsDigitAt t k) (sym number.spelled) (
        omega (arith, length-append number.token rest),
        subst IsAsciiDigit (sym (get_or_append_left number.token rest 0 k low)) (number.wanted.0.each k 0 low),
      )

  no_digit_after : IsDigitAt text (length number.token) → ⊥
  no_digit_after h =
      let there : IsDigitAt (number.token ++ rest) (length number.token) = subst (λ t. IsDigitAt t (length number.token)) number.spelled h in
      let here : get_or (number.token ++ rest) (length number.token) 0 ≡ get_or rest 0 0 =
      ap (λ n. get_or (number.token ++ rest) n 0) (sym (add-zero (length number.token))) ∙ get_or-append-add number.token rest 0 0 in
      ends (first_digit rest (omega (arith, there.0, length-append number.token rest), subst IsAsciiDigit here there.1))

  -- as many digits were read as the number has: another one would have been read, and of more the last one would be none
  all_digits : (count value : ℕ) → IsRead text count value → (count < 3 → IsDigitAt text count → ⊥)
      → (count ≡ length number.token) ⊎ ((count < length number.token) ⊎ (length number.token < count)) → count ≡ length number.token
  all_digits count value read stops (inl same) = same
  all_digits count value read stops (inr (inl fewer)) =
      absurd (stops (omega (arith, fewer, number.wanted.1)) (digit_of count fewer))
  all_digits count value read stops (inr (inr more)) =
      let inside : length number.token < length (take count text) = rw length-take (omega (arith, more, read.within)) in
      absurd (no_digit_after (
        omega (arith, more, read.within),
        subst IsAsciiDigit (get_or-take count text (length number.token) 0 more) (read.digits (length number.token) 0 inside),
      ))

  -- what was read is all of the number
  read_whole : (count value : ℕ) → IsRead text count value → (count < 3 → IsDigitAt text count → ⊥)
      → (value ≡ decimal_value number.token) × (take (length text - count) (drop count text) ≡ rest)
  read_whole count value read stops =
      let same = all_digits count value read stops (cases_order count (length number.token)) in
      let token : take count text ≡ number.token =
      ap (λ n. take n text) same ∙ ap (take (length number.token)) number.spelled ∙ front_of number.token rest in
      let behind : drop count text ≡ rest =
      ap (λ n. drop n text) same ∙ ap (drop (length number.token)) number.spelled ∙ drop-append_seam number.token rest in
      let enough : length rest ≤ length text - count =
      omega (arith, same, ap length number.spelled, length-append number.token rest) in (
        read.written ∙ ap decimal_value token,
        ap (take (length text - count)) behind ∙ take_all (length text - count) rest enough,
      )

  pub not_none : (IsDigitAt text 0 → ⊥) → ⊥
  not_none none = none (digit_of 0 number.wanted.0.some)

  pub one_whole : (a : ℕ) → HasDigit text 0 a → (IsDigitAt text 1 → ⊥)
      → (a ≡ decimal_value number.token) × (take (length text - 1) (drop 1 text) ≡ rest)
  one_whole a h stops = read_whole 1 a (one text a h) (λ _. stops)

  pub two_whole : (a b : ℕ) → HasDigit text 0 a → HasDigit text 1 b → (IsDigitAt text 2 → ⊥)
      → (a * 10 + b ≡ decimal_value number.token) × (take (length text - 2) (drop 2 text) ≡ rest)
  two_whole a b h i stops = read_whole 2 (a * 10 + b) (two text a b h i) (λ _. stops)

  pub three_whole : (a b c : ℕ) → HasDigit text 0 a → HasDigit text 1 b → HasDigit text 2 c
      → (a * 100 + b * 10 + c ≡ decimal_value number.token) × (take (length text - 3) (drop 3 text) ≡ rest)
  three_whole a b c h i j = read_whole 3 (a * 100 + b * 10 + c) (three text a b c h i j) (λ low. absurd (omega (arith, low)))

-- ---- prefixes

-- a group, and the byte after it
abbrev pub HasGroup : List ℕ → ℕ → List ℕ → Type 0
HasGroup text byte rest = BeginsWith (IsUsualWithin 255) text (byte ∷ rest)

-- the pieces of a prefix
pub record Pieces (text rest : List ℕ) : Type 0 where
  pub after_first : List ℕ
  pub after_second : List ℕ
  pub after_third : List ℕ
  pub after_fourth : List ℕ
  pub first : HasGroup text dot after_first
  pub second : HasGroup after_first dot after_second
  pub third : HasGroup after_second dot after_third
  pub fourth : HasGroup after_third slash after_fourth
  pub bits : BeginsWith (IsUsualWithin 32) after_fourth rest

pub pieces : (text rest : List ℕ) → BeginsWith IsUsualPrefix text rest → Pieces text rest
pieces text rest begins =
    let prefix = begins.wanted in
    let bits = prefix.length_text ++ rest in
    let fourth = prefix.fourth ++ slash ∷ bits in
    let third = prefix.third ++ dot ∷ fourth in
    let second = prefix.second ++ dot ∷ third in
    record {
      after_first = second;
      after_second = third;
      after_third = fourth;
      after_fourth = bits;
      first = record {
        token = prefix.first;
        wanted = prefix.groups.0;
        spelled = begins.spelled ∙ ap (λ t. t ++ rest) prefix.spelled
            ∙ joined prefix.first prefix.second prefix.third prefix.fourth prefix.length_text rest;
      };
      second = record { token = prefix.second; wanted = prefix.groups.1; spelled = refl };
      third = record { token = prefix.third; wanted = prefix.groups.2; spelled = refl };
      fourth = record { token = prefix.fourth; wanted = prefix.groups.3; spelled = refl };
      bits = record { token = prefix.length_text; wanted = prefix.is_length; spelled = refl };
    } where
      joined : (a b c d l rest : List ℕ) → (join_with_byte dot (a ∷ b ∷ c ∷ d ∷ []) ++ slash ∷ l) ++ rest
          ≡ a ++ dot ∷ (b ++ dot ∷ (c ++ dot ∷ (d ++ slash ∷ (l ++ rest))))
      joined a b c d l rest = simp append_assoc refl

pub dot_ends : IsAsciiDigit dot → ⊥
dot_ends h = omega (arith, h)

pub slash_ends : IsAsciiDigit slash → ⊥
slash_ends h = omega (arith, h)

-- the number of a group, and the byte after it
abbrev pub group_number : (text : List ℕ) (byte : ℕ) (rest : List ℕ) → HasGroup text byte rest → BeginsWith IsUsualNumber text (byte ∷ rest)
group_number text byte rest group = record { token = group.token; wanted = group.wanted.0; spelled = group.spelled }

abbrev pub bits_number : (text rest : List ℕ) → BeginsWith (IsUsualWithin 32) text rest → BeginsWith IsUsualNumber text rest
bits_number text rest bits = record { token = bits.token; wanted = bits.wanted.0; spelled = bits.spelled }

-- the same of an equal text
abbrev pub moved : {text other : List ℕ} (byte : ℕ) (rest : List ℕ) → text ≡ other → HasGroup other byte rest → HasGroup text byte rest
moved byte rest same group = record { token = group.token; wanted = group.wanted; spelled = same ∙ group.spelled }

abbrev pub moved_bits : {text other rest : List ℕ} → text ≡ other → BeginsWith (IsUsualWithin 32) other rest → BeginsWith (IsUsualWithin 32) text rest
moved_bits same bits = record { token = bits.token; wanted = bits.wanted; spelled = same ∙ bits.spelled }
