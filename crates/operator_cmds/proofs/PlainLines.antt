-- Lines in the usual spelling: words that are parted by one space each.
use Rattle.std.proofs.Common.{◌≡◌, ℕ, ◌≤◌, Bool, false, List, [], ◌∷◌, ◌++◌, length, All, Some, Err}
use Rattle.std.proofs.Common.{nat_lt, if◌then◌else◌, refl, sym, ap, ◌∙◌, arith, append-nil}
use Rattle.std.proofs.lemmas.Bool.Decides.{nat_tests}
use Rattle.std.proofs.lemmas.List.{nil_from_length}
use Rattle.std.proofs.lemmas.List.Elements.{All-cons, All-nil, All-weaker}
use Rattle.std.specs.Prelude.{codes}
use Rattle.line_protocol.proofs.WordLemmas.{words-next, words-only}
use Rattle.line_protocol.specs.Limits.{line_limit, number_limit}
use Rattle.line_protocol.specs.Words.{is_blank, words}
use Rattle.prefix_patterns.proofs.LeadingTokens.{BeginsWithNumber as BeginsWithDigits}
use Rattle.prefix_patterns.proofs.Numbers.{number_in-some}
use Rattle.prefix_patterns.proofs.TokenBytes.{IsFromDot, digits_bytes}
use Rattle.prefix_patterns.specs.Leading.{BeginsWith, BeginsWithDigit, IsUsualNumber}
use Rattle.prefix_patterns.specs.Number.{IsDigits}
use Rattle.prefix_patterns.specs.Reading.{number_in}
use Rattle.operator_cmds.specs.CommandView.{Show, Take}
use Rattle.operator_cmds.specs.Commands.{command_in, command_of, command_of_words, made, node_in, receive_of, text_in}
use Rattle.operator_cmds.specs.PlainLines.{AreThreeNumbers, BeginsWithNumber}
use Rattle.operator_cmds.specs.Verbs.{verb_in}
use Rattle.operator_cmds.specs.WordLists.{one_of, three_of}
use Rattle.operator_cmds.specs.declared.fault.CommandFault.TheVariants as fault
use Rattle.operator_cmds.specs.declared.verb.Verb.{Verb}
use Rattle.operator_cmds.specs.declared.verb.Verb.TheVariants as verb

no_blank : (byte : ℕ) → IsFromDot byte → is_blank byte ≡ false
no_blank byte high = grind (arith, nat_tests)

no_blanks : (text : List ℕ) → IsDigits text → All (λ byte. is_blank byte ≡ false) text
no_blanks text digits = All-weaker IsFromDot (λ byte. is_blank byte ≡ false) no_blank text (digits_bytes text digits)

module _ (text rest : List ℕ) (n : ℕ) (found : BeginsWithDigits text n rest) (small : n ≤ 999) where
  -- the digits write the number
  writes : number_in number_limit found.token ≡ Some n
  writes =
      let value = found.wanted.1 in
      number_in-some number_limit found.token (found.wanted.0, omega (arith, value, small)) ∙ ap Some (sym value)

  -- a number that nothing follows
  pub last : length rest ≡ 0 → BeginsWithNumber text n []
  last empty = record {
    word = found.token;
    cut =
        ap words (found.spelled ∙ ap (λ t. found.token ++ t) (nil_from_length rest empty) ∙ append-nil found.token)
        ∙ words-only is_blank found.token (no_blanks found.token found.wanted.0) found.wanted.0.some;
    writes = writes;
  }

  -- a number that a space and other words follow
  pub next : (others : List ℕ) → rest ≡ 32 ∷ others → BeginsWithNumber text n (words others)
  next others cut = record {
    word = found.token;
    cut =
        ap words (found.spelled ∙ ap (λ t. found.token ++ t) cut)
        ∙ words-next is_blank found.token others 32 (no_blanks found.token found.wanted.0) found.wanted.0.some refl;
    writes = writes;
  }

no_blank_of_four : (a b c d : ℕ) → is_blank a ≡ false → is_blank b ≡ false → is_blank c ≡ false → is_blank d ≡ false
    → All (λ byte. is_blank byte ≡ false) (a ∷ b ∷ c ∷ d ∷ [])
no_blank_of_four a b c d first second third fourth =
    let P : ℕ → Type 0 = λ byte. is_blank byte ≡ false in
    All-cons P a (b ∷ c ∷ d ∷ []) first
    (All-cons P b (c ∷ d ∷ []) second (All-cons P c (d ∷ []) third (All-cons P d [] fourth (All-nil P))))

-- the command of a line that begins with the word of a verb and a space
by_verb : (line text : List ℕ) (a b c d : ℕ) (v : Verb) → All (λ byte. is_blank byte ≡ false) (a ∷ b ∷ c ∷ d ∷ [])
    → verb_in (a ∷ b ∷ c ∷ d ∷ []) ≡ Some v → length line ≤ line_limit → line ≡ a ∷ b ∷ c ∷ d ∷ 32 ∷ text
    → command_in line ≡ command_of (Some v) (words text) (text_in line)
by_verb line text a b c d v none found within is =
    let word : List ℕ = a ∷ b ∷ c ∷ d ∷ [] in
    let short : nat_lt line_limit (length line) ≡ false = grind (arith, nat_tests) in
    let are : words line ≡ word ∷ words text = ap words is ∙ words-next is_blank word text 32 none (omega arith) refl in
    ap (λ (r : Bool). if r then Err fault.TooLong else command_of_words (words line) (text_in line)) short
    ∙ ap (λ (all : List (List ℕ)). command_of_words all (text_in line)) are
    ∙ ap (λ o. command_of o (words text) (text_in line)) found

module _ (line text : List ℕ) (within : length line ≤ line_limit) where
  pub of_recv : line ≡ codes "recv" ++ 32 ∷ text → command_in line ≡ receive_of (three_of (words text))
  unfolding verb_in
  of_recv is = by_verb line text 114 101 99 118 verb.Receive (no_blank_of_four 114 101 99 118 refl refl refl refl) refl within is

  pub of_take : line ≡ codes "take" ++ 32 ∷ text → command_in line ≡ made Take (node_in (one_of (words text)))
  unfolding verb_in
  of_take is = by_verb line text 116 97 107 101 verb.Take (no_blank_of_four 116 97 107 101 refl refl refl refl) refl within is

  pub of_show : line ≡ codes "show" ++ 32 ∷ text → command_in line ≡ made Show (node_in (one_of (words text)))
  unfolding verb_in
  of_show is = by_verb line text 115 104 111 119 verb.Show (no_blank_of_four 115 104 111 119 refl refl refl refl) refl within is

-- ---- the usual spelling

pub space_ends : (rest : List ℕ) → BeginsWithDigit (32 ∷ rest) → ⊥
space_ends rest digit = omega (arith, digit)

pub nothing_ends : BeginsWithDigit [] → ⊥
nothing_ends digit = digit

-- a number that is all of a text
pub all_of_it : (text : List ℕ) → IsUsualNumber text → BeginsWith IsUsualNumber text []
all_of_it text usual = record { token = text; wanted = usual; spelled = sym (append-nil text) }

-- the numbers of three, from the front on
pub first_of : (text : List ℕ) (three : AreThreeNumbers text) → BeginsWith IsUsualNumber text (32 ∷ (three.second ++ 32 ∷ three.third))
first_of text three = record { token = three.first; wanted = three.are_usual.0; spelled = three.spelled }

pub second_of : (line text : List ℕ) (three : AreThreeNumbers line) → text ≡ three.second ++ 32 ∷ three.third
    → BeginsWith IsUsualNumber text (32 ∷ three.third)
second_of line text three is = record { token = three.second; wanted = three.are_usual.1; spelled = is }
