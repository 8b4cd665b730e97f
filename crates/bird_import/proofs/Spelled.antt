-- Tokens that are words, one by one.
use Rattle.std.proofs.Common.{◌≡◌, ◌≢◌, IfOk, Result, Ok, Err, false, true, ℕ, zero, suc, ◌+◌, ◌<◌, ◌≤◌, ◌⊎◌, List}
use Rattle.std.proofs.Common.{[], ◌∷◌, Some, length, get_or, slice_get, ap, ◌∙◌, refl, subst, sym, inl, inr, arith}
use Rattle.std.proofs.lemmas.Option.{slice_get-get_or, slice_get_read, slice_get_within}
use Rattle.filter_syntax.specs.SyntaxText.{FilterView, IsText}
use Rattle.filter_parser.specs.Unspelled.{IsUnspelled}
use Rattle.filter_tokens.specs.Tokenization.{AreInOrder}
use Rattle.filter_tokens.specs.declared.token.Token.{Token}
use Rattle.bird_import.specs.Alike.{AreAlike}
use Rattle.bird_import.specs.Spelling.{IsSpelled, IsWritten, LiesIn}
use Rattle.bird_import.specs.Texts.{HasOutcome, IsTaken}
use Rattle.bird_import.specs.Unassigned.{AreAssigned}
use Rattle.bird_import.specs.declared.text.TextOutcome.{TextOutcome}
use Rattle.bird_import.specs.declared.text.TextOutcome.TheVariants as fates
use Rattle.bird_import.specs.declared.word.Word.{Word}
use Rattle.filter_parser.specs.Telling.{TellsRound}
use Rattle.filter_parser.specs.declared.unparsed.Unparsed.{Unparsed}
use Rattle.expression_parser.specs.declared.fault.ParseFault.TheVariants as faults

-- what failed did not hold
pub false_not_true : false ≡ true → ⊥
false_not_true is = cc

-- the token at an index is the word at that index
abbrev pub IsSpelledAt : List ℕ → List Token → List Word → ℕ → Type 0
IsSpelledAt text tokens words k =
    (token : Token) (word : Word) → slice_get tokens k ≡ Some token → slice_get words k ≡ Some word → IsSpelled text token word

-- below the next number is below a number, or at it
below_or_at : (k n : ℕ) → k < n + 1 → (k < n) ⊎ (k ≡ n)
below_or_at k n h = grind arith

-- one more token is its word
pub one_more : (text : List ℕ) (tokens : List Token) (words : List Word) (n : ℕ) → ((k : ℕ) → k < n → IsSpelledAt text tokens words k)
    → IsSpelledAt text tokens words n → (k : ℕ) → k < n + 1 → IsSpelledAt text tokens words k
one_more text tokens words n before at k below =
    elim (below_or_at k n below) [
      | inl earlier ↦ before k earlier
      | inr same ↦ subst (λ i. IsSpelledAt text tokens words i) (sym same) at
    ]

-- all are, where all up to the length are
pub all_spelled : (text : List ℕ) (tokens : List Token) (words : List Word) (n : ℕ) → length tokens ≡ length words
    → ((k : ℕ) → k < length tokens → k < n) → ((k : ℕ) → k < n → IsSpelledAt text tokens words k) → AreAlike (IsSpelled text) tokens words
all_spelled text tokens words n same ends before =
    (same, λ k token word is at. before k (ends k (slice_get_within tokens k token is)) token word is at)

-- the token and the word that were read at an index
module _ (text : List ℕ) (tokens : List Token) (words : List Word) (k : ℕ) (token : Token) (none : Word) (low : k < length tokens)
    (is : token ≡ get_or tokens k token) (below : k < length words) where
  there : slice_get tokens k ≡ Some token
  there = slice_get_read tokens (length tokens) k token refl low is

  beside : slice_get words k ≡ Some (get_or words k none)
  beside = slice_get-get_or words k none below

  pub spelled_at : IsSpelled text token (get_or words k none) → IsSpelledAt text tokens words k
  spelled_at spelled = λ other word at is_word.
      let at_token : slice_get tokens k ≡ Some other = at in
      let at_word : slice_get words k ≡ Some word = is_word in
      let found : slice_get tokens k ≡ Some token = there in
      let found_word : slice_get words k ≡ Some (get_or words k none) = beside in
      let same : token ≡ other = cc in
      let alike : get_or words k none ≡ word = cc in
      subst (λ t. IsSpelled text t word) same (subst (λ w. IsSpelled text token w) alike spelled)

  pub not_alike : (IsSpelled text token (get_or words k none) → ⊥) → AreAlike (IsSpelled text) tokens words → ⊥
  not_alike other alike = other (alike.1 k token (get_or words k none) there beside)

-- tokens in order end where they may
ends : (from to : ℕ) (tokens : List Token) → AreInOrder from tokens to → from ≤ to
ends from to [] order = order
ends from to (token ∷ tokens) (low, some, rest) =
    let behind = ends token.to to tokens rest in
    omega (arith, low, some, behind)

-- each of them lies in the text
pub lies_in : (from to k : ℕ) (tokens : List Token) (token : Token) → AreInOrder from tokens to → slice_get tokens k ≡ Some token → LiesIn to token
lies_in from to k [] token order is = absurd (let inside = slice_get_within [] k token is in omega (arith, inside))
lies_in from to zero (first ∷ tokens) token (low, some, rest) is =
    let behind = ends first.to to tokens rest in
    let same : first ≡ token = cc in
    subst (λ (t : Token). LiesIn to t) same (record { order = omega (arith, some); within = behind })
lies_in from to (suc k) (first ∷ tokens) token (low, some, rest) is = lies_in first.to to k tokens token rest is

-- a filter is written for its words, and reads no variable before it assigns it
pub taken : (text : List ℕ) (words : List Word) (filter : FilterView) (tokens : List Token) → IsText text filter → tokens ≡ filter.tokens
    → AreAlike (IsSpelled text) tokens words → AreAssigned filter → IsTaken words text
taken text words filter tokens spells same alike assigned = record {
  written = record {
    filter = filter;
    spells = spells;
    same = subst (λ list. AreAlike (IsSpelled text) list words) same alike;
  };
  assigned = assigned;
}

-- and one whose tokens are others is not
pub not_written : (text : List ℕ) (words : List Word) (filter : FilterView) (tokens : List Token)
    → ((other : FilterView) → IsText text other → other ≡ filter) → tokens ≡ filter.tokens
    → (AreAlike (IsSpelled text) tokens words → ⊥) → IsWritten words text → ⊥
not_written text words filter tokens only same other is =
    other (subst (λ list. AreAlike (IsSpelled text) list words) (ap (λ (f : FilterView). f.tokens) (only is.filter is.spells) ∙ sym same) is.same)

-- and a text that the parser refuses, if not for want of memory, spells none, for this fault
pub of_fault : {E : Type 0} (words : List Word) (text : List ℕ) (why : Unparsed) (r : Result TextOutcome E)
    → IfOk r (λ text_outcome. (text_outcome ≡ fates.Refused why) × (why.fault ≢ faults.Memory)) → (why.fault ≢ faults.Memory → IsUnspelled text why.fault)
    → TellsRound text why.fault why.around → IfOk r (HasOutcome words text)
of_fault words text why (Ok text_outcome) (same, other) unspelled round =
    subst (λ (f : TextOutcome). HasOutcome words text f) (sym same) (unspelled other, round)
of_fault words text why (Err e) is unspelled round = tt
