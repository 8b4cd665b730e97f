-- Where words stand outside of what is opened.
use Rattle.std.proofs.Common.{◌≡◌, ℕ, zero, suc, ◌+◌, ◌<◌, ◌≤◌, ◌&&◌, ◌==◌, Bool, false, if◌then◌else◌, List, []}
use Rattle.std.proofs.Common.{◌∷◌, length, drop, Option, Some, None, Decides, refl, sym, ◌∙◌, ap, arith, rules}
use Rattle.std.specs.Option.{option_and_then}
use Rattle.std.proofs.lemmas.Bool.{cond-false}
use Rattle.std.proofs.lemmas.List.{drop_all}
use Rattle.std.proofs.lemmas.Option.{slice_get_past}
use denote.Enum.Bare.{same_true, true_same}
use Rattle.filter_tokens.specs.contracts.symbol.Symbol.{the_type}
use Rattle.filter_tokens.specs.declared.symbol.Symbol.{Symbol}
use Rattle.bird_import.specs.Indices.{bytes_at, bytes_of_word, kind_at, kind_of_word}
use Rattle.bird_import.specs.Items.{depth_past, first_outside, is_symbol}
use Rattle.bird_import.specs.declared.word.Word.{Word}
use Rattle.bird_import.specs.declared.word.WordKind.{WordKind}
use Rattle.bird_import.specs.declared.word.WordKind.TheVariants as kind

-- the same one word further
pub one_outside : (wanted : WordKind → Bool) (depth at : ℕ) (words : List Word) (k : ℕ) → k < length words
    → first_outside wanted depth at (drop k words) ≡ (if depth == 0 && wanted (kind_at words k) then Some at
    else option_and_then (λ after. first_outside wanted after (at + 1) (drop (k + 1) words)) (depth_past depth (kind_at words k)))
unfolding first_outside
one_outside wanted depth at [] k below = absurd (omega arith)
one_outside wanted depth at (word ∷ words) zero below = refl
one_outside wanted depth at (word ∷ words) (suc k) below =
    let next : suc k + 1 ≡ suc (k + 1) = omega arith in
    one_outside wanted depth at words k (omega arith)
    ∙ ap (λ n. if depth == 0 && wanted (kind_at words k) then Some at
    else option_and_then (λ after. first_outside wanted after (at + 1) (drop n (word ∷ words))) (depth_past depth (kind_at words k))) (sym next)

-- no word is left
pub none_outside : (wanted : WordKind → Bool) (depth at : ℕ) (words : List Word) (k : ℕ) → length words ≤ k
    → first_outside wanted depth at (drop k words) ≡ None
unfolding first_outside
none_outside wanted depth at words k past = ap (first_outside wanted depth at) (drop_all k words past)

-- there is no word past the end
pub kind_past : (words : List Word) (k : ℕ) → length words ≤ k → kind_at words k ≡ kind.Strange
kind_past words k past = ap kind_of_word (slice_get_past words k past)

pub bytes_past : (words : List Word) (k : ℕ) → length words ≤ k → bytes_at words k ≡ []
bytes_past words k past = ap bytes_of_word (slice_get_past words k past)

-- what the tests mean
pub symbol_decides : (wanted : Symbol) (word : WordKind) → Decides (is_symbol wanted word) (word ≡ kind.Symbol wanted)
unfolding is_symbol
symbol_decides wanted (kind.Symbol found) =
    (λ yes. ap kind.Symbol (same_true the_type (search rules) found wanted yes), λ same. true_same the_type found wanted (cc))
symbol_decides wanted other = (λ yes. absurd (cc), λ same. absurd (cc))

-- a word that is not wanted there is gone past
pub outside_further : (wanted : WordKind → Bool) (depth at after : ℕ) (words : List Word) → at < length words
    → (depth == 0 && wanted (kind_at words at)) ≡ false → Some after ≡ depth_past depth (kind_at words at)
    → first_outside wanted after (at + 1) (drop (at + 1) words) ≡ first_outside wanted depth at (drop at words)
outside_further wanted depth at after words below not past =
    let rest : Option ℕ → Option ℕ = λ (found : Option ℕ). option_and_then (λ after. first_outside wanted after (at + 1) (drop (at + 1) words)) found in
    sym (one_outside wanted depth at words at below
    ∙ cond-false (depth == 0 && wanted (kind_at words at)) (Some at) (rest (depth_past depth (kind_at words at))) not ∙ ap rest (sym past))

-- one that closes more than is open ends the search
pub outside_ends : (wanted : WordKind → Bool) (depth at : ℕ) (words : List Word) → at < length words
    → (depth == 0 && wanted (kind_at words at)) ≡ false → None ≡ depth_past depth (kind_at words at)
    → None ≡ first_outside wanted depth at (drop at words)
outside_ends wanted depth at words below not past =
    let rest : Option ℕ → Option ℕ = λ (found : Option ℕ). option_and_then (λ after. first_outside wanted after (at + 1) (drop (at + 1) words)) found in
    sym (one_outside wanted depth at words at below
    ∙ cond-false (depth == 0 && wanted (kind_at words at)) (Some at) (rest (depth_past depth (kind_at words at))) not ∙ ap rest (sym past))
