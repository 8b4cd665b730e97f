-- Labels that are tested, and words that are replaced, one after another.
use Rattle.std.proofs.Common.{◌≡◌, ℕ, suc, List, [], ◌∷◌, sym, subst, refl}
use Rattle.bird_import.specs.Cases.{AreTests, IsFirstTest, IsOneTest}
use Rattle.bird_import.specs.Sets.{IsFirstReplaced, IsReplaced}
use Rattle.bird_import.specs.declared.word.Word.{Word}

-- the last address or range is tested
pub last_test : (subject label test : List Word) → IsOneTest subject label test → AreTests subject 0 label test
unfolding AreTests
last_test subject label test one = one

-- one more before others
pub more_tests : (subject label test others tests : List Word) (n : ℕ) → IsFirstTest subject label test others tests
    → AreTests subject n others tests → AreTests subject (suc n) label test
unfolding AreTests
more_tests subject label test others tests n first more = (others, tests, first, more)

-- no word is left
pub none_replaced : (name : List ℕ) (set : List Word) → IsReplaced name set [] []
unfolding IsReplaced
none_replaced name set = refl

-- one more word
more_replaced_by : (name : List ℕ) (set words written : List Word) (word : Word) (later others : List Word)
    → IsFirstReplaced name set (word ∷ later) written later others → IsReplaced name set later others
    → IsReplaced name set (word ∷ later) written
unfolding IsReplaced
more_replaced_by name set words written word later others first more = (others, first, more)

pub more_replaced : (name : List ℕ) (set words written later others : List Word) → IsFirstReplaced name set words written later others
    → IsReplaced name set later others → IsReplaced name set words written
more_replaced name set words written later others first more =
    let whole = first.whole in
    let at : IsFirstReplaced name set (first.word ∷ later) written later others =
    subst (λ list. IsFirstReplaced name set list written later others) whole first in
    subst (λ list. IsReplaced name set list written) (sym whole) (more_replaced_by name set words written first.word later others at more)

-- so no word is left of both
pub both_empty : (name : List ℕ) (set words written : List Word) → words ≡ [] → written ≡ [] → IsReplaced name set words written
both_empty name set words written none nothing =
    subst (λ list. IsReplaced name set list written) (sym none)
    (subst (λ list. IsReplaced name set [] list) (sym nothing) (none_replaced name set))
