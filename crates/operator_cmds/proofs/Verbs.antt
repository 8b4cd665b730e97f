-- Words of four bytes with the same number are the same.
use Rattle.std.proofs.Common.{◌≡◌, ℕ, zero, suc, ◌<◌, ◌≤◌, List, [], ◌∷◌, ◌++◌, length, drop, get_or, refl, ap, sym, ◌∙◌, arith}
use Rattle.std.proofs.lemmas.Nat.{le_bytes_4}
use Rattle.std.specs.Int.{from_le_bytes, to_le_bytes, w32}

five : (xs : List ℕ) → 5 ≤ length xs →
    xs ≡ get_or xs 0 0 ∷ get_or xs 1 0 ∷ get_or xs 2 0 ∷ get_or xs 3 0 ∷ get_or xs 4 0 ∷ drop 5 xs
five [] h = absurd (omega arith)
five (a ∷ []) h = absurd (omega arith)
five (a ∷ b ∷ []) h = absurd (omega arith)
five (a ∷ b ∷ c ∷ []) h = absurd (omega arith)
five (a ∷ b ∷ c ∷ d ∷ []) h = absurd (omega arith)
five (a ∷ b ∷ c ∷ d ∷ e ∷ xs) h = refl

abbrev first_four : List ℕ → List ℕ
first_four xs = get_or xs 0 0 ∷ get_or xs 1 0 ∷ get_or xs 2 0 ∷ get_or xs 3 0 ∷ []

four_small : (xs : List ℕ) → ((i : ℕ) → get_or xs i 0 < 256) → (i : ℕ) → get_or (first_four xs) i 0 < 256
four_small xs small zero = small 0
four_small xs small (suc zero) = small 1
four_small xs small (suc (suc zero)) = small 2
four_small xs small (suc (suc (suc zero))) = small 3
four_small xs small (suc (suc (suc (suc i)))) = omega arith

-- a line whose first four bytes have the number of a word, and then a space
pub word_is : (line word : List ℕ) → 5 ≤ length line → length word ≡ 4 → ((i : ℕ) → get_or line i 0 < 256) →
    ((i : ℕ) → get_or word i 0 < 256) → from_le_bytes w32 (first_four line) ≡ from_le_bytes w32 word → get_or line 4 0 ≡ 32 →
    line ≡ word ++ 32 ∷ drop 5 line
word_is line word long four small fits same space =
    let word_four = sym (le_bytes_4 (first_four line) _ refl (four_small line small) refl) ∙ ap (λ n. to_le_bytes w32 n) same
    ∙ le_bytes_4 word _ four fits refl in
    five line long ∙ ap (λ x. first_four line ++ x ∷ drop 5 line) space ∙ ap (λ w. w ++ 32 ∷ drop 5 line) word_four
