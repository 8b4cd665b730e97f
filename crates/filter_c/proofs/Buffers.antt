-- A zero behind words in a buffer.
use Rattle.std.proofs.Common.{◌≡◌, ◌+◌, ◌<◌, ◌≤◌, ℕ, suc, zero, List, [], ◌∷◌, ◌++◌, length, refl, ap, arith, subst, sym}
use Rattle.std.specs.Prelude.{drop, set, take}

-- the words that fit are put in, and then the byte behind them is cleared
pub end_words : (words old : List ℕ) (n : ℕ) → n ≤ length words → n < length old
    → set (take n words ++ drop n old) n 0 ≡ take n words ++ 0 ∷ drop (n + 1) old
end_words words (b ∷ old) zero few room = refl
end_words words [] zero few room = absurd (omega (arith, room))
end_words (w ∷ words) (b ∷ old) (suc n) few room =
    let behind : suc n + 1 ≡ suc (n + 1) = omega arith in
    subst (λ (k : ℕ). w ∷ set (take n words ++ drop n old) n 0 ≡ w ∷ (take n words ++ 0 ∷ drop k (b ∷ old))) (sym behind)
    (ap (λ (bytes : List ℕ). w ∷ bytes) (end_words words old n (omega (arith, few)) (omega (arith, room))))
end_words [] old (suc n) few room = absurd (omega (arith, few))
end_words (w ∷ words) [] (suc n) few room = absurd (omega (arith, room))
