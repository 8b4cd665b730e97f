-- What stands before a code that is behind some words.
use Rattle.std.proofs.Common.{◌≡◌, ℕ, ◌+◌, ◌-◌, List, [], ◌∷◌, ◌++◌, codes, length, take, ap, sym, subst, ◌∙◌, append_assoc, arith, length-append}
use Rattle.std.proofs.Math.Seq.{take-append_seam}
use Rattle.refusal_words.specs.Explanations.{coded}

front : (plain rest : List ℕ) (n : ℕ) → n ≡ length plain → take n (plain ++ rest) ≡ plain
front plain rest n is = subst (λ (m : ℕ). take m (plain ++ rest) ≡ plain) (sym is) (take-append_seam plain rest)

-- the bracket, the code and the other bracket
rest_length : (code : List ℕ) → length (codes " (" ++ code ++ 41 ∷ []) ≡ length code + 3
rest_length code = omega (arith, length-append code (41 ∷ []))

behind : (plain rest words : List ℕ) (n k : ℕ) → words ≡ plain ++ rest → length rest ≡ k → n ≡ length words - k → take n words ≡ plain
behind plain rest words n k is rest_is size =
    let total : length words ≡ length plain + length rest = ap length is ∙ length-append plain rest in
    let n_is : n ≡ length plain = omega (arith, size, total, rest_is) in
    subst (λ (ws : List ℕ). take n ws ≡ plain) (sym is) (front plain rest n n_is)

shape : (plain code : List ℕ) → coded plain code ≡ plain ++ (codes " (" ++ code ++ 41 ∷ [])
shape plain code =
    ap (λ (l : List ℕ). l ++ 41 ∷ []) (append_assoc plain (codes " (") code) ∙ append_assoc plain (codes " (" ++ code) (41 ∷ [])

pub cut : (plain code words : List ℕ) (n : ℕ) → words ≡ coded plain code → n ≡ length words - (length code + 3) → take n words ≡ plain
cut plain code words n is size =
    behind plain (codes " (" ++ code ++ 41 ∷ []) words n (length code + 3) (is ∙ shape plain code) (rest_length code) size
