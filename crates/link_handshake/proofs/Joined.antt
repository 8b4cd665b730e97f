-- Parts of a line that are added one after another.
use Rattle.std.proofs.Common.{◌≡◌, ℕ, List, [], ◌∷◌, ◌++◌, ◌∙◌, ap, append_assoc}

-- a part and a space behind a text, and what follows
pub spaced_on : (text part rest : List ℕ) → (text ++ (part ++ 32 ∷ [])) ++ rest ≡ text ++ (part ++ 32 ∷ rest)
spaced_on text part rest = append_assoc text (part ++ 32 ∷ []) rest ∙ ap (λ l. text ++ l) (append_assoc part (32 ∷ []) rest)

pub place_joined : (text head a b : List ℕ) →
    ((text ++ head) ++ (a ++ 32 ∷ [])) ++ (b ++ 32 ∷ []) ≡ text ++ (head ++ (a ++ 32 ∷ (b ++ 32 ∷ [])))
place_joined text head a b = spaced_on (text ++ head) a (b ++ 32 ∷ []) ∙ append_assoc text head (a ++ 32 ∷ (b ++ 32 ∷ []))

pub attempt_joined : (text a b d : List ℕ) → ((text ++ (a ++ 32 ∷ [])) ++ (b ++ 32 ∷ [])) ++ d ≡ text ++ (a ++ 32 ∷ (b ++ 32 ∷ d))
attempt_joined text a b d = spaced_on (text ++ (a ++ 32 ∷ [])) b d ∙ spaced_on text a (b ++ 32 ∷ d)

-- the same, and what follows it
pub attempt_on : (text a b d rest : List ℕ) → (text ++ (a ++ 32 ∷ (b ++ 32 ∷ d))) ++ rest ≡ text ++ (a ++ 32 ∷ (b ++ 32 ∷ (d ++ rest)))
attempt_on text a b d rest =
    append_assoc text (a ++ 32 ∷ (b ++ 32 ∷ d)) rest
    ∙ ap (λ l. text ++ l) (append_assoc a (32 ∷ (b ++ 32 ∷ d)) rest ∙ ap (λ l. a ++ 32 ∷ l) (append_assoc b (32 ∷ d) rest))

place_on : (head a b rest : List ℕ) → (head ++ (a ++ 32 ∷ (b ++ 32 ∷ []))) ++ rest ≡ head ++ (a ++ 32 ∷ (b ++ 32 ∷ rest))
place_on head a b rest =
    append_assoc head (a ++ 32 ∷ (b ++ 32 ∷ [])) rest
    ∙ ap (λ l. head ++ l) (append_assoc a (32 ∷ (b ++ 32 ∷ [])) rest ∙ ap (λ l. a ++ 32 ∷ l) (append_assoc b (32 ∷ []) rest))

pub line_joined : (text head a b rest : List ℕ) →
    ((text ++ (head ++ (a ++ 32 ∷ (b ++ 32 ∷ [])))) ++ rest) ++ 10 ∷ [] ≡ text ++ ((head ++ (a ++ 32 ∷ (b ++ 32 ∷ rest))) ++ 10 ∷ [])
line_joined text head a b rest =
    ap (λ l. l ++ 10 ∷ []) (append_assoc text (head ++ (a ++ 32 ∷ (b ++ 32 ∷ []))) rest ∙ ap (λ l. text ++ l) (place_on head a b rest))
    ∙ append_assoc text (head ++ (a ++ 32 ∷ (b ++ 32 ∷ rest))) (10 ∷ [])
