-- The words of a command after the first, and what follows a word. (This project's own choice.)
use Rattle.std.specs.Prelude.{ℕ, List, [], ◌∷◌, length, drop, Option, Some, None}
use Rattle.line_protocol.specs.Words.{words, without_front_blanks}

-- the word of a list of just one, the two words of a list of just two, and the three of a list of just three
abbrev pub one_of : {X : Type 0} → List X → Option X
one_of [] = None
one_of (a ∷ []) = Some a
one_of (a ∷ (b ∷ more)) = None

abbrev pub two_of : {X : Type 0} → List X → Option (X × X)
two_of [] = None
two_of (a ∷ []) = None
two_of (a ∷ (b ∷ [])) = Some (a, b)
two_of (a ∷ (b ∷ (c ∷ more))) = None

abbrev pub three_of : {X : Type 0} → List X → Option (X × X × X)
three_of [] = None
three_of (a ∷ []) = None
three_of (a ∷ (b ∷ [])) = None
three_of (a ∷ (b ∷ (c ∷ []))) = Some (a, b, c)
three_of (a ∷ (b ∷ (c ∷ (d ∷ more)))) = None

-- the number of bytes of the first word
abbrev pub first_length : List (List ℕ) → ℕ
first_length [] = 0
first_length (word ∷ others) = length word

-- what follows the first word of a line
abbrev pub after_word : List ℕ → List ℕ
after_word line = drop (first_length (words line)) (without_front_blanks line)
