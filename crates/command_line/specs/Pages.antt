-- What `explain` says of a word. (This project's own choice.)
use Rattle.std.specs.Prelude.{◌≡◌, ◌++◌, ℕ, List, [], ◌∷◌, Option, Some, None, IsSomeAnd, codes, if◌then◌else◌, map, true, unwrap_or}
use Rattle.std.specs.Char.{to_ascii_uppercase}
use Rattle.clap.specs.Words.{Row}
use Rattle.program_words.specs.Given.{word_of}
use Rattle.refusal_texts.specs.Codes.{all_codes, begins_with, head_of, is_among}

-- the letters of codes, in the order in which a filter, a script and a run meet them
abbrev pub letters : List (List ℕ)
letters =
    codes "P" ∷ codes "Y" ∷ codes "G" ∷ codes "V" ∷ codes "W" ∷ codes "C" ∷ codes "K" ∷ codes "O" ∷ codes "N" ∷ codes "D" ∷ codes "J"
    ∷ codes "H" ∷ codes "E" ∷ codes "L" ∷ codes "X" ∷ []

-- the line of a letter, and how it begins
abbrev pub letter_head : List ℕ → List ℕ
letter_head letter = codes "  " ++ (letter ++ codes "  ")

abbrev pub letter_line : List ℕ → List ℕ → List ℕ
letter_line letter meaning = letter_head letter ++ (meaning ++ codes "\n")

-- how what is said of a word in capitals begins, if anything is: it is a code or a letter
abbrev pub head_in_capitals : List ℕ → Option (List ℕ)
head_in_capitals word =
    if is_among all_codes word then Some (head_of word) else if is_among letters word then Some (letter_head word) else None

-- the same of any word; of none it is said which letters there are
abbrev pub page_head : List ℕ → Option (List ℕ)
page_head [] = Some []
page_head (first ∷ others) = head_in_capitals (map to_ascii_uppercase (first ∷ others))

-- this is a page that is said of the word
abbrev pub IsPage : List ℕ → List ℕ → Type 0
IsPage word page = IsSomeAnd (page_head word) (λ head. begins_with head page ≡ true)

-- the word behind `explain`
abbrev pub explained : List Row → List ℕ
explained given = unwrap_or (word_of (codes "code") given) []
