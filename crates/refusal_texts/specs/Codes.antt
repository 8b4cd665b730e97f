-- Which codes are explained, and how the explanation of a code begins. (This project's own choice.)
use Rattle.std.specs.Prelude.{◌≡◌, ◌==◌, ◌++◌, ℕ, Bool, true, false, List, [], ◌∷◌, MatchOption, Option, codes, map}
use Rattle.std.specs.Borrow.{Bor}
use Rattle.std.specs.List.{list_all, list_any, starts_with}
use Rattle.std.specs.Str.{bytes_eq}
use Rattle.refusal_texts.specs.declared.page.Page.{Page}

-- of a text that is no filter, of names and kinds, and of code that is too long
abbrev pub text_codes : List (List ℕ)
text_codes =
    codes "P1" ∷ codes "P2" ∷ codes "P3" ∷ codes "P4" ∷ codes "P5" ∷ codes "P6" ∷ codes "P7" ∷ codes "P8" ∷ codes "P9" ∷ codes "P10"
    ∷ codes "P11" ∷ codes "Y1" ∷ codes "Y2" ∷ codes "Y3" ∷ codes "Y4" ∷ codes "Y5" ∷ codes "Y6" ∷ codes "Y7" ∷ codes "G1" ∷ codes "G2"
    ∷ codes "G3" ∷ []

-- of code that is refused, or goes wrong, and of bytes that are no code file
abbrev pub code_codes : List (List ℕ)
code_codes =
    codes "V1" ∷ codes "V2" ∷ codes "V3" ∷ codes "V4" ∷ codes "V5" ∷ codes "V6" ∷ codes "V7" ∷ codes "V8" ∷ codes "V9" ∷ codes "V10"
    ∷ codes "K1" ∷ codes "K2" ∷ codes "K3" ∷ codes "K4" ∷ codes "K5" ∷ codes "K6" ∷ codes "K7" ∷ codes "C1" ∷ codes "C2" ∷ codes "C3"
    ∷ codes "C4" ∷ codes "C5" ∷ codes "C6" ∷ codes "C7" ∷ codes "C8" ∷ []

-- of a run: its lines, its streams and memory, its router, its threads, its domain and its history
abbrev pub run_codes : List (List ℕ)
run_codes =
    codes "O1" ∷ codes "O2" ∷ codes "O3" ∷ codes "O4" ∷ codes "O5" ∷ codes "O6" ∷ codes "O7" ∷ codes "O8" ∷ codes "O9" ∷ codes "O10" ∷ codes "O11"
    ∷ codes "O12" ∷ codes "O13"
    ∷ codes "E1" ∷ codes "E2" ∷ codes "E3" ∷ codes "E4" ∷ codes "N1" ∷ codes "N2" ∷ codes "N3" ∷ codes "N4" ∷ codes "N5" ∷ codes "N6" ∷ codes "N7"
    ∷ codes "J1" ∷ codes "J2" ∷ codes "L1" ∷ codes "L2" ∷ codes "L3" ∷ codes "X1" ∷ codes "X2" ∷ codes "D1" ∷ codes "D2" ∷ codes "D3"
    ∷ codes "D4" ∷ codes "H1" ∷ codes "H2" ∷ codes "H3" ∷ []

-- of warnings
abbrev pub lint_codes : List (List ℕ)
lint_codes = codes "W1" ∷ codes "W2" ∷ codes "W3" ∷ codes "W4" ∷ codes "W5" ∷ codes "W6" ∷ codes "W7" ∷ codes "W8" ∷ codes "W9" ∷ []

-- all of them
unfoldable pub all_codes : List (List ℕ)
all_codes = text_codes ++ (code_codes ++ (run_codes ++ lint_codes))

-- a word is one of these
abbrev pub is_among : List (List ℕ) → List ℕ → Bool
is_among known word = list_any (λ code. bytes_eq code word) known

-- how what is said of a code begins
abbrev pub head_of : List ℕ → List ℕ
head_of code = code ++ codes ": "

abbrev pub begins_with : List ℕ → List ℕ → Bool
begins_with head text = starts_with (λ a b. a == b) text head

-- these are the pages of these codes, in order
pub record ArePages (known : List (List ℕ)) (pages : List Page) : Type 0 where
  pub coded : map (λ page. page.code.now) pages ≡ known
  pub headed : list_all (λ page. begins_with (head_of page.code.now) page.text.now) pages ≡ true

-- what is said of a word, if it is one of these codes
abbrev pub IsSaidOf : List (List ℕ) → List ℕ → Option (Bor (List ℕ)) → Type 0
IsSaidOf known word said = MatchOption said (is_among known word ≡ false)
    (λ text. (is_among known word ≡ true) × (begins_with (head_of word) text.now ≡ true))
