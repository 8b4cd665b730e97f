-- Worked rows: the text of some words, where they stand, and where a byte of the text comes from.
use Rattle.std.proofs.Common.{◌≡◌, ℕ, List, [], ◌∷◌, ◌++◌, Some, None, codes, refl}
use Rattle.filter_tokens.specs.Shapes.{line_feed}
use Rattle.bird_import.specs.Laying.{origin_of, origins_behind, origins_of, text_behind, text_of}
use Rattle.bird_import.specs.declared.text.Origin.{Origin}
use Rattle.bird_import.specs.declared.word.Word.{Word}
use Rattle.bird_import.specs.declared.word.WordKind.TheVariants as kind

abbrev word : List ℕ → List ℕ → ℕ → Word
word gap bytes at =
    record { kind = kind.Name; bytes = record { ref_ptr = (0, 0); now = bytes }; at = at; gap = record { ref_ptr = (0, 0); now = gap } }

abbrev origin : ℕ → ℕ → Origin
origin from at = record { from = from; at = at }

-- the first word has its comment without the space in front, the second one stood apart from it, and the third needs no space
unfoldable apart : List Word
apart = word (codes "  /* a */ ") (codes "f") 30 ∷ word [] (codes "x") 40 ∷ word [] (codes ")") 50 ∷ []

laid_apart : text_of (codes "# h") apart ≡ codes "# h/* a */ f x)" ++ line_feed ∷ []
unfolding apart text_behind
laid_apart = refl

origins_apart : origins_of (codes "# h") apart ≡ origin 11 30 ∷ origin 13 40 ∷ origin 14 50 ∷ []
unfolding apart origins_behind
origins_apart = refl

-- the second word stood right behind the first one, and the third has its own gap
unfoldable joined : List Word
joined = word [] (codes "a") 7 ∷ word [] (codes "=") 8 ∷ word (codes "  ") (codes "1") 11 ∷ []

laid_joined : text_of [] joined ≡ codes "a=  1" ++ line_feed ∷ []
unfolding joined text_behind
laid_joined = refl

-- a byte comes from the last word that begins there or before it
before_all : origin_of (origin 11 30 ∷ origin 13 40 ∷ origin 14 50 ∷ []) 10 ≡ None
before_all = refl

within : origin_of (origin 11 30 ∷ origin 13 40 ∷ origin 14 50 ∷ []) 12 ≡ Some 30
within = refl

first_byte : origin_of (origin 11 30 ∷ origin 13 40 ∷ origin 14 50 ∷ []) 13 ≡ Some 40
first_byte = refl
