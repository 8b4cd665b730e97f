-- The text that is written for the words of a filter, and where in the configuration its words stand. (This project's own choice.)
use Rattle.std.specs.Prelude.{ℕ, ◌+◌, ◌&&◌, ◌||◌, ◌==◌, not, if◌then◌else◌, nat_le, Bool, List, []}
use Rattle.std.specs.Prelude.{◌∷◌, ◌++◌, codes, drop, filter, length, map, Option, Some, None}
use Rattle.std.specs.Char.{is_ascii_whitespace}
use Rattle.std.specs.List.{last_or, prefix_len}
use Rattle.std.specs.Str.{bytes_eq}
use Rattle.filter_tokens.specs.Shapes.{line_feed}
use Rattle.bird_import.specs.declared.text.Origin.{Origin}
use Rattle.bird_import.specs.declared.word.Word.{Word}

-- space and comments without the space in front
abbrev pub without_front : List ℕ → List ℕ
without_front gap = drop (prefix_len is_ascii_whitespace gap) gap

-- a word stands right behind another in the configuration
abbrev pub is_joined : Word → Word → Bool
is_joined last word = last.at + length last.bytes.now == word.at

-- a word needs no space before it: `;`, `)` and `,`
abbrev pub is_tight : Word → Bool
is_tight word = bytes_eq word.bytes.now (codes ";") || bytes_eq word.bytes.now (codes ")") || bytes_eq word.bytes.now (codes ",")

-- what is written before a word: before the first one its comments, without the space in front; before each other its gap, and where that is empty one
-- space, unless the word stood right behind the last one or needs none
abbrev pub gap_before : Option Word → Word → List ℕ
gap_before None word = without_front word.gap.now
gap_before (Some last) word =
    if length word.gap.now == 0 && not (is_joined last word) && not (is_tight word) then codes " " else word.gap.now

-- what is written for words that are behind a last one, or are the first
unfoldable pub text_behind : Option Word → List Word → List ℕ
text_behind last [] = []
text_behind last (word ∷ words) = gap_before last word ++ word.bytes.now ++ text_behind (Some word) words

-- where each of them begins, if so many bytes are written before them, and where it stands in the configuration
unfoldable pub origins_behind : ℕ → Option Word → List Word → List Origin
origins_behind from last [] = []
origins_behind from last (word ∷ words) =
    record { from = from + length (gap_before last word); at = word.at }
    ∷ origins_behind (from + length (gap_before last word) + length word.bytes.now) (Some word) words

-- the text of a filter: its head, its words and a line feed
abbrev pub text_of : List ℕ → List Word → List ℕ
text_of head words = head ++ text_behind None words ++ line_feed ∷ []

-- where its words come from
abbrev pub origins_of : List ℕ → List Word → List Origin
origins_of head words = origins_behind (length head) None words

-- where in the configuration the last word stands that begins at a byte of the text or before it, if there is one
abbrev pub origin_of : List Origin → ℕ → Option ℕ
origin_of origins byte = last_or None (map (λ origin. origin.at) (filter (λ origin. nat_le origin.from byte) origins))
