-- Warnings that are allowed, and so not told: by their codes, or by a comment of the line that they are said of. (This project's own choice.)
use Rattle.std.specs.Prelude.{ℕ, Bool, false, not, ◌||◌, ◌&&◌, List, [], ◌∷◌, Option, Some, None, String, codes, drop, filter}
use Rattle.std.specs.Prelude.{if◌then◌else◌, string_bytes}
use Rattle.std.specs.List.{list_all, list_any}
use Rattle.std.specs.Option.{option_map_or}
use Rattle.std.specs.Str.{bytes_eq}
use Rattle.std.specs.Str.Lines.{strip_carriage_return}
use Rattle.std.specs.declared.alloc.Global.{Global}
use Rattle.refusal_words.specs.Places.{before_first_feed}
use Rattle.line_protocol.specs.Words.{words}
use Rattle.prefix_patterns.specs.Reading.{◌>>=◌}
use Rattle.filter_lint.specs.WarningLines.{code_of}
use Rattle.filter_lint.specs.declared.host_bits.HostBits.{HostBits}
use Rattle.filter_lint.specs.declared.warning.Warning.{Warning}

-- the codes of warnings
unfoldable pub all_codes : List (List ℕ)
all_codes = codes "W1" ∷ codes "W2" ∷ codes "W3" ∷ codes "W4" ∷ codes "W5" ∷ codes "W6" ∷ codes "W7" ∷ codes "W8" ∷ codes "W9" ∷ []

-- a word is among some
abbrev pub is_among : List (List ℕ) → List ℕ → Bool
is_among words word = list_any (λ other. bytes_eq other word) words

-- the words behind this one, if it is the first
abbrev pub behind : List ℕ → List (List ℕ) → Option (List (List ℕ))
behind word [] = None
behind word (first ∷ others) = if bytes_eq first word then Some others else None

-- what stands behind `# lint: allow`
unfoldable pub behind_allow : List (List ℕ) → Option (List (List ℕ))
behind_allow ws = do
  of_sign ← behind (codes "#") ws
  of_lint ← behind (codes "lint:") of_sign
  behind (codes "allow") of_lint

-- words are a comment that allows a code: behind `# lint: allow` stand codes alone, and this one is among them
abbrev pub is_comment : List (List ℕ) → List ℕ → Bool
is_comment ws code = option_map_or (λ allowed. list_all (is_among all_codes) allowed && is_among allowed code) (behind_allow ws) false

-- Words end with such a comment. No quoted text does: the sign that closes it is in no code.
abbrev pub ends_with_comment : List (List ℕ) → List ℕ → Bool
ends_with_comment [] code = false
ends_with_comment (word ∷ others) code = is_comment (word ∷ others) code || ends_with_comment others code

-- the line that a byte of a text is in, from the byte on
abbrev pub rest_of_line : List ℕ → ℕ → List ℕ
rest_of_line text byte = strip_carriage_return (before_first_feed (drop byte text))

-- a code is among those that are allowed
abbrev pub is_named : List (String Global) → List ℕ → Bool
is_named allowed code = list_any (λ word. bytes_eq (string_bytes word) code) allowed

-- what is said of a byte of a text by the rule of a code is allowed, where these codes are
abbrev pub is_allowed : List (String Global) → List ℕ → ℕ → List ℕ → Bool
is_allowed allowed text byte code = is_named allowed code || ends_with_comment (words (rest_of_line text byte)) code

-- the warnings that are told: all that are not allowed, and no others
abbrev pub is_shown : List (String Global) → List ℕ → Warning → Bool
is_shown allowed text warning = not (is_allowed allowed text warning.byte (code_of warning.cause))

abbrev pub shown_of : List (String Global) → List ℕ → List Warning → List Warning
shown_of allowed text warnings = filter (is_shown allowed text) warnings

-- the same of prefixes with host bits
abbrev pub are_shown : List (String Global) → List ℕ → HostBits → Bool
are_shown allowed text found = not (is_allowed allowed text found.token.from (codes "W5"))

abbrev pub shown_host_bits : List (String Global) → List ℕ → List HostBits → List HostBits
shown_host_bits allowed text all = filter (are_shown allowed text) all
