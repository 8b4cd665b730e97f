-- Lines in the usual spelling: words that are parted by one space each.
use Rattle.std.proofs.Common.{◌≡◌, ℕ, ◌≤◌, Bool, false, List, [], ◌∷◌, ◌++◌, length, All, Option}
use Rattle.std.proofs.Common.{Some, None, Ok, refl, sym, ap, subst, ◌∙◌, arith, append-nil}
use Rattle.std.proofs.lemmas.Bool.Decides.{nat_tests}
use Rattle.std.proofs.lemmas.List.{nil_from_length}
use Rattle.std.proofs.lemmas.List.Elements.{All-weaker}
use Rattle.filter_code.specs.RouteView.{IsWithinLimits, RouteView}
use Rattle.line_protocol.proofs.WordLemmas.{words-next, words-only}
use Rattle.line_protocol.specs.Limits.{line_limit, number_limit}
use Rattle.line_protocol.specs.Words.{is_blank, words}
use Rattle.prefix_patterns.proofs.LeadingTokens.{BeginsWithNumber}
use Rattle.prefix_patterns.proofs.TokenBytes.{IsFromDot, digits_bytes, prefix_bytes, prefix_some}
use Rattle.prefix_patterns.specs.Leading.{BeginsWith, BeginsWithDigit, IsUsualNumber, IsUsualPrefix}
use Rattle.prefix_patterns.specs.Token.{IsPrefix}
use Rattle.prefix_patterns.proofs.Numbers.{number_in-some}
use Rattle.prefix_patterns.proofs.Tokens.{prefix_in-only}
use Rattle.prefix_patterns.specs.Number.{decimal_value}
use Rattle.prefix_patterns.specs.Reading.{number_in}
use Rattle.route_answers.specs.RouteLine.{BeginsWithSize, IsUsualEnd, IsUsualLine, parts_in, route_in, route_of_words}
use Rattle.route_answers.proofs.RouteLines.{read_within, within_limits}

no_blank : (byte : ℕ) → IsFromDot byte → is_blank byte ≡ false
no_blank byte high = grind (arith, nat_tests)

no_blanks : (text : List ℕ) → All IsFromDot text → All (λ byte. is_blank byte ≡ false) text
no_blanks text each = All-weaker IsFromDot (λ byte. is_blank byte ≡ false) no_blank text each

-- the space that ends a word
abbrev space : ℕ
space = 32

-- the words of a prefix and of what follows the space after it
pub words_after_prefix : (text behind rest : List ℕ) (bits : List Bool) (found : BeginsWith (λ token. IsPrefix token bits) text behind)
    → behind ≡ space ∷ rest → words text ≡ found.token ∷ words rest
words_after_prefix text behind rest bits found cut =
    ap words (found.spelled ∙ ap (λ t. found.token ++ t) cut)
    ∙ words-next is_blank found.token rest space (no_blanks found.token (prefix_bytes found.token bits found.wanted))
    (prefix_some found.token bits found.wanted) refl

-- the same after a number
pub words_after_number : (text behind rest : List ℕ) (value : ℕ) (found : BeginsWithNumber text value behind)
    → behind ≡ space ∷ rest → words text ≡ found.token ∷ words rest
words_after_number text behind rest value found cut =
    ap words (found.spelled ∙ ap (λ t. found.token ++ t) cut)
    ∙ words-next is_blank found.token rest space (no_blanks found.token (digits_bytes found.token found.wanted.0))
    found.wanted.0.some refl

-- a number that nothing follows is the one word
pub words_of_number : (text rest : List ℕ) (value : ℕ) (found : BeginsWithNumber text value rest)
    → length rest ≡ 0 → words text ≡ found.token ∷ []
words_of_number text rest value found empty =
    ap words (found.spelled ∙ ap (λ t. found.token ++ t) (nil_from_length rest empty) ∙ append-nil found.token)
    ∙ words-only is_blank found.token (no_blanks found.token (digits_bytes found.token found.wanted.0)) found.wanted.0.some

-- the number of such a token
read_token : (text rest : List ℕ) (value : ℕ) (found : BeginsWithNumber text value rest) → value ≤ 999
    → number_in number_limit found.token ≡ Some value
read_token text rest value found low =
    let v = found.wanted.1 in
    number_in-some number_limit found.token (found.wanted.0, omega (arith, v, low)) ∙ ap Some (sym v)

-- the parts of a line in the usual spelling
plain_parts : (given : Option ℕ) (line behind_prefix second behind_metric rest : List ℕ) (bits : List Bool) (metric size : ℕ)
    → (net : BeginsWith (λ token. IsPrefix token bits) line behind_prefix) → behind_prefix ≡ space ∷ second
    → (number : BeginsWithNumber second metric behind_metric) → BeginsWithSize given behind_metric size rest → length rest ≡ 0
    → parts_in (words line) given ≡ Some (net.token, number.token, Some size)
plain_parts None line behind_prefix second behind_metric rest bits metric size net cut number (third, cut', last, low) empty =
    let made : Option ℕ → Option (List ℕ × List ℕ × Option ℕ) = λ s. Some (net.token, number.token, s) in
    ap (λ (all : List (List ℕ)). parts_in all None) (words_after_prefix line behind_prefix second bits net cut
    ∙ ap (λ l. net.token ∷ l) (words_after_number second behind_metric third metric number cut'
    ∙ ap (λ l. number.token ∷ l) (words_of_number third rest size last empty)))
    ∙ ap made (read_token third rest size last low)
plain_parts (Some given) line behind_prefix second behind_metric rest bits metric size net cut number (is, same) empty =
    let made : ℕ → Option (List ℕ × List ℕ × Option ℕ) = λ n. Some (net.token, number.token, Some n) in
    ap (λ (all : List (List ℕ)). parts_in all (Some given)) (words_after_prefix line behind_prefix second bits net cut
    ∙ ap (λ l. net.token ∷ l) (words_of_number second behind_metric metric number (ap length (sym same) ∙ empty)))
    ∙ ap made (sym is)

-- a line in the usual spelling gives its route
pub plain_line : (given : Option ℕ) (line behind_prefix second behind_metric rest : List ℕ) (bits : List Bool) (metric size : ℕ)
    → length line ≤ line_limit
    → BeginsWith (λ token. IsPrefix token bits) line behind_prefix → behind_prefix ≡ space ∷ second
    → BeginsWithNumber second metric behind_metric → metric ≤ 999 → BeginsWithSize given behind_metric size rest → length rest ≡ 0
    → IsWithinLimits metric size → (route : RouteView) → route ≡ record { net = bits; metric = metric; size = size }
    → route_in given line ≡ Ok route
plain_line given line behind_prefix second behind_metric rest bits metric size within net cut number low behind empty limits route e =
    let m = read_token second behind_metric metric number low in
    read_within given line within
    ∙ ap route_of_words (plain_parts given line behind_prefix second behind_metric rest bits metric size net cut number behind empty)
    ∙ rw (prefix_in-only net.token bits net.wanted, m, within_limits metric size limits, e) refl

-- ---- lines in the usual spelling are read

-- a space is no digit
pub space_ends : (rest : List ℕ) → BeginsWithDigit (space ∷ rest) → ⊥
space_ends rest digit = omega (arith, digit)

pub nothing_ends : BeginsWithDigit [] → ⊥
nothing_ends digit = digit

-- no digit follows the metric
pub end_ends : (given : Option ℕ) (end : List ℕ) (size : ℕ) → IsUsualEnd given end size → BeginsWithDigit end → ⊥
end_ends (Some given) end size (none, is) digit = nothing_ends (subst BeginsWithDigit none digit)
end_ends None end size (digits, cut, number, is) digit = space_ends digits (subst BeginsWithDigit cut digit)

-- such a line begins with its prefix, and what follows the space with its metric
abbrev pub usual_prefix : (given : Option ℕ) (line : List ℕ) (usual : IsUsualLine given line)
    → BeginsWith IsUsualPrefix line (space ∷ (usual.metric ++ usual.end))
usual_prefix given line usual = record { token = usual.prefix; wanted = usual.is_prefix; spelled = usual.spelled }

abbrev pub usual_metric : (given : Option ℕ) (line text : List ℕ) (usual : IsUsualLine given line) → text ≡ usual.metric ++ usual.end
    → BeginsWith IsUsualNumber text usual.end
usual_metric given line text usual is = record { token = usual.metric; wanted = usual.is_metric; spelled = is }

-- the size, which nothing follows
abbrev pub usual_size : (digits text : List ℕ) → IsUsualNumber digits → text ≡ digits → BeginsWith IsUsualNumber text []
usual_size digits text number is = record { token = digits; wanted = number; spelled = is ∙ sym (append-nil digits) }

-- what stands behind a space, where no size is given
pub size_behind : (given : Option ℕ) (text rest : List ℕ) (size : ℕ) → given ≡ None → text ≡ space ∷ rest → IsUsualEnd given text size
    → (digits : List ℕ) × (rest ≡ digits) × IsUsualNumber digits × (size ≡ decimal_value digits)
size_behind None text rest size none found (digits, cut, number, is) = let e : rest ≡ digits = cc in (digits, e, number, is)
size_behind (Some given) text rest size none found usual = cc
