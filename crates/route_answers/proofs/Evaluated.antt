-- What `check` prints of a code is evaluated by `eval` as that code.
use Rattle.std.proofs.Common.{◌≡◌, ◌≤◌, ℕ, ◌-◌, ◌==◌, Bool, false, not, List, [], ◌∷◌, ◌++◌, Result, length}
use Rattle.std.proofs.Common.{map, take, drop, filter, if◌then◌else◌, inr, refl, sym, subst, ap, ◌∙◌, arith}
use Rattle.std.proofs.lemmas.List.{length-take}
use Rattle.prefix_patterns.specs.Bits.{address_bits}
use Rattle.prefix_patterns.specs.Number.{decimal_value}
use Rattle.std.specs.Str.Lines.{lines, strip_carriage_return}
use Rattle.hex.specs.Hex.{encode_lower, encode_with}
use Rattle.code_file.specs.Spelling.{IsCode, spelling}
use Rattle.filter_code.specs.CodeView.{CodeView}
use Rattle.filter_code.specs.Machine.{outcome_of}
use Rattle.filter_code.specs.RouteView.{RouteView}
use Rattle.filter_compiler.specs.Verdicts.{meaning}
use Rattle.filter_syntax.specs.SyntaxText.{FilterView}
use Rattle.filter_source.specs.declared.refusal.Refusal.{Refusal}
use Rattle.filter_verifier.specs.Safe.{IsRouteOf}
use Rattle.line_protocol.proofs.LineLemmas.{lines-append, lines-one, open_text}
use Rattle.line_protocol.specs.Lines.{answerable_from, is_line_feed, is_skipped}
use Rattle.line_protocol.specs.declared.answers.LineReply.TheVariants as reply
use Rattle.prefix_patterns.specs.Token.{IsPrefix}
use Rattle.filter_reports.proofs.Printed.{none_in}
use Rattle.filter_reports.proofs.TextFiles.{text_has_file}
use Rattle.filter_reports.proofs.TextLines.{text_fits}
use Rattle.route_answers.proofs.PrintedLines.{line_again}
use Rattle.route_answers.proofs.RouteLines.{read_route}
use Rattle.filter_reports.specs.Check.{FitsLine, GivesCode, printed}
use Rattle.route_answers.specs.Eval.{all_answers, answer_of, answers_after, eval_answers, route_answer, verdict}
use Rattle.route_answers.specs.RouteLine.{IsRouteLine}
use Rattle.filter_reports.specs.Saying.{Says, SaysTheSame}

-- digits have no carriage return at their end
no_return : (bytes : List ℕ) → strip_carriage_return (encode_lower bytes) ≡ encode_lower bytes
no_return bytes =
    let text = encode_lower bytes in
    ap (λ (b : Bool). if b then take (length text - 1) text else text)
    (none_in (λ x. x == 13) refl refl bytes (length text - 1))

-- the digits of a code's file are a line that is answered
first_byte : (program : CodeView) → spelling program ≡ 78 ∷ drop 1 (spelling program)
first_byte program = refl

answered : (bytes : List ℕ) (b : ℕ) (rest : List ℕ) → bytes ≡ b ∷ rest → is_skipped (encode_lower bytes) ≡ false
unfolding encode_with
answered bytes b rest e =
    ap (λ (all : List ℕ). is_skipped (encode_lower all)) e ∙ none_in (λ x. x == 35) refl refl (b ∷ rest) 0

-- the lines of the printed code and of what follows it
printed_lines : (bytes routes : List ℕ) → lines ((encode_lower bytes ++ 10 ∷ []) ++ routes) ≡ encode_lower bytes ∷ lines routes
printed_lines bytes routes =
    let text = encode_lower bytes in
    let one : lines (text ++ 10 ∷ []) ≡ text ∷ [] =
    lines-one text (open_text text (λ k from below. none_in is_line_feed refl refl bytes k))
    ∙ ap (λ (line : List ℕ). line ∷ []) (no_return bytes)
    in
    lines-append (text ++ 10 ∷ []) routes (inr (text, refl)) ∙ ap (λ (all : List (List ℕ)). all ++ lines routes) one

-- each line after the printed code is answered as a route under that code
pub evaluated : (program : CodeView) (routes : List ℕ) → FitsLine program → IsCode program
    → eval_answers (printed program ++ routes) ≡ map (route_answer program) (answerable_from 2 (lines routes))
evaluated program routes few h =
    let text = encode_lower (spelling program) in
    let shown : is_skipped text ≡ false = answered (spelling program) 78 (drop 1 (spelling program)) (first_byte program) in
    let first : answerable_from 1 (text ∷ lines routes) ≡ (1, text) ∷ answerable_from 2 (lines routes) =
    ap (λ (b : Bool). if not b then (1, text) ∷ answerable_from 2 (lines routes) else answerable_from 2 (lines routes)) shown
    in
    ap (λ (all : List (List ℕ)). all_answers (answerable_from 1 all)) (printed_lines (spelling program) routes)
    ∙ ap all_answers first
    ∙ ap (λ (read : Result CodeView Refusal). answers_after 1 read (answerable_from 2 (lines routes))) (line_again program few h)

-- that of a text always is
pub text_evaluated : (text : List ℕ) (program : CodeView) (routes : List ℕ) → GivesCode false text program
    → eval_answers (printed program ++ routes) ≡ map (route_answer program) (answerable_from 2 (lines routes))
text_evaluated text program routes gives =
    let translates = gives.1.1 in
    evaluated program routes (text_fits text gives.1.0 program translates) (text_has_file text gives.1.0 program translates)

-- a prefix has at most 32 bits
pub short_prefix : (text : List ℕ) (bits : List Bool) → IsPrefix text bits → length bits ≤ 32
short_prefix text bits h =
    let len = h.is_length.1 in
    let short = length-take (decimal_value h.length_text) (address_bits h.address) in
    subst (λ (b : List Bool). length b ≤ 32) (sym h.cleared) (omega (arith, len, short))

-- a route of the size is answered by what the filter says
pub answered_as_meant : (filter : FilterView) (program : CodeView) (size number : ℕ) (line : List ℕ) (route : RouteView)
    → SaysTheSame filter program size → IsRouteLine line route → route.size ≡ size
    → Says (meaning filter route) (outcome_of program route)
    × (route_answer program (number, line) ≡ record { text = verdict (outcome_of program route); reply = reply.Answered })
answered_as_meant filter program size number line route same h e =
    let limits = h.numbers.limits in
    let reachable = limits.reachable in
    let metric = h.metric in
    let large = h.size in
    let of_size : IsRouteOf size route =
    record { size_is = e; reachable = omega (arith, reachable, metric, large, e); net_fits = short_prefix h.first route.net h.prefix }
    in
    (same.says route of_size, ap (answer_of program number) (read_route line route h))
