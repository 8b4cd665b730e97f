-- What verified code answers to a route line is what its filter means.
use Rattle.std.proofs.Common.{◌≡◌, ◌≤◌, ℕ, Bool, true, false, List, [], ◌∷◌, Option, Some, None, Result}
use Rattle.std.proofs.Common.{Ok, Err, length, if◌then◌else◌, nat_lt, refl, sym, ap, subst, arith}
use Rattle.std.proofs.lemmas.Bool.Decides.{nat_tests}
use Rattle.filter_code.specs.CodeView.{CodeView}
use Rattle.filter_code.specs.Machine.{outcome_of}
use Rattle.filter_code.specs.RouteView.{RouteView, is_within_limits}
use Rattle.filter_code.specs.declared.outcome.Outcome.{Outcome}
use Rattle.filter_code.specs.declared.outcome.Outcome.TheVariants as outcome
use Rattle.filter_compiler.specs.Same.{MeansTheSame}
use Rattle.filter_compiler.specs.Verdicts.{Verdict, meaning}
use Rattle.filter_syntax.specs.SyntaxText.{FilterView}
use Rattle.filter_verifier.specs.Safe.{IsRouteOf, IsSafe}
use Rattle.line_protocol.specs.Answers.{Answer}
use Rattle.line_protocol.specs.Limits.{line_limit, number_limit}
use Rattle.line_protocol.specs.Words.{words}
use Rattle.line_protocol.specs.declared.answers.LineReply.TheVariants as reply
use Rattle.prefix_patterns.proofs.Tokens.{prefix_in-found}
use Rattle.prefix_patterns.specs.Reading.{number_in, prefix_in}
use Rattle.route_answers.proofs.Evaluated.{short_prefix}
use Rattle.filter_reports.proofs.Saying.{says_the_same}
use Rattle.route_answers.specs.Eval.{Line, answer_of, verdict}
use Rattle.route_answers.specs.RouteLine.{parts_in, route_in, route_of_parts, route_of_words}
use Rattle.filter_reports.specs.Saying.{Says, SaysTheSame}
use Rattle.route_answers.specs.declared.line_fault.LineFault.{LineFault}
use Rattle.route_answers.specs.declared.line_fault.LineFault.TheVariants.{Numbers, TooLong}
use Rattle.route_answers.specs.Filtering.{answer_meant, code_answer, filter_answer, verdict_line}

-- a result that is a route, and one of which this route is known
or_this : RouteView → Result RouteView LineFault → RouteView
or_this route (Ok found) = found
or_this route (Err why) = route

same_route : (a b : RouteView) → (let x : Result RouteView LineFault = Ok a in x ≡ Ok b) → a ≡ b
unfolding or_this
same_route a b e = ap (λ (r : Result RouteView LineFault). or_this a r) e

-- a route is one of the size
of_limits : (size : ℕ) (net : List Bool) (metric : ℕ) (route : RouteView) → length net ≤ 32 → (b : Bool)
    → is_within_limits metric size ≡ b
    → (let r : Result RouteView LineFault = if b then Ok (record { net = net; metric = metric; size = size }) else Err Numbers in r ≡ Ok route)
    → IsRouteOf size route
of_limits size net metric route short true e r =
    let le : metric ≤ size = grind (arith, nat_tests) in
    subst (IsRouteOf size) (same_route (record { net = net; metric = metric; size = size }) route r)
    (record { size_is = refl; reachable = le; net_fits = short })
of_limits size net metric route short false e r = let no : ⊥ = cc in absurd no

of_parts : (size : ℕ) (text : List ℕ) (route : RouteView) (o : Option (List Bool)) → prefix_in text ≡ o → (m : Option ℕ)
    → route_of_parts o m (Some size) ≡ Ok route → IsRouteOf size route
of_parts size text route None e m r = let no : ⊥ = cc in absurd no
of_parts size text route (Some net) e None r = let no : ⊥ = cc in absurd no
of_parts size text route (Some net) e (Some metric) r =
    of_limits size net metric route (short_prefix text net (prefix_in-found text net e)) (is_within_limits metric size) refl r

of_words : (size : ℕ) (route : RouteView) (all : List (List ℕ)) → route_of_words (parts_in all (Some size)) ≡ Ok route → IsRouteOf size route
of_words size route [] r = let no : ⊥ = cc in absurd no
of_words size route (net ∷ []) r = let no : ⊥ = cc in absurd no
of_words size route (net ∷ (metric ∷ [])) r = of_parts size net route (prefix_in net) refl (number_in number_limit metric) r
of_words size route (net ∷ (metric ∷ (third ∷ []))) r = let no : ⊥ = cc in absurd no
of_words size route (net ∷ (metric ∷ (third ∷ (fourth ∷ more)))) r = let no : ⊥ = cc in absurd no

-- the route of a line is in a domain of the size
of_line : (size : ℕ) (line : List ℕ) (route : RouteView) (b : Bool)
    → (if b then Err TooLong else route_of_words (parts_in (words line) (Some size))) ≡ Ok route → IsRouteOf size route
of_line size line route true r = let no : ⊥ = cc in absurd no
of_line size line route false r = of_words size route (words line) r

pub read_of_size : (size : ℕ) (line : List ℕ) (route : RouteView) → route_in (Some size) line ≡ Ok route → IsRouteOf size route
read_of_size size line route r = of_line size line route (nat_lt line_limit (length line)) r

-- the line of an outcome that says what a verdict says
said_line : (v : Verdict) (end : Outcome) → Says v end → verdict end ≡ verdict_line v
said_line v (outcome.Accept metric) h = sym (ap verdict_line h)
said_line v outcome.Reject h = sym (ap verdict_line h)
said_line v (outcome.Fault why at) h = absurd h

by_route : (filter : FilterView) (program : CodeView) (size : ℕ) (line : Line) → SaysTheSame filter program size
    → (r : Result RouteView LineFault) → route_in (Some size) line.1 ≡ r → answer_of program line.0 r ≡ answer_meant filter line.0 r
by_route filter program size line same (Err found) e = refl
by_route filter program size line same (Ok route) e =
    ap (λ (t : List ℕ). let a : Answer = record { text = t; reply = reply.Answered } in a)
    (said_line (meaning filter route) (outcome_of program route) (same.says route (read_of_size size line.1 route e)))

-- the answer to a line is what the filter means
pub as_meant : (filter : FilterView) (program : CodeView) (size : ℕ) → MeansTheSame filter program → IsSafe program size
    → (line : Line) → code_answer program size line ≡ filter_answer filter size line
as_meant filter program size means safe line =
    by_route filter program size line (says_the_same filter program size means safe) (route_in (Some size) line.1) refl
