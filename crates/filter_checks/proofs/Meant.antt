-- What parts and tests say of codes they say of the filters that the codes are of.
use Rattle.std.proofs.Common.{◌≡◌, ◌⊎◌, inl, inr, ℕ, Bool, true, false, List, [], ◌∷◌, All, refl, sym, ◌∙◌, subst, if◌then◌else◌, arith}
use Rattle.std.specs.Prelude.{◌≢◌, ◌||◌, Option}
use Rattle.std.specs.List.{list_any}
use Rattle.std.proofs.lemmas.List.Elements.{All-head, All-weaker}
use Rattle.std.proofs.lemmas.List.Folds.{Any-from_list_any}
use Rattle.filter_code.specs.CodeView.{CodeView}
use Rattle.filter_code.specs.Machine.{outcome_of}
use Rattle.filter_code.specs.RouteView.{RouteView}
use Rattle.filter_code.specs.declared.outcome.Outcome.{Outcome}
use Rattle.filter_reports.specs.Saying.{Says, SaysTheSame}
use Rattle.filter_compiler.specs.Verdicts.{Verdict, meaning}
use Rattle.filter_diff.proofs.Witness.{has_route}
use Rattle.filter_diff.specs.Answers.{answer_of, differs}
use Rattle.filter_diff.specs.Endings.{outcome_at}
use Rattle.filter_diff.specs.Parts.{Has, HasRoute, Holds, InOne, IsIn, IsDecided, IsEnough, IsReal, IsSame, IsTrueOf, is_difference, is_undecided}
use Rattle.filter_diff.specs.declared.answer.Comparison.{Comparison}
use Rattle.filter_diff.specs.declared.route_part.PartFinding.{PartFinding}
use Rattle.filter_diff.specs.declared.route_part.RoutePart.{RoutePart}
use Rattle.filter_syntax.specs.SyntaxText.{FilterView, IsText}
use Rattle.filter_verifier.specs.Safe.{IsRouteOf}
use Rattle.report_formats.specs.declared.options.DiffOptions.{DiffOptions}
use Rattle.filter_checks.specs.Comparing.{IsDiffReport, IsPartsReport, status_of_comparison}
use Rattle.filter_differences.specs.Differences.{AreParts}
use Rattle.filter_reports.proofs.Saying.{says_the_same}
use Rattle.filter_reports.specs.Notices.{Named}
use Rattle.filter_reports.specs.Reports.{ReportView}
use Rattle.filter_reports.specs.VerifiedFilters.{IsFilterOf}
use Rattle.filter_checks.specs.Filters.{ArePartsOf, HoldsOf}
use Rattle.filter_diff.specs.Expectations.{IsCovered, IsMet, IsShown, route_of}
use Rattle.filter_diff.specs.declared.checking.Counterexample.{Counterexample}
use Rattle.filter_diff.specs.declared.expectation.Expectation.{Expectation}
use Rattle.filter_code.specs.declared.outcome.Outcome.TheVariants as outcome
use Rattle.filter_diff.specs.declared.answer.Comparison.TheVariants as answer
use Rattle.filter_diff.specs.declared.route_part.PartFinding.TheVariants as finding

-- an outcome says one verdict, and a verdict has one outcome
one_verdict : (v w : Verdict) (end : Outcome) → Says v end → Says w end → v ≡ w
one_verdict v w (outcome.Accept metric) a b = a ∙ sym b
one_verdict v w outcome.Reject a b = a ∙ sym b
one_verdict v w (outcome.Fault why at) a b = absurd a

pub one_outcome : (v : Verdict) (a b : Outcome) → Says v a → Says v b → a ≡ b
one_outcome v (outcome.Accept metric) (outcome.Accept other) a b = cc
one_outcome v (outcome.Accept metric) outcome.Reject a b = let no : ⊥ = cc in absurd no
one_outcome v outcome.Reject (outcome.Accept other) a b = let no : ⊥ = cc in absurd no
one_outcome v outcome.Reject outcome.Reject a b = refl
one_outcome v (outcome.Fault why at) b x y = absurd x
one_outcome v a (outcome.Fault why at) x y = absurd y

-- a route of the size
in_domain : (size : ℕ) (route : RouteView) → IsRouteOf size route → IsIn size route
in_domain size route h = record { fits = h.net_fits; reachable = h.reachable; domain = h.size_is }

of_domain : (size : ℕ) (route : RouteView) → IsIn size route → IsRouteOf size route
of_domain size route h = record { size_is = h.domain; reachable = h.reachable; net_fits = h.fits }

module _ (f g : FilterView) (p q : CodeView) (size : ℕ) (of_f : SaysTheSame f p size) (of_g : SaysTheSame g q size) where
  same_or_in : (route : RouteView) (parts : List RoutePart) → IsRouteOf size route → IsSame p q route ⊎ InOne route parts
      → (meaning f route ≡ meaning g route) ⊎ InOne route parts
  same_or_in route parts h (inl same) =
      inl (one_verdict (meaning f route) (meaning g route) (outcome_of q route) (subst (Says (meaning f route)) same (of_f.says route h))
      (of_g.says route h))
  same_or_in route parts h (inr among) = inr among

  holds : (found : PartFinding) (route : RouteView) → IsRouteOf size route → Holds p q found route → HoldsOf f g found route
  holds finding.Undecided route h is = tt
  holds (finding.Differ before after) route h is = record {
    old_says = subst (Says (meaning f route)) is.old_is (of_f.says route h);
    new_says = subst (Says (meaning g route)) is.new_is (of_g.says route h);
    differ = λ same.
        is.differ (one_outcome (meaning g route) (outcome_at route before) (outcome_at route after)
        (subst (λ (v : Verdict). Says v (outcome_at route before)) same (subst (Says (meaning f route)) is.old_is (of_f.says route h)))
        (subst (Says (meaning g route)) is.new_is (of_g.says route h)));
  }

pub of_filters : (f g : FilterView) (p q : CodeView) (size limit : ℕ) (parts : List RoutePart) → SaysTheSame f p size → SaysTheSame g q size
    → AreParts p q size limit parts → ArePartsOf f g size parts
of_filters f g p q size limit parts of_f of_g are = record {
  complete = λ route h. same_or_in f g p q size of_f of_g route parts h (are.complete route (in_domain size route h));
  sound = All-weaker (IsTrueOf p q size) (λ part. (route : RouteView) → IsRouteOf size route → Has part route → HoldsOf f g part.finding route)
      (λ part is route h has. holds f g p q size of_f of_g part.finding route h (is route (in_domain size route h) has)) parts are.sound;
  some = All-weaker (IsReal size) (HasRoute size) (has_route size) parts are.real;
}

-- parts that come to the same are none
either_differs : (b : Bool) → (if b then answer.Differ else answer.Undecided) ≡ answer.Same → ⊥
either_differs true e = cc
either_differs false e = cc

out_of_none : {A : Type 0} (route : RouteView) → A ⊎ InOne route [] → A
out_of_none route (inl a) = a
out_of_none route (inr none) = absurd none

pub all_same : (f g : FilterView) (size : ℕ) (parts : List RoutePart) → ArePartsOf f g size parts → answer_of parts ≡ answer.Same
    → (route : RouteView) → IsRouteOf size route → meaning f route ≡ meaning g route
all_same f g size [] are e route h = out_of_none route (are.complete route h)
all_same f g size (part ∷ parts) are e route h = absurd (either_differs (list_any differs (part ∷ parts)) e)

-- parts that come to a difference have one that differs
chosen : (b : Bool) → (if b then answer.Differ else answer.Undecided) ≡ answer.Differ → b ≡ true
chosen true e = refl
chosen false e = let no : ⊥ = cc in absurd no

one_of : (parts : List RoutePart) → answer_of parts ≡ answer.Differ → list_any differs parts ≡ true
one_of [] e = let no : ⊥ = cc in absurd no
one_of (part ∷ parts) e = chosen (list_any differs (part ∷ parts)) e

disagree : (f g : FilterView) (found : PartFinding) (route : RouteView) → is_difference found ≡ true → HoldsOf f g found route
    → meaning f route ≢ meaning g route
disagree f g finding.Undecided route e h = let no : ⊥ = cc in absurd no
disagree f g (finding.Differ before after) route e h = h.differ

pub one_differs : (f g : FilterView) (size : ℕ) (parts : List RoutePart) → ArePartsOf f g size parts → answer_of parts ≡ answer.Differ
    → (route : RouteView) × IsRouteOf size route × (meaning f route ≢ meaning g route)
one_differs f g size parts are e =
    let any = Any-from_list_any differs parts (one_of parts e) in
    let at = any.0 in
    let part = any.1 in
    let within = any.2 in
    let is = any.3 in
    let is_one = any.4 in
    let some : HasRoute size part = subst (HasRoute size) is (are.some at part within) in
    let sound = subst (λ (p : RoutePart). (route : RouteView) → IsRouteOf size route → Has p route → HoldsOf f g p.finding route) is
    (are.sound at part within) in
    let of_size = of_domain size some.route some.is_in in
    (some.route, of_size, disagree f g part.finding some.route is_one (sound some.route of_size some.has))

-- what tests say
pub held : (f : FilterView) (program : CodeView) (size : ℕ) (expected : Expectation) → SaysTheSame f program size → IsMet program size expected
    → (route : RouteView) → IsRouteOf size route → IsCovered expected route → Says (meaning f route) (outcome_at route expected.ending)
held f program size expected says met route h covered =
    subst (Says (meaning f route)) (met route (in_domain size route h) covered) (says.says route h)

pub shown_is_of : (program : CodeView) (size : ℕ) (expected : Expectation) (shown : Counterexample) → IsShown program size expected shown
    → IsRouteOf size (route_of size shown) × IsCovered expected (route_of size shown)
shown_is_of program size expected shown is = (of_domain size (route_of size shown) is.is_in, is.is_covered)

pub shown_verdict : (f : FilterView) (program : CodeView) (size : ℕ) (expected : Expectation) (shown : Counterexample)
    → SaysTheSame f program size → IsShown program size expected shown → Says (meaning f (route_of size shown)) shown.outcome
shown_verdict f program size expected shown says is =
    subst (Says (meaning f (route_of size shown))) is.ends (says.says (route_of size shown) (of_domain size (route_of size shown) is.is_in))

pub shown_otherwise : (f : FilterView) (program : CodeView) (size : ℕ) (expected : Expectation) (shown : Counterexample)
    → SaysTheSame f program size → IsShown program size expected shown
    → Says (meaning f (route_of size shown)) (outcome_at (route_of size shown) expected.ending) → ⊥
shown_otherwise f program size expected shown says is expected_said =
    is.otherwise
    (one_outcome (meaning f (route_of size shown)) shown.outcome (outcome_at (route_of size shown) expected.ending)
    (shown_verdict f program size expected shown says is) expected_said)

-- parts that are decided come to something
first_differs : (found : PartFinding) → is_undecided found ≡ false → is_difference found ≡ true
first_differs finding.Undecided e = let no : ⊥ = cc in absurd no
first_differs (finding.Differ before after) e = refl

or_true : (a b : Bool) → a ≡ true → (a || b) ≡ true
or_true a b e = rw e refl

chosen_other : (b : Bool) → b ≡ true → (if b then answer.Differ else answer.Undecided) ≡ answer.Undecided → ⊥
chosen_other true e is = cc
chosen_other false e is = cc

pub all_decided : (parts : List RoutePart) → All IsDecided parts → answer_of parts ≡ answer.Undecided → ⊥
all_decided [] all e = cc
all_decided (part ∷ parts) all e =
    chosen_other (list_any differs (part ∷ parts))
    (or_true (is_difference part.finding) (list_any differs parts)
    (first_differs part.finding (All-head IsDecided part parts all))) e

-- what the comparison comes to, by its exit status
ends_same : (found : Comparison) (status : ℕ) → status ≡ status_of_comparison found → status ≡ 0 → found ≡ answer.Same
ends_same answer.Same status e is = refl
ends_same answer.Differ status e is = absurd (omega (arith, e, is))
ends_same answer.Undecided status e is = absurd (omega (arith, e, is))

ends_differ : (found : Comparison) (status : ℕ) → status ≡ status_of_comparison found → status ≡ 1 → found ≡ answer.Differ
ends_differ answer.Same status e is = absurd (omega (arith, e, is))
ends_differ answer.Differ status e is = refl
ends_differ answer.Undecided status e is = absurd (omega (arith, e, is))

ends_undecided : (found : Comparison) (status : ℕ) → status ≡ status_of_comparison found → status ≡ 3 → found ≡ answer.Undecided
ends_undecided answer.Same status e is = absurd (omega (arith, e, is))
ends_undecided answer.Differ status e is = absurd (omega (arith, e, is))
ends_undecided answer.Undecided status e is = refl

-- the code of a text says what its filter says
of_text : (text : List ℕ) (size : ℕ) (f : FilterView) (is_f : IsFilterOf text size f) → SaysTheSame f is_f.program size
of_text text size f is_f = says_the_same f is_f.program size is_f.translates.means is_f.safe

module _ (how : DiffOptions) (old new : Named) (report : ReportView) where
  parts_of : (f g : FilterView) (is_f : IsFilterOf old.text how.size f) (is_g : IsFilterOf new.text how.size g) (parts : List RoutePart)
      → AreParts is_f.program is_g.program how.size how.limit parts → ArePartsOf f g how.size parts
  parts_of f g is_f is_g parts are =
      of_filters f g is_f.program is_g.program how.size how.limit parts (of_text old.text how.size f is_f) (of_text new.text how.size g is_g) are

  pub filters_same : IsDiffReport how old new report → report.status ≡ 0
      → (f : FilterView) × (g : FilterView) × IsText old.text f × IsText new.text g
      × ((route : RouteView) → IsRouteOf how.size route → meaning f route ≡ meaning g route)
  filters_same (inl (before, after, are, refuses)) is = absurd (omega (arith, refuses.ends, is))
  filters_same (inr (f, is_f, g, is_g, said)) is = (
    f,
    g,
    is_f.translates.spelled,
    is_g.translates.spelled,
    all_same f g how.size said.parts (parts_of f g is_f is_g said.parts said.are_parts)
        (ends_same (answer_of said.parts) report.status said.ends is),
  )

  pub filters_differ : IsDiffReport how old new report → report.status ≡ 1
      → (f : FilterView) × (g : FilterView) × IsText old.text f × IsText new.text g
      × (route : RouteView) × IsRouteOf how.size route × (meaning f route ≢ meaning g route)
  filters_differ (inl (before, after, are, refuses)) is = absurd (omega (arith, refuses.ends, is))
  filters_differ (inr (f, is_f, g, is_g, said)) is =
      let one = one_differs f g how.size said.parts (parts_of f g is_f is_g said.parts said.are_parts)
      (ends_differ (answer_of said.parts) report.status said.ends is) in
      (f, g, is_f.translates.spelled, is_g.translates.spelled, one.0, one.1, one.2)

pub codes_decided : (how : DiffOptions) (name : List ℕ) (old new : CodeView) (size : ℕ) (report : ReportView) → IsEnough size how.limit
    → IsPartsReport how name old new size report → report.status ≡ 3 → ⊥
codes_decided how name old new size report enough said is =
    all_decided said.parts (said.are_parts.decided enough) (ends_undecided (answer_of said.parts) report.status said.ends is)
