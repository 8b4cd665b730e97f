use Rattle.std.proofs.Common.{◌≡◌, ◌≤◌, ◌∙◌, true, false, ap, arith, length, subst, sym}
use Rattle.filter_code.specs.RouteView.{RouteView}
use Rattle.filter_diff.specs.Expectations.{IsMissedAt}
use Rattle.prefix_patterns.specs.BitLists.{length-prefix_bits}
use Rattle.filter_diff.proofs.Expected.{covers_first, first_missed, is_shown, missed_otherwise}
use Rattle.filter_diff.proofs.checking.shown.Goals as goal

pub returns-clause-shown : goal.returns-clause-shown
returns-clause-shown c =
    let limit : c.args.class.now.len ≤ 32 = c.in_ok-prefix.ensures.0 in
    let long : length c.in_ok-prefix.prefix ≡ c.args.class.now.len =
    ap length c.in_ok-prefix.ensures.1 ∙ length-prefix_bits c.address.result.0 c.args.class.now.len limit in
    is_shown c.args.code.now c.args.class.now.size c.args.expected.now _ c.in_ok-route.route c.outcome_of-expected_outcome.result
    (omega (arith, long, limit)) c.in_ok-route.ensures.0.reachable c.in_ok-route.ensures.1 c.run_checked-outcome.ensures.outcome
    c.outcome_of-expected_outcome.ensures (c.is_other.ensures.other c.if-not-is_other.false) (sym c.covers.ensures ∙ c.if-not-covers.false)

pub returns-then-not-is_other-clause-some : goal.returns-then-not-is_other-clause-some
returns-then-not-is_other-clause-some c smallest missed none =
    let here = first_missed c.args.code.now c.args.class.now c.args.expected.now c.in_ok-route.route c.in_ok-prefix.prefix c.address.result.0
    c.unwrap_or-metric.result c.requires.real missed c.address.ensures c.in_ok-prefix.ensures.1 c.unwrap_or-metric.ensures
    c.in_ok-route.ensures.1 in
    missed_otherwise c.args.code.now c.args.expected.now c.in_ok-route.route c.unwrap_or-metric.result c.run_checked-outcome.result
    c.outcome_of-expected_outcome.result here (ap (λ (r : RouteView). r.metric) c.in_ok-route.ensures.1)
    c.run_checked-outcome.ensures.outcome c.outcome_of-expected_outcome.ensures (c.is_other.ensures.same c.if-not-is_other.true)

pub returns-then-not-covers-clause-some : goal.returns-then-not-covers-clause-some
returns-then-not-covers-clause-some c smallest missed none =
    let here = first_missed c.args.code.now c.args.class.now c.args.expected.now c.in_ok-route.route c.in_ok-prefix.prefix c.address.result.0
    c.unwrap_or-metric.result c.requires.real missed c.address.ensures c.in_ok-prefix.ensures.1 c.unwrap_or-metric.ensures
    c.in_ok-route.ensures.1 in
    let shown = subst (IsMissedAt c.args.code.now c.args.expected.now) c.in_ok-route.ensures.1 here in
    let covers = covers_first c.args.expected.now
    (record { net = c.in_ok-prefix.prefix; metric = c.unwrap_or-metric.result; size = c.args.class.now.size }) shown.covered in
    let is : c.covers.result ≡ true = c.covers.ensures ∙ covers in
    let not_so : c.covers.result ≡ false = c.if-not-covers.true in
    let no : ⊥ = cc in
    no
