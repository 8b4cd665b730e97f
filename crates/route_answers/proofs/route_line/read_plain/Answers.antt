use Rattle.std.proofs.Common.{rules, ◌≡◌, ◌∷◌, ◌++◌, length, ap, sym, subst, arith}
use Rattle.std.proofs.lemmas.Bool.Decides.{nat_tests}
use Rattle.filter_code.specs.RouteView.{IsWithinLimits}
use Rattle.prefix_patterns.specs.Number.{decimal_value}
use Rattle.route_answers.specs.RouteLine.{IsUsualEnd}
use Rattle.route_answers.proofs.PlainLines.{end_ends, plain_line, space_ends, usual_metric, usual_prefix}
use Rattle.route_answers.proofs.route_line.read_plain.Goals as goal

pub returns-clause-route : goal.returns-clause-route
returns-clause-route c =
    let behind : c.in-Some.rest.now ≡ 32 ∷ c.in_ok-after_byte.field-0.now = search rules in
    let empty : length c.in_ok-size.rest.now ≡ 0 = grind (arith, nat_tests) in
    plain_line c.args.given c.args.line.now c.in-Some.rest.now c.in_ok-after_byte.field-0.now c.in_ok-metric.rest.now
    c.in_ok-size.rest.now c.in-Some.prefix c.in_ok-metric.metric c.in_ok-size.size c.requires c.in-Some.ensures.found behind
    c.in_ok-metric.ensures.found c.in_ok-metric.ensures.limit c.in_ok-size.ensures.found empty
    c.in_ok-route.ensures.0 c.in_ok-route.route (search rules)

pub returns-in_default-clause-usual : goal.returns-in_default-clause-usual
returns-in_default-clause-usual c usual =
    absurd (c.in_default.ensures.usual (32 ∷ (usual.metric ++ usual.end)) (usual_prefix c.args.given c.args.line.now usual)
    (space_ends (usual.metric ++ usual.end)))

pub returns-in_err-after_byte-clause-usual : goal.returns-in_err-after_byte-clause-usual
returns-in_err-after_byte-clause-usual c usual =
    let prefix : c.in-Some.rest.now ≡ 32 ∷ (usual.metric ++ usual.end) =
    c.in-Some.ensures.usual (32 ∷ (usual.metric ++ usual.end)) (usual_prefix c.args.given c.args.line.now usual)
    (space_ends (usual.metric ++ usual.end)) in
    absurd (c.in_err-after_byte.ensures.any (usual.metric ++ usual.end) (search (rules, prefix)))

pub returns-in_err-metric-clause-usual : goal.returns-in_err-metric-clause-usual
returns-in_err-metric-clause-usual c usual =
    let prefix : c.in-Some.rest.now ≡ 32 ∷ (usual.metric ++ usual.end) =
    c.in-Some.ensures.usual (32 ∷ (usual.metric ++ usual.end)) (usual_prefix c.args.given c.args.line.now usual)
    (space_ends (usual.metric ++ usual.end)) in
    let behind : c.in-Some.rest.now ≡ 32 ∷ c.in_ok-after_byte.field-0.now = search rules in
    let second : c.in_ok-after_byte.field-0.now ≡ usual.metric ++ usual.end = cc in
    absurd (c.in_err-metric.ensures.usual usual.end (usual_metric c.args.given c.args.line.now c.in_ok-after_byte.field-0.now usual second)
    (end_ends c.args.given usual.end usual.size usual.ends))

pub returns-in_err-size-clause-usual : goal.returns-in_err-size-clause-usual
returns-in_err-size-clause-usual c usual =
    let prefix : c.in-Some.rest.now ≡ 32 ∷ (usual.metric ++ usual.end) =
    c.in-Some.ensures.usual (32 ∷ (usual.metric ++ usual.end)) (usual_prefix c.args.given c.args.line.now usual)
    (space_ends (usual.metric ++ usual.end)) in
    let behind : c.in-Some.rest.now ≡ 32 ∷ c.in_ok-after_byte.field-0.now = search rules in
    let second : c.in_ok-after_byte.field-0.now ≡ usual.metric ++ usual.end = cc in
    let metric = c.in_ok-metric.ensures.usual usual.end
    (usual_metric c.args.given c.args.line.now c.in_ok-after_byte.field-0.now usual second)
    (end_ends c.args.given usual.end usual.size usual.ends) in
    absurd (c.in_err-size.ensures.usual usual.size
    (subst (λ end. IsUsualEnd c.args.given end usual.size) (sym metric.1) usual.ends))

pub returns-then-not-is_empty-clause-usual : goal.returns-then-not-is_empty-clause-usual
returns-then-not-is_empty-clause-usual c usual =
    let prefix : c.in-Some.rest.now ≡ 32 ∷ (usual.metric ++ usual.end) =
    c.in-Some.ensures.usual (32 ∷ (usual.metric ++ usual.end)) (usual_prefix c.args.given c.args.line.now usual)
    (space_ends (usual.metric ++ usual.end)) in
    let behind : c.in-Some.rest.now ≡ 32 ∷ c.in_ok-after_byte.field-0.now = search rules in
    let second : c.in_ok-after_byte.field-0.now ≡ usual.metric ++ usual.end = cc in
    let metric = c.in_ok-metric.ensures.usual usual.end
    (usual_metric c.args.given c.args.line.now c.in_ok-after_byte.field-0.now usual second)
    (end_ends c.args.given usual.end usual.size usual.ends) in
    let size = c.in_ok-size.ensures.usual usual.size
    (subst (λ end. IsUsualEnd c.args.given end usual.size) (sym metric.1) usual.ends) in
    let empty : length c.in_ok-size.rest.now ≡ 0 = ap length size.1 in
    absurd (grind (arith, nat_tests))

pub returns-in_err-route-clause-usual : goal.returns-in_err-route-clause-usual
returns-in_err-route-clause-usual c usual =
    let prefix : c.in-Some.rest.now ≡ 32 ∷ (usual.metric ++ usual.end) =
    c.in-Some.ensures.usual (32 ∷ (usual.metric ++ usual.end)) (usual_prefix c.args.given c.args.line.now usual)
    (space_ends (usual.metric ++ usual.end)) in
    let behind : c.in-Some.rest.now ≡ 32 ∷ c.in_ok-after_byte.field-0.now = search rules in
    let second : c.in_ok-after_byte.field-0.now ≡ usual.metric ++ usual.end = cc in
    let metric = c.in_ok-metric.ensures.usual usual.end
    (usual_metric c.args.given c.args.line.now c.in_ok-after_byte.field-0.now usual second)
    (end_ends c.args.given usual.end usual.size usual.ends) in
    let size = c.in_ok-size.ensures.usual usual.size
    (subst (λ end. IsUsualEnd c.args.given end usual.size) (sym metric.1) usual.ends) in
    absurd (c.in_err-route.ensures (subst (λ n. IsWithinLimits n c.in_ok-size.size) (sym metric.0)
    (subst (λ n. IsWithinLimits (decimal_value usual.metric) n) (sym size.0) usual.limits)))
