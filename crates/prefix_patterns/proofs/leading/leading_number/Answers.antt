use Rattle.std.proofs.Common.{◌≡◌, false, true}
use Rattle.prefix_patterns.proofs.LeadingTokens.{one_digit, two_digits, three_digits}
use Rattle.prefix_patterns.proofs.UsualSpelling.{one_whole, three_whole, two_whole}
use Rattle.prefix_patterns.proofs.leading.leading_number.Goals as goal

pub returns-in_default-digit_at-clause-found : goal.returns-in_default-digit_at-clause-found
returns-in_default-digit_at-clause-found c =
    let a = c.in-Some.ensures in
    one_digit c.args.text.now c.in-Some.first (a.within, a.digit, a.value)

pub returns-in_default-digit_at-2-clause-found : goal.returns-in_default-digit_at-2-clause-found
returns-in_default-digit_at-2-clause-found c =
    let a = c.in-Some.ensures in
    let b = c.in-Some-digit_at.ensures in
    two_digits c.args.text.now c.in-Some.first c.in-Some-digit_at.second (a.within, a.digit, a.value) (b.within, b.digit, b.value)

pub returns-clause-found : goal.returns-clause-found
returns-clause-found c =
    let a = c.in-Some.ensures in
    let b = c.in-Some-digit_at.ensures in
    let d = c.in-Some-digit_at-2.ensures in
    three_digits c.args.text.now c.in-Some.first c.in-Some-digit_at.second c.in-Some-digit_at-2.third (a.within, a.digit, a.value)
    (b.within, b.digit, b.value) (d.within, d.digit, d.value)

pub returns-in_default-digit_at-clause-usual : goal.returns-in_default-digit_at-clause-usual
returns-in_default-digit_at-clause-usual c rest number ends =
    let a = c.in-Some.ensures in
    one_whole c.args.text.now rest number ends c.in-Some.first (a.within, a.digit, a.value)
    (λ h. let none : false ≡ true = c.in_default-digit_at.ensures.any h.0 h.1 in cc)

pub returns-in_default-digit_at-2-clause-usual : goal.returns-in_default-digit_at-2-clause-usual
returns-in_default-digit_at-2-clause-usual c rest number ends =
    let a = c.in-Some.ensures in
    let b = c.in-Some-digit_at.ensures in
    two_whole c.args.text.now rest number ends c.in-Some.first c.in-Some-digit_at.second (a.within, a.digit, a.value)
    (b.within, b.digit, b.value) (λ h. let none : false ≡ true = c.in_default-digit_at-2.ensures.any h.0 h.1 in cc)

pub returns-clause-usual : goal.returns-clause-usual
returns-clause-usual c rest number ends =
    let a = c.in-Some.ensures in
    let b = c.in-Some-digit_at.ensures in
    let d = c.in-Some-digit_at-2.ensures in
    three_whole c.args.text.now rest number ends c.in-Some.first c.in-Some-digit_at.second c.in-Some-digit_at-2.third
    (a.within, a.digit, a.value) (b.within, b.digit, b.value) (d.within, d.digit, d.value)
