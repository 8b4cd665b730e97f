use Rattle.std.proofs.Common.{List, Global, ◌∙◌, ap, subst, sym}
use Rattle.std.specs.Prelude.{String}
use Rattle.filter_reports.specs.Notices.{named}
use Rattle.filter_tokens.specs.Tokenization.{IsTokenization}
use Rattle.filter_lint.specs.Allowing.{shown_host_bits, shown_of}
use Rattle.filter_lint.proofs.Endings.{reported}
use Rattle.filter_lint.proofs.linting.warn.Goals as goal

pub returns : goal.returns
returns c =
    let text = c.args.source.now.text.now in
    let how = c.args.how.now in
    let found = c.args.surveyed.now in
    let allowed = how.allowed.items in
    reported how.format how.size how.limit allowed how.asks_order found.code found.places.items (named c.args.source.now)
    c.in_ok-all.all c.in_ok-host_bits.host_bits.items c.as_slice-5.result.now c.as_slice-4.result.now c.sets.result.now c.report_on.result
    c.sets.ensures.value
    (c.as_slice-4.ensures.value ∙ (c.in_ok-shown.ensures
    ∙ (ap (λ (a : List (String Global)). shown_of a text c.as_slice-2.result.now) c.as_slice-allowed.ensures.value
    ∙ ap (shown_of allowed text) c.as_slice-2.ensures.value)))
    (c.as_slice-5.ensures.value ∙ (c.in_ok-shown_bits.ensures
    ∙ (ap (λ (a : List (String Global)). shown_host_bits a text c.as_slice-3.result.now) c.as_slice-allowed.ensures.value
    ∙ ap (shown_host_bits allowed text) c.as_slice-3.ensures.value)))
    c.in_ok-all.ensures.found c.in_ok-all.ensures.sound c.in_ok-all.ensures.decided c.in_ok-all.ensures.ordered
    (c.in_ok-host_bits.ensures.all text (subst (λ ts. IsTokenization ts 0 text) (sym c.as_slice.ensures.value) c.requires.survey.tokens))
    c.report_on.ensures.lines c.report_on.ensures.status
