use Rattle.std.proofs.Common.{Err, ap, ◌∙◌, subst, sym}
use Rattle.filter_compiler.specs.InstructionPlaces.{places_of}
use Rattle.filter_syntax.specs.SyntaxText.{view_filter}
use Rattle.filter_compiler.specs.Limits.{HasTooMany, IsTooLong}
use Rattle.filter_compiler.specs.Same.{MeansTheSame}
use Rattle.filter_compiler.specs.Translation.{code_of}
use Rattle.filter_tokens.specs.Tokenization.{IsTokenization}
use Rattle.filter_source.proofs.Refused.{no_filter, of_error, over_limit, untyped, untyped_told}
use Rattle.filter_source.proofs.source.compile_text_mapped.Goals as goal

pub returns-in_err-filter-clause-refused : goal.returns-in_err-filter-clause-refused
returns-in_err-filter-clause-refused c =
    of_error c.from_residual.result _ _ c.from_residual.ensures.1
    (no_filter c.args.text.now c.in_err-filter.field-0.0.fault c.in_err-filter.field-0.0.around c.in_err-filter.ensures.refused
    c.in_err-filter.ensures.within c.in_err-filter.ensures.head (λ over. let is = c.in_err-filter.ensures.long over in cc))

pub returns-in_err-typed-clause-refused : goal.returns-in_err-typed-clause-refused
returns-in_err-typed-clause-refused c =
    let parsed = c.in_ok-filter.ensures in
    let refused = c.in_err-typed.ensures in
    of_error c.from_residual-in_err-typed.result _ _ c.from_residual-in_err-typed.ensures.1
    (untyped c.args.text.now c.in_ok-filter.filter c.in_err-typed.field-0.0.fault c.in_err-typed.field-0.0.around parsed.found parsed.placed
    parsed.spans refused.refused refused.fault refused.placed)

pub returns-in_err-typed-clause-diagnosis : goal.returns-in_err-typed-clause-diagnosis
returns-in_err-typed-clause-diagnosis c =
    let parsed = c.in_ok-filter.ensures in
    let why = c.in_err-typed.field-0.0 in
    of_error c.from_residual-in_err-typed.result _ _ c.from_residual-in_err-typed.ensures.1
    (untyped_told c.args.text.now (view_filter c.in_ok-filter.filter) why.fault why.around parsed.found parsed.spans c.in_err-typed.ensures.around)

pub returns-clause-code : goal.returns-clause-code
returns-clause-code c =
    let same = c.in_ok-typed.ensures.same in
    let made = c.in_ok-code.ensures in
    let short : ¬ IsTooLong (code_of (view_filter c.in_ok-typed.typed)) = λ long. let no = made.too_long.1 long in absurd cc in
    let few : ¬ HasTooMany (code_of (view_filter c.in_ok-typed.typed)) = λ many. let no = made.too_many.1 (short, many) in absurd cc in (
      view_filter c.in_ok-filter.filter,
      record {
        spelled = c.in_ok-filter.ensures.found;
        only = c.in_ok-filter.ensures.unique;
        typed = c.in_ok-typed.ensures.typed;
        short = subst (λ f. ¬ IsTooLong (code_of (view_filter f))) same short;
        few = subst (λ f. ¬ HasTooMany (code_of (view_filter f))) same few;
        code = made.code ∙ ap (λ f. code_of (view_filter f)) same;
        means = subst (λ f. MeansTheSame (view_filter f) c.in_ok-code.field-0.code) same made.meaning;
      },
    )

pub returns-clause-places : goal.returns-clause-places
returns-clause-places c = (
  c.in_ok-filter.filter,
  c.in_ok-filter.ensures.found,
  c.in_ok-filter.ensures.placed,
  c.in_ok-code.ensures.places ∙ ap places_of c.in_ok-typed.ensures.same,
)

pub returns-in_err-code-clause-refused : goal.returns-in_err-code-clause-refused
returns-in_err-code-clause-refused c =
    let why = c.in_err-code.field-0.0 in
    let same = c.in_ok-typed.ensures.same in
    let refused = c.in_err-code.ensures in
    of_error c.from_residual-in_err-code.result _ _ c.from_residual-in_err-code.ensures.1
    (over_limit c.args.text.now (view_filter c.in_ok-filter.filter) why c.in_ok-filter.ensures.found c.in_ok-typed.ensures.typed
    (λ e. subst (λ f. IsTooLong (code_of (view_filter f))) same (refused.too_long.0 (ap (λ w. Err w) e)))
    (λ e. subst (λ f. ¬ IsTooLong (code_of (view_filter f)) × HasTooMany (code_of (view_filter f))) same
    (refused.too_many.0 (ap (λ w. Err w) e))))

pub returns-clause-tokens : goal.returns-clause-tokens
returns-clause-tokens c =
    let same = c.into_filter-filter.ensures ∙ c.in_ok-typed.ensures.same in
    let tokens = c.into_tokens.ensures ∙ ap (λ f. (view_filter f).tokens) same in
    subst (λ tokens. IsTokenization tokens 0 c.args.text.now) (sym tokens) c.in_ok-filter.ensures.found.cut
