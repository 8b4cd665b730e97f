use Rattle.std.proofs.Common.{◌≡◌, ◌∙◌, List, None, Some, ap, length, refl, subst, sym}
use Rattle.expression_parser.specs.Codes.{LiesWithin}
use Rattle.filter_tokens.specs.Lexemes.{lexemes}
use Rattle.filter_tokens.specs.declared.token.Token.{Token}
use Rattle.filter_syntax.specs.Placed.{IsPlaced}
use Rattle.filter_syntax.specs.SyntaxText.{IsText, view_filter}
use Rattle.filter_syntax.specs.declared.tree.filter.Filter.{Filter}
use Rattle.filter_parser.specs.Heads.{AreTokensOf, HasHead, with_head}
use Rattle.filter_parser.specs.declared.unparsed.Unparsed.{Unparsed}
use Rattle.filter_parser.proofs.Heads.{cut, has_head, head_memory, head_within, stops_within}
use Rattle.filter_parser.specs.ReadingCommands.{filter_of, view_parts}
use Rattle.filter_parser.proofs.Texts.{text_found, text_once, text_only}
use Rattle.expression_parser.proofs.Within.{begin_all, ends_all}
use Rattle.filter_parser.proofs.text.filter_of_tokens.Goals as goal

pub returns-in-None-clause-found : goal.returns-in-None-clause-found
returns-in-None-clause-found c =
    subst (λ (filter : Filter). IsText c.args.text.now (view_filter filter)) (sym c.new.ensures)
    (text_found c.args.text.now c.args.tokens.items (view_parts c.in-Ok.parts) c.requires.size (c.requires.cut c.in-None.is)
    (rw (c.as_slice.ensures.value) at c.in-Ok.ensures.reads))

pub returns-in-None-clause-unique : goal.returns-in-None-clause-unique
returns-in-None-clause-unique c = λ t is.
    text_once c.args.text.now c.args.tokens.items (view_parts c.in-Ok.parts) t (rw (c.as_slice.ensures.value) at c.in-Ok.ensures.reads) is
    (c.requires.only t.tokens is.cut).1 ∙ ap view_filter (sym c.new.ensures)

pub returns-in-Some-clause-refused : goal.returns-in-Some-clause-refused
returns-in-Some-clause-refused c = λ other t is.
    let none : c.args.fault ≡ None = (c.requires.only t.tokens is.cut).0 in
    let some : c.args.fault ≡ Some c.in-Some.fault = c.in-Some.is in
    absurd (cc)

pub returns-in-Err-clause-refused : goal.returns-in-Err-clause-refused
returns-in-Err-clause-refused c = λ other t is.
    let fault : c.at-in-Err.result.fault ≡ c.with_head-fault.result = ap (λ (u : Unparsed). u.fault) c.at-in-Err.ensures in
    let memory = head_memory c.as_slice-in-Err.result.now c.in-Err.fault (λ e. other (fault ∙ c.with_head-fault.ensures ∙ e)) in
    let none : filter_of (lexemes c.args.text.now c.args.tokens.items) ≡ None = rw (c.as_slice.ensures.value) at (c.in-Err.ensures.reads memory) in
    let some = text_only c.args.text.now c.args.tokens.items t is (c.requires.only t.tokens is.cut).1 in
    absurd (cc)

pub returns-in-None-clause-placed : goal.returns-in-None-clause-placed
returns-in-None-clause-placed c =
    subst (λ (filter : Filter). IsPlaced c.args.text.now filter) (sym c.new.ensures) (rw (c.as_slice.ensures.value) at c.in-Ok.ensures.placed)

pub returns-in-Err-clause-within : goal.returns-in-Err-clause-within
returns-in-Err-clause-within c =
    let begin = begin_all _ c.as_slice.ensures.value c.requires.spans in
    let end = ends_all _ c.args.fault (stops_within c.args.fault c.args.tokens.items c.args.text.now c.requires.stops) in
    let fault : c.at-in-Err.result.fault ≡ c.with_head-fault.result = ap (λ (u : Unparsed). u.fault) c.at-in-Err.ensures in
    subst (λ why. LiesWithin (length c.args.text.now) why) (sym (fault ∙ c.with_head-fault.ensures))
    (head_within _ c.as_slice-in-Err.result.now c.in-Err.fault (c.in-Err.ensures.within _ (record { text = refl; tokens = begin; end = end })))

pub returns-in-Err-clause-head : goal.returns-in-Err-clause-head
returns-in-Err-clause-head c =
    let text = c.args.text.now in
    let tokens = c.args.tokens.items in
    let are : AreTokensOf text tokens = (c.requires.spans, cut c.args.fault tokens text c.requires.cut c.requires.stops) in
    let fault : c.at-in-Err.result.fault ≡ c.with_head-fault.result = ap (λ (u : Unparsed). u.fault) c.at-in-Err.ensures in
    let same : with_head tokens c.in-Err.fault ≡ c.at-in-Err.result.fault =
    sym (fault ∙ c.with_head-fault.ensures ∙ ap (λ (ts : List Token). with_head ts c.in-Err.fault) c.as_slice-in-Err.ensures.value) in
    subst (HasHead text) same (has_head text tokens are c.in-Err.fault)
