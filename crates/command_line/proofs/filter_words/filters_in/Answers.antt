-- The words so far name filters, and the next one names one more or is wrong.
use Rattle.std.proofs.Common.{List, map, subst, sym}
use Rattle.command_line.specs.Filters.{NameFirst}
use Rattle.command_line.specs.declared.filter_words.NamedFile.{NamedFile}
use Rattle.command_line.proofs.Filtered.{names_more, names_none, names_twice, none_named}
use Rattle.command_line.proofs.filter_words.filters_in.Goals as goal

pub loop-word-init : goal.loop-word-init
loop-word-init c =
    let words = map (λ word. word.now) c.args.words.now in
    subst (λ (l : List NamedFile). NameFirst words 0 l) (sym c.new-filters.ensures.items) (none_named words)

pub returns-in-None-clause-wrong : goal.returns-in-None-clause-wrong
returns-in-None-clause-wrong c =
    names_none c.args.words.now c.loop-word.word-index _ c.loop-word.filters.items c.loop-word-test.true c.loop-word.invariant
    c.in_ok-filter_of.field-0 c.in_ok-filter_of.ensures c.in-None.is

pub returns-then-has_name-clause-wrong : goal.returns-then-has_name-clause-wrong
returns-then-has_name-clause-wrong c =
    names_twice c.args.words.now c.loop-word.word-index _ c.loop-word.filters.items c.loop-word-test.true c.loop-word.invariant
    c.in_ok-filter_of.field-0 c.in-Some.named c.in_ok-filter_of.ensures c.in-Some.is c.as_slice.result.now c.as_str.result.now
    c.as_slice.ensures.value c.as_str.ensures.value c.has_name.result c.has_name.ensures c.if-has_name.true

pub loop-word-preserved : goal.loop-word-preserved
loop-word-preserved c =
    names_more c.args.words.now c.loop-word.word-index _ c.loop-word.filters.items c.loop-word-test.true c.loop-word.invariant
    c.in_ok-filter_of.field-0 c.in-Some.named c.in_ok-filter_of.ensures c.in-Some.is c.as_slice.result.now c.as_str.result.now
    c.as_slice.ensures.value c.as_str.ensures.value c.has_name.result c.push.new.self.items c.has_name.ensures c.if-has_name.false
    c.in_ok-push-in-Some.ensures.items
