use Rattle.std.proofs.Common.{sym, ap, ◌∙◌}
use Rattle.line_protocol.specs.Words.{words}
use Rattle.history_file.proofs.Turns.{after, prefix_bad, prefix_more, prefixes_end}
use Rattle.history_file.specs.Reading.{all_prefixes}
use Rattle.history_file.proofs.reading.all_prefixes.Goals as goal

pub returns-in_default-read_prefix : goal.returns-in_default-read_prefix
returns-in_default-read_prefix c =
    let xs = c.loop-word.prefixes.items in
    prefix_bad (all_prefixes (words c.args.line.now)) xs c.in-Some.word.now (words c.in-Some.later.now)
    (c.loop-word.invariant ∙ ap (λ ws. after xs (all_prefixes ws)) c.in-Some.ensures.found) (sym c.in_default-read_prefix.ensures.exact)

pub loop-word-preserved : goal.loop-word-preserved
loop-word-preserved c =
    let xs = c.loop-word.prefixes.items in
    rw c.in_ok-push.ensures.items
    (prefix_more (all_prefixes (words c.args.line.now)) xs c.in-Some-read_prefix.prefix c.in-Some.word.now (words c.in-Some.later.now)
    (c.loop-word.invariant ∙ ap (λ ws. after xs (all_prefixes ws)) c.in-Some.ensures.found) (sym c.in-Some-read_prefix.ensures.exact))

pub returns : goal.returns
returns c = prefixes_end (all_prefixes (words c.args.line.now)) c.loop-word.prefixes.items (words c.loop-word.rest.now) c.loop-word.invariant
    c.in_default.ensures.none
