use Rattle.std.proofs.Common.{◌<◌, ◌+◌, length, subst, arith}
use Rattle.bird_import.specs.Scopes.{AreInScope}
use Rattle.bird_import.specs.Steps.{BecomesWithin}
use Rattle.bird_import.specs.Stuck.{AreApart, Halts, Hinder, Hinders}
use Rattle.bird_import.proofs.Halted.{at_once, by_copy, by_hinders, by_refusal, by_steps, by_words, by_work, hinders_of, more_of_why, stuck_at}
use Rattle.bird_import.proofs.Reached.{call_is_next, no_step, steps_on}
use Rattle.bird_import.proofs.conversions.+rewriting.Goals as goal

pub next_call-returns-in-Err-clause-stuck : goal.next_call-returns-in-Err-clause-stuck
next_call-returns-in-Err-clause-stuck t c =
    by_refusal c.args.config.now c.args.depth c.args.words.now c.in-Err.reason.why c.in-Err.ensures.refused

pub next_call-returns-in-Converted-clause-step : goal.next_call-returns-in-Converted-clause-step
next_call-returns-in-Converted-clause-step t c =
    call_is_next c.args.config.now.words.now c.args.words.now c.args.depth c.in-Ok.callee.less c.in-Ok.callee.source.now
    c.in_ok-copy_of.field-0.items c.in-Converted.function.items c.as_slice.result.now c.place_call.result c.in-Ok.ensures.callee
    c.in_ok-copy_of.ensures c.as_slice.ensures.value (rw c.in-Converted.is at c.in_ok-function.ensures.converted) c.place_call.ensures.step

pub next_call-returns-in-Converted-clause-stuck : goal.next_call-returns-in-Converted-clause-stuck
next_call-returns-in-Converted-clause-stuck t c =
    let config = c.args.config.now in
    let words = c.args.words.now in
    more_of_why (Hinder words) (Halts config c.args.depth words) c.place_call.result
    (λ why is. by_hinders config c.args.depth words why (hinders_of config words why is)) c.place_call.ensures.stuck

pub next_call-returns-in-LeftOut-clause-stuck : goal.next_call-returns-in-LeftOut-clause-stuck
next_call-returns-in-LeftOut-clause-stuck t c =
    by_copy c.args.config.now c.args.depth c.in-Ok.callee.less c.args.words.now c.in-Ok.callee.item.now c.in_ok-copy_of.field-0.items
    c.in-Ok.callee.source.now c.in-LeftOut.reason.why c.in-Ok.ensures.callee.deep c.in-Ok.ensures.called.0 c.in_ok-copy_of.ensures
    c.in-Ok.ensures.called.1 (rw c.in-LeftOut.is at c.in_ok-function.ensures.stuck)

pub next_words-returns-in-None-clause-stuck : goal.next_words-returns-in-None-clause-stuck
next_words-returns-in-None-clause-stuck t c =
    let config = c.args.config.now in
    let words = c.args.words.now in
    more_of_why (Hinders config words) (Halts config c.args.depth words) c.next_step.result (λ why is. by_hinders config c.args.depth words why is)
    c.next_step.ensures.stuck

pub rewrite-returns-then-len-gt-WORD_LIMIT-clause-stuck : goal.rewrite-returns-then-len-gt-WORD_LIMIT-clause-stuck
rewrite-returns-then-len-gt-WORD_LIMIT-clause-stuck t c =
    let config = c.args.config.now in
    let words = c.args.words.items in
    by_words config c.args.depth 0 words words (no_step config.words.now (BecomesWithin config.words.now c.args.depth) words)
    c.too_long.result c.too_long.ensures (omega arith)

pub rewrite-returns-in-Some-clause-stuck : goal.rewrite-returns-in-Some-clause-stuck
rewrite-returns-in-Some-clause-stuck t c =
    at_once c.args.config.now c.args.depth c.args.words.items c.as_slice-2.result.now c.in-Some.reason.why c.as_slice-2.ensures.value c.in-Some.ensures.some

pub rewrite-returns-in-Done-clause-apart : goal.rewrite-returns-in-Done-clause-apart
rewrite-returns-in-Done-clause-apart t c =
    subst (λ list. AreApart c.args.config.now list) c.as_slice-2.ensures.value (c.first_of_two_meanings.ensures.none c.in_default.is)

pub rewrite-returns-in-Some-first_stray-clause-stuck : goal.rewrite-returns-in-Some-first_stray-clause-stuck
rewrite-returns-in-Some-first_stray-clause-stuck t c =
    let slice = c.as_slice-3.result.now in
    let why = c.in-Some-first_stray.reason.why in
    at_once c.args.config.now c.args.depth c.args.words.items slice why c.as_slice-3.ensures.value
    (hinders_of c.args.config.now slice why c.in-Some-first_stray.ensures.some)

pub rewrite-returns-in-Done-clause-in_scope : goal.rewrite-returns-in-Done-clause-in_scope
rewrite-returns-in-Done-clause-in_scope t c =
    subst (λ list. AreInScope list) c.as_slice-3.ensures.value (c.first_stray.ensures.none c.in_default-first_stray.is)

pub rewrite-loop-made-init : goal.rewrite-loop-made-init
rewrite-loop-made-init t c = let defined = c.in_ok-words.ensures c.args.depth in (defined.0, omega arith, defined.1)

pub rewrite-loop-made-preserved : goal.rewrite-loop-made-preserved
rewrite-loop-made-preserved t c =
    let so_far = c.loop-made.invariant in
    let config = c.args.config.now.words.now in
    let later = steps_on config (BecomesWithin config c.args.depth) so_far.0 c.args.words.items c.loop-made.words.items
    c.as_slice-all.result.now c.in-Words.after.items c.as_slice-all.ensures.value so_far.2 (rw c.in-Words.is at c.in_ok-after.ensures.step) in
    (so_far.0 + 1, omega (arith, so_far.1), later)

pub rewrite-returns-then-all-gt-WORD_LIMIT-clause-stuck : goal.rewrite-returns-then-all-gt-WORD_LIMIT-clause-stuck
rewrite-returns-then-all-gt-WORD_LIMIT-clause-stuck t c =
    by_words c.args.config.now c.args.depth c.loop-made.invariant.0 c.args.words.items c.loop-made.words.items c.loop-made.invariant.2
    c.too_long-then-all-gt-WORD_LIMIT.result c.too_long-then-all-gt-WORD_LIMIT.ensures
    (subst (λ list. 65536 < length list) c.as_slice-all.ensures.value c.if-all-gt-WORD_LIMIT.true)

pub rewrite-returns-then-is_much-clause-stuck : goal.rewrite-returns-then-is_much-clause-stuck
rewrite-returns-then-is_much-clause-stuck t c =
    by_work c.args.config.now c.args.depth c.loop-made.invariant.0 c.args.words.items c.loop-made.words.items c.loop-made.invariant.2
    c.too_long-then-is_much.result c.loop-made.made c.as_slice-all.result.now c.too_long-then-is_much.ensures c.as_slice-all.ensures.value c.loop-made.invariant.1
    (c.is_much.ensures c.if-is_much.true)

pub rewrite-returns-in-Stuck-clause-stuck : goal.rewrite-returns-in-Stuck-clause-stuck
rewrite-returns-in-Stuck-clause-stuck t c =
    stuck_at c.args.config.now c.args.depth c.loop-made.invariant.0 c.args.words.items c.loop-made.words.items c.loop-made.invariant.2
    c.as_slice-all.result.now c.in-Stuck.reason.why c.as_slice-all.ensures.value (rw c.in-Stuck.is at c.in_ok-after.ensures.stuck)

pub rewrite-returns-in-Done-clause-converted : goal.rewrite-returns-in-Done-clause-converted
rewrite-returns-in-Done-clause-converted t c = (c.loop-made.invariant.0, c.loop-made.invariant.2)

pub rewrite-returns-clause-stuck : goal.rewrite-returns-clause-stuck
rewrite-returns-clause-stuck t c =
    by_steps c.args.config.now c.args.depth c.loop-made.invariant.0 c.args.words.items c.loop-made.words.items c.loop-made.invariant.2
    c.too_long-2.result c.too_long-2.ensures (omega (arith, c.loop-made.invariant.1, c.loop-made-test.false))
