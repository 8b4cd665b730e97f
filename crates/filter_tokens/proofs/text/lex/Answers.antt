use Rattle.std.proofs.Common.{◌+◌, refl, arith}
use Rattle.filter_tokens.specs.declared.part.Part.TheVariants as part
use Rattle.filter_tokens.proofs.Tokenized.{tokenized_once, step-bounds, step-gap, step-token, step-order, step-stopped, step-stopped-at, ended-found}
use Rattle.filter_tokens.proofs.Tokenized.{ended-only, ordered-further}
use Rattle.filter_tokens.proofs.text.lex.Goals as goal

pub loop-at-preserved-in-Ok-Gap : goal.loop-at-preserved-in-Ok-Gap
loop-at-preserved-in-Ok-Gap c =
    let text = c.args.text.now in
    let at = c.loop-at.at in
    let len = c.in-Ok-Gap.len in
    let read = rw c.in-Ok-Gap.field-0-is at c.in-Ok-Gap.ensures.is in
    let bounds = step-bounds text at (part.Gap len) c.loop-at.invariant.within read in
    record {
      within = bounds.1;
      lexes = step-gap text c.loop-at.tokens.items at len read c.loop-at.invariant.lexes;
      order = ordered-further 0 c.loop-at.tokens.items at (at + len) (omega arith) c.loop-at.invariant.order;
    }

pub loop-at-preserved : goal.loop-at-preserved
loop-at-preserved c =
    let text = c.args.text.now in
    let at = c.loop-at.at in
    let kind = c.in-Ok-Token.word in
    let len = c.in-Ok-Token.len in
    let read = rw c.in-Ok-Token.field-0-is at c.in-Ok-Token.ensures.is in
    let bounds = step-bounds text at (part.Token kind len) c.loop-at.invariant.within read in
    let pushed = c.in_ok-push-in-Ok-Token.ensures.items in
    record {
      within = bounds.1;
      lexes = step-token text c.loop-at.tokens.items c.push.new.self.items at kind len read pushed c.loop-at.invariant.lexes;
      order = step-order c.loop-at.tokens.items c.push.new.self.items at kind len pushed bounds.0 c.loop-at.invariant.order;
    }

pub returns-in-Err-clause-spans : goal.returns-in-Err-clause-spans
returns-in-Err-clause-spans c = ordered-further 0 c.loop-at.tokens.items c.loop-at.at _ c.loop-at.invariant.within c.loop-at.invariant.order

pub returns-in-Err-clause-only : goal.returns-in-Err-clause-only
returns-in-Err-clause-only c tokens cuts =
    absurd (step-stopped c.args.text.now c.loop-at.tokens.items c.loop-at.at
    (omega arith) c.in-Err.ensures.is c.loop-at.invariant.lexes tokens cuts)

pub returns-in-Err-clause-stopped : goal.returns-in-Err-clause-stopped
returns-in-Err-clause-stopped c =
    step-stopped-at c.args.text.now c.loop-at.tokens.items c.loop-at.at _ (omega arith) c.in-Err.ensures.is c.loop-at.invariant.lexes
    c.in-Err.ensures.placed

pub returns-clause-found : goal.returns-clause-found
returns-clause-found c none = ended-found c.args.text.now c.loop-at.tokens.items c.loop-at.at (omega arith) c.loop-at.invariant.lexes

pub returns-clause-only : goal.returns-clause-only
returns-clause-only c tokens cuts =
    (refl, ended-only c.args.text.now c.loop-at.tokens.items c.loop-at.at (omega arith) c.loop-at.invariant.lexes tokens cuts)

pub returns-in_err-push-in-Ok-Token-clause-one : goal.returns-in_err-push-in-Ok-Token-clause-one
returns-in_err-push-in-Ok-Token-clause-one c = tokenized_once c.args.text.now

pub returns-in-Err-clause-one : goal.returns-in-Err-clause-one
returns-in-Err-clause-one c = tokenized_once c.args.text.now

pub returns-clause-one : goal.returns-clause-one
returns-clause-one c = tokenized_once c.args.text.now

pub returns-in_err-tokens-clause-one : goal.returns-in_err-tokens-clause-one
returns-in_err-tokens-clause-one c = tokenized_once c.args.text.now
