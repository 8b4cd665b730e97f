use Rattle.std.proofs.Common.{◌<◌, length, arith, refl}
use Rattle.std.proofs.lemmas.Option.{slice_get_read}
use Rattle.bird_import.proofs.Spelled.{all_spelled, false_not_true, lies_in, not_alike, one_more, spelled_at}
use Rattle.bird_import.proofs.text.are_words.Goals as goal

pub is_word-requires : goal.is_word-requires
is_word-requires c =
    lies_in 0 _ c.loop-at.at c.args.tokens.now c.index-tokens-at.result c.requires
    (slice_get_read c.args.tokens.now _ c.loop-at.at c.index-tokens-at.result refl c.loop-at-test.true c.index-tokens-at.is)

pub returns-then-not-is_word : goal.returns-then-not-is_word
returns-then-not-is_word c =
    let below : c.loop-at.at < length c.args.words.now = omega (arith, c.loop-at-test.true, c.if-tokens-words.false) in (
      λ is. absurd (false_not_true is),
      λ alike. absurd (not_alike c.args.text.now c.args.tokens.now c.args.words.now c.loop-at.at c.index-tokens-at.result _
          c.loop-at-test.true c.index-tokens-at.is below (λ spelled. false_not_true (c.if-not-is_word.ensures.1 spelled)) alike),
    )

pub loop-at-preserved : goal.loop-at-preserved
loop-at-preserved c =
    let below : c.loop-at.at < length c.args.words.now = omega (arith, c.loop-at-test.true, c.if-tokens-words.false) in
    one_more c.args.text.now c.args.tokens.now c.args.words.now c.loop-at.at c.loop-at.invariant
    (spelled_at c.args.text.now c.args.tokens.now c.args.words.now c.loop-at.at c.index-tokens-at.result _
    c.loop-at-test.true c.index-tokens-at.is below (c.if-not-is_word.ensures.0 refl))

pub returns : goal.returns
returns c = (
  λ is. all_spelled c.args.text.now c.args.tokens.now c.args.words.now c.loop-at.at c.if-tokens-words.false
      (λ k below. omega (arith, below, c.loop-at-test.false)) c.loop-at.invariant,
  λ alike. refl,
)
