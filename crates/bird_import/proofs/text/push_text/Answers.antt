use Rattle.std.proofs.Common.{◌≡◌, [], ◌∷◌, ◌++◌, length, drop, append-nil, sym, ◌∙◌, ap, arith}
use Rattle.std.proofs.lemmas.List.{drop_all}
use Rattle.filter_tokens.specs.Shapes.{line_feed}
use Rattle.bird_import.specs.Laying.{origins_behind, text_behind}
use Rattle.bird_import.proofs.Laying.{origins_further, text_further}
use Rattle.bird_import.proofs.text.push_text.Goals as goal

pub loop-word-preserved : goal.loop-word-preserved
loop-word-preserved c =
    let words = c.args.words.now in
    let k = c.loop-word.word-index in
    let text = c.loop-word.text.items in
    let gap = c.gap_before.result.now in
    let spaced = c.extend_from_slice.new.self.items in
    let below = c.loop-word-test.true in
    record {
      text = text_further words k _ c.loop-word.last text gap spaced _ below c.gap_before.ensures c.in_ok-extend_from_slice.ensures.items
          c.in_ok-extend_from_slice-2.ensures.items ∙ c.loop-word.invariant.text;
      origins = origins_further words k _ c.loop-word.last text gap spaced _ c.loop-word.origins.items c.push.new.self.items c.len-from.result below
          c.gap_before.ensures c.in_ok-extend_from_slice.ensures.items c.in_ok-extend_from_slice-2.ensures.items
          (c.len-from.ensures ∙ c.extend_from_slice.new.self.ok.0) c.in_ok-push.ensures.items ∙ c.loop-word.invariant.origins;
    }

pub returns-clause-text : goal.returns-clause-text
unfolding text_behind
returns-clause-text c =
    let none : drop c.loop-word.word-index c.args.words.now ≡ [] = drop_all c.loop-word.word-index c.args.words.now (omega arith) in
    c.in_ok-push-2.ensures.items
    ∙ ap (λ text. text ++ line_feed ∷ []) (sym (append-nil c.loop-word.text.items)
    ∙ ap (λ words. c.loop-word.text.items ++ text_behind c.loop-word.last words) (sym none) ∙ c.loop-word.invariant.text)

pub returns-clause-origins : goal.returns-clause-origins
unfolding origins_behind
returns-clause-origins c =
    let none : drop c.loop-word.word-index c.args.words.now ≡ [] = drop_all c.loop-word.word-index c.args.words.now (omega arith) in
    sym (append-nil c.loop-word.origins.items)
    ∙ ap (λ words. c.loop-word.origins.items ++ origins_behind (length c.loop-word.text.items) c.loop-word.last words) (sym none)
    ∙ c.loop-word.invariant.origins
