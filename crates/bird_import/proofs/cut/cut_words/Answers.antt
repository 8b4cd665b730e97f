use Rattle.std.proofs.Common.{◌≡◌, ◌∙◌, ◌+◌, ◌-◌, length, drop, sym, subst, arith}
use Rattle.std.proofs.lemmas.List.{take_rest}
use Rattle.filter_tokens.specs.Tokenization.{IsTokenization}
use Rattle.bird_import.specs.Cutting.{HasWords}
use Rattle.bird_import.proofs.Cutting.{no_words}
use Rattle.bird_import.proofs.Words.{IsMade}
use Rattle.bird_import.proofs.Stops.{lexed_whole, stopped, ends_unended, other_fits, add_other}
use Rattle.bird_import.proofs.cut.cut_words.Goals as goal

pub loop-at-init : goal.loop-at-init
loop-at-init c = record {
  within = omega arith;
  words = subst (λ ws. HasWords c.args.text.now 0 ws 0) (sym c.new-words.ensures.items) (no_words c.args.text.now);
}

pub returns-in_default : goal.returns-in_default
returns-in_default c =
    let text = c.args.text.now in
    let at = c.loop-at.at in
    let tokens = c.as_slice.result.now in
    let found = c.in_ok-lexed.ensures.found c.in_default.is in
    let lexed : IsTokenization tokens 0 (drop at text) =
    subst (λ ts. IsTokenization ts 0 (drop at text)) (sym c.as_slice.ensures.value)
    (subst (IsTokenization c.in_ok-lexed.lexed.tokens.items 0) (take_rest text at) found) in
    let whole = lexed_whole text at tokens c.loop-at.invariant.within lexed in
    let added = c.in_ok-behind.ensures (length text) whole c.loop-at.invariant.words in
    record { behind = c.in_ok-behind.behind; words = added.0; ends = added.1 }

pub returns-in-Some-unended : goal.returns-in-Some-unended
returns-in-Some-unended c =
    let text = c.args.text.now in
    let at = c.loop-at.at in
    let stops = rw c.in-Some.is at c.in_ok-lexed.ensures.stopped in
    let are = stopped text at _ c.at.result _ _ _ _ _ stops c.as_slice.ensures.value c.at.ensures c.loop-at.invariant.words c.in_ok-behind.ensures in
    record {
      behind = c.in_ok-behind.behind;
      words = are.has;
      ends = ends_unended text _ _ _ _ are c.in-Some-unended.ensures.some.0 c.in-Some-unended.ensures.some.1;
    }

pub word_between-requires : goal.word_between-requires
word_between-requires c =
    let text = c.args.text.now in
    let at = c.loop-at.at in
    let stops = rw c.in-Some.is at c.in_ok-lexed.ensures.stopped in
    let are = stopped text at _ c.at.result _ _ _ _ _ stops c.as_slice.ensures.value c.at.ensures c.loop-at.invariant.words c.in_ok-behind.ensures in
    record {
      order = (are.gap.in_order, omega arith, other_fits text (at + c.at.result) c.other_len.result are.below c.other_len.ensures.within.1);
    }

pub loop-at-preserved : goal.loop-at-preserved
loop-at-preserved c =
    let text = c.args.text.now in
    let at = c.loop-at.at in
    let from = at + c.at.result in
    let to = from + c.other_len.result in
    let kind = c.other_kind.result in
    let behind = c.in_ok-behind.behind in
    let word = c.word_between.result in
    let stops = rw c.in-Some.is at c.in_ok-lexed.ensures.stopped in
    let are = stopped text at _ c.at.result _ _ _ _ _ stops c.as_slice.ensures.value c.at.ensures c.loop-at.invariant.words c.in_ok-behind.ensures in
    let fits = other_fits text from c.other_len.result are.below c.other_len.ensures.within.1 in
    let made : IsMade text kind behind from to word = record {
      of_kind = c.word_between.ensures.kind;
      at = c.word_between.ensures.at;
      gap = c.word_between.ensures.gap;
      bytes = c.word_between.ensures.bytes;
      some = omega (arith, c.other_len.ensures.within.0);
      within = fits;
    } in
    let none = c.in_default-unended.ensures.none in
    let whole : to - from ≡ _ = omega arith ∙ c.other_len.ensures.len in
    let added = add_other text kind behind from to _ word made are c.other_kind.ensures whole none.0 none.1 in
    record {
      within = fits;
      words = subst (λ ws. HasWords text 0 ws to) (sym c.in_ok-push.ensures.items) added;
    }
