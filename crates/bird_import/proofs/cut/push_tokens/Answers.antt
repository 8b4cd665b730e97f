use Rattle.std.proofs.Common.{◌≡◌, ℕ, ◌+◌, ◌-◌, ◌<◌, ◌≤◌, List, [], ◌∷◌, length, get_or, drop, sym, ap, ◌∙◌, subst, arith, rules}
use Rattle.std.proofs.lemmas.List.{drop_more, drop_all}
use Rattle.filter_tokens.specs.declared.token.Token.{Token}
use Rattle.filter_tokens.specs.Tokenization.{AreInOrder}
use Rattle.bird_import.specs.declared.word.Word.{Word}
use Rattle.bird_import.specs.Spelling.{kind_of}
use Rattle.bird_import.specs.Cutting.{IsGapBetween, HasWords, AreTokensIn}
use Rattle.bird_import.proofs.Cutting.{last_gap}
use Rattle.bird_import.proofs.Words.{IsMade, add_token}
use Rattle.bird_import.proofs.cut.push_tokens.Goals as goal

-- tokens in order lie before their end
order_ends : (from : ℕ) (tokens : List Token) (to : ℕ) → AreInOrder from tokens to → from ≤ to
order_ends from [] to order = order
order_ends from (token ∷ tokens) to order = omega (arith, order.0, order.1, order_ends token.to tokens to order.2)

-- the token at an index, and those behind it
record IsHere (text : List ℕ) (at behind : ℕ) (left : List Token) (token : Token) (tokens : List Token) : Type 0 where
  pub left_is : left ≡ token ∷ tokens
  pub after : behind ≤ at + token.from
  pub some : token.from < token.to
  pub within : at + token.to ≤ length text
  pub later : AreInOrder token.to tokens (length text - at)

is_here : (text : List ℕ) (at behind : ℕ) (all : List Token) (i : ℕ) (token : Token) → at ≤ behind → behind ≤ length text → i < length all
    → token ≡ get_or all i token → AreInOrder (behind - at) (drop i all) (length text - at)
    → IsHere text at behind (drop i all) token (drop (i + 1) all)
is_here text at behind all i token from within below is order =
    let left : drop i all ≡ token ∷ drop (i + 1) all = drop_more all i token below ∙ ap (λ t. t ∷ drop (i + 1) all) (sym is) in
    let here : AreInOrder (behind - at) (token ∷ drop (i + 1) all) (length text - at) =
    subst (λ ts. AreInOrder (behind - at) ts (length text - at)) left order in
    let ends = order_ends token.to (drop (i + 1) all) (length text - at) here.2 in
    record {
      left_is = left;
      after = omega (arith, here.0);
      some = here.1;
      within = omega (arith, ends, here.0, here.1);
      later = here.2;
    }

pub overflow_add-to : goal.overflow_add-to
overflow_add-to c =
    let v = c.loop-token.invariant in
    let here = is_here c.args.text.now c.args.at c.loop-token.behind c.args.tokens.now c.loop-token.token-index c.token-item.result v.from v.within
    (omega arith) c.token-item.is v.order in
    search rules

pub overflow_add-at : goal.overflow_add-at
overflow_add-at c =
    let v = c.loop-token.invariant in
    let here = is_here c.args.text.now c.args.at c.loop-token.behind c.args.tokens.now c.loop-token.token-index c.token-item.result v.from v.within
    (omega arith) c.token-item.is v.order in
    search rules

pub word_between-requires : goal.word_between-requires
word_between-requires c =
    let v = c.loop-token.invariant in
    let here = is_here c.args.text.now c.args.at c.loop-token.behind c.args.tokens.now c.loop-token.token-index c.token-item.result v.from v.within
    (omega arith) c.token-item.is v.order in
    record { order = (here.after, omega (arith, here.some), here.within) }

pub loop-token-preserved : goal.loop-token-preserved
loop-token-preserved c =
    let text = c.args.text.now in
    let at = c.args.at in
    let all = c.args.tokens.now in
    let behind = c.loop-token.behind in
    let i = c.loop-token.token-index in
    let token = c.token-item.result in
    let word = c.word_between.result in
    let v = c.loop-token.invariant in
    let here = is_here text at behind all i token v.from v.within (omega arith) c.token-item.is v.order in
    let place : at + token.to - at ≡ token.to = omega arith in
    let begin : behind ≡ at + (behind - at) = omega (arith, v.from) in
    let made : IsMade text (kind_of token.word) behind (at + token.from) (at + token.to) word = record {
      of_kind = c.word_between.ensures.kind ∙ c.of.ensures;
      at = c.word_between.ensures.at;
      gap = c.word_between.ensures.gap;
      bytes = c.word_between.ensures.bytes;
      some = omega (arith, here.some);
      within = here.within;
    } in
    record {
      from = omega arith;
      within = here.within;
      order = subst (λ n. AreInOrder n (drop (i + 1) all) (length text - at)) (sym place) here.later;
      added = λ to lexed has.
          let before = v.added to lexed has in
          let left : AreTokensIn text at (token ∷ drop (i + 1) all) (behind - at) to =
          subst (λ ts. AreTokensIn text at ts (behind - at) to) here.left_is before.1 in
          let added = add_token text at (behind - at) behind to c.loop-token.words.items word token (drop (i + 1) all) begin made left before.0 in (
            subst (λ ws. HasWords text 0 ws (at + token.to)) (sym {A = List Word} c.in_ok-push.ensures.items) added.0,
            subst (λ n. AreTokensIn text at (drop (i + 1) all) n to) (sym place) added.1,
          );
    }

pub returns : goal.returns
returns c to lexed has =
    let text = c.args.text.now in
    let at = c.args.at in
    let behind = c.loop-token.behind in
    let all = c.args.tokens.now in
    let added = c.loop-token.invariant.added to lexed has in
    let none : drop c.loop-token.token-index all ≡ [] = drop_all c.loop-token.token-index all (omega arith) in
    let place : at + (behind - at) ≡ behind = omega (arith, c.loop-token.invariant.from) in
    let left : AreTokensIn text at [] (behind - at) to = subst (λ ts. AreTokensIn text at ts (behind - at) to) none added.1 in
    (added.0, subst (λ n. IsGapBetween text n to) place (last_gap text at (behind - at) to left))
