-- The words that are added for the tokens and for what is no token.
use Rattle.std.proofs.Common.{◌≡◌, ℕ, ◌+◌, ◌-◌, ◌<◌, ◌≤◌, List, [], ◌∷◌, ◌++◌, length, take, drop}
use Rattle.std.proofs.Common.{sym, ◌∙◌, ap, subst, arith, inl, length-drop, length-take}
use Rattle.filter_tokens.specs.declared.token.Token.{Token}
use Rattle.filter_tokens.specs.Tokenization.{IsToken}
use Rattle.bird_import.specs.Spelling.{kind_of}
use Rattle.bird_import.specs.Cutting.{IsGapBetween, IsWordIn, IsNextWord, HasWords, AreTokensIn}
use Rattle.bird_import.specs.declared.word.Word.{Word}
use Rattle.bird_import.specs.declared.word.WordKind.{WordKind}
use Rattle.bird_import.proofs.Cutting.{one_more_word, next_token}

-- a word that is made of a text: its kind, its place, what is before it and its bytes
pub record IsMade (text : List ℕ) (kind : WordKind) (behind from to : ℕ) (word : Word) : Type 0 where
  pub of_kind : word.kind ≡ kind
  pub at : word.at ≡ from
  pub gap : word.gap.now ≡ take (from - behind) (drop behind text)
  pub bytes : word.bytes.now ≡ take (to - from) (drop from text)
  pub some : from < to
  pub within : to ≤ length text

pub made_length : (text : List ℕ) (kind : WordKind) (behind from to : ℕ) (word : Word) → IsMade text kind behind from to word
    → length word.bytes.now ≡ to - from
made_length text kind behind from to word made =
    let some = made.some in
    let within = made.within in
    ap length made.bytes ∙ length-take (to - from) (drop from text) ∙ omega (arith, length-drop from text)

-- it is the next word, where it stands in the text
pub add_made : (text : List ℕ) (kind : WordKind) (behind from to : ℕ) (words : List Word) (word : Word)
    → IsMade text kind behind from to word → HasWords text 0 words behind → IsGapBetween text behind from → IsWordIn text word
    → HasWords text 0 (words ++ word ∷ []) to
add_made text kind behind from to words word made has gap stands =
    let len = made_length text kind behind from to word made in
    let bytes : word.bytes.now ≡ take (length word.bytes.now) (drop word.at text) =
    made.bytes ∙ ap (λ n. take n (drop from text)) (sym len) ∙ ap (λ n. take (length word.bytes.now) (drop n text)) (sym made.at) in
    let next : IsNextWord text behind word = record {
      between = subst (λ n. IsGapBetween text behind n) (sym made.at) gap;
      stands = stands;
      some = omega (arith, len, made.some);
      gap = made.gap ∙ ap (λ n. take (n - behind) (drop behind text)) (sym made.at);
      bytes = bytes;
    } in
    let end : word.at + length word.bytes.now ≡ to = omega (arith, len, made.some, made.at) in
    subst (λ n. HasWords text 0 (words ++ word ∷ []) n) end (one_more_word text 0 words behind word has next)

-- a token is added
pub add_token : (text : List ℕ) (at from behind to : ℕ) (words : List Word) (word : Word) (token : Token) (tokens : List Token)
    → behind ≡ at + from → IsMade text (kind_of token.word) behind (at + token.from) (at + token.to) word
    → AreTokensIn text at (token ∷ tokens) from to → HasWords text 0 words behind
    → HasWords text 0 (words ++ word ∷ []) (at + token.to) × AreTokensIn text at tokens token.to to
add_token text at from behind to words word token tokens begin made here has =
    let next = next_token text at token tokens from to here in
    let len = made_length text (kind_of token.word) behind (at + token.from) (at + token.to) word made in
    let same : token.to - token.from ≡ length word.bytes.now = omega (arith, len) in
    let there : IsToken (drop word.at text) token.word (length word.bytes.now) =
    subst (λ n. IsToken (drop n text) token.word (length word.bytes.now)) (sym made.at)
    (subst (λ n. IsToken (drop (at + token.from) text) token.word n) same next.is) in
    let between : IsGapBetween text behind (at + token.from) =
    subst (λ n. IsGapBetween text n (at + token.from)) (sym begin) next.between in (
      add_made text (kind_of token.word) behind (at + token.from) (at + token.to) words word made has between
          (inl (token.word, made.of_kind, there)),
      next.later,
    )
