-- Words of a text: one more behind others, and the next token among those that stand in the text.
use Rattle.std.proofs.Common.{◌≡◌, ℕ, ◌+◌, ◌-◌, ◌≤◌, List, [], ◌∷◌, ◌++◌, length, drop, refl, sym, ◌∙◌, ap, subst, arith, length-drop}
use Rattle.std.proofs.lemmas.List.{drop-drop}
use Rattle.filter_tokens.specs.declared.part.Part.{Part}
use Rattle.filter_tokens.specs.declared.part.Part.TheVariants as part
use Rattle.filter_tokens.specs.declared.token.Token.{Token}
use Rattle.filter_tokens.specs.Tokenization.{IsToken, IsPart, part_len, AreFrontParts, tokens_among}
use Rattle.filter_tokens.proofs.PartLaws.{part-bounds}
use Rattle.bird_import.specs.Cutting.{IsGapBetween, IsNextWord, HasWords, AreTokensIn}
use Rattle.bird_import.specs.declared.word.Word.{Word}

-- one more word behind others
pub one_more_word : (text : List ℕ) (from : ℕ) (words : List Word) (behind : ℕ) (word : Word) → HasWords text from words behind
    → IsNextWord text behind word → HasWords text from (words ++ word ∷ []) (word.at + length word.bytes.now)
unfolding HasWords
one_more_word text from [] behind word has next = (subst (λ n. IsNextWord text n word) (sym has) next, refl)
one_more_word text from (first ∷ words) behind word has next =
    (has.0, one_more_word text (first.at + length first.bytes.now) words behind word has.1 next)

-- no word yet
pub no_words : (text : List ℕ) → HasWords text 0 [] 0
unfolding HasWords
no_words text = refl

-- nothing lies between a place and itself
pub no_gap : (text : List ℕ) (at : ℕ) → IsGapBetween text at at
no_gap text at = record { parts = []; cut = refl; gaps = refl; in_order = omega arith }

-- what comes after parts is no longer than the text
front_shorter : (parts : List Part) (text rest : List ℕ) → AreFrontParts parts text rest → length rest ≤ length text
front_shorter [] text rest cut = omega (arith, ap length cut)
front_shorter (first ∷ parts) text rest cut =
    omega (arith, front_shorter parts (drop (part_len first) text) rest cut.1, length-drop (part_len first) text)

-- the tokens among parts, behind a gap or a token of so many bytes
moved : (text rest : List ℕ) (at from len : ℕ) (parts : List Part) → AreFrontParts parts (drop len (drop (at + from) text)) rest
    → AreFrontParts parts (drop (at + (from + len)) text) rest
moved text rest at from len parts cut =
    let place : at + from + len ≡ at + (from + len) = omega arith in
    subst (λ t. AreFrontParts parts t rest) (drop-drop len (at + from) text ∙ ap (λ n. drop n text) place) cut

-- the first part ends before the end of them all
further : (text : List ℕ) (at from len to : ℕ) (parts : List Part) → to ≤ length text → at + from + len ≤ length text
    → AreFrontParts parts (drop (at + (from + len)) text) (drop to text) → at + (from + len) ≤ to
further text at from len to parts within fits cut =
    omega (arith, front_shorter parts (drop (at + (from + len)) text) (drop to text) cut, length-drop (at + (from + len)) text, length-drop to text)

-- the next token: space and comments before it, and the tokens behind it
pub record IsNextToken (text : List ℕ) (at : ℕ) (token : Token) (tokens : List Token) (from to : ℕ) : Type 0 where
  pub between : IsGapBetween text (at + from) (at + token.from)
  pub is : IsToken (drop (at + token.from) text) token.word (token.to - token.from)
  pub later : AreTokensIn text at tokens token.to to

-- space or a comment before others
more_gap : (text : List ℕ) (from len middle to : ℕ) → IsPart (drop from text) (part.Gap len) → middle ≡ from + len
    → IsGapBetween text middle to → IsGapBetween text from to
more_gap text from len middle to is same gap =
    let cut : AreFrontParts gap.parts (drop len (drop from text)) (drop to text) =
    subst (λ t. AreFrontParts gap.parts t (drop to text)) (ap (λ n. drop n text) same ∙ sym (drop-drop len from text)) gap.cut in
    record {
      parts = part.Gap len ∷ gap.parts;
      cut = (is, cut);
      gaps = ap (tokens_among gap.parts) (sym same) ∙ gap.gaps;
      in_order = omega (arith, gap.in_order);
    }

next_token_among : (text : List ℕ) (at : ℕ) (token : Token) (tokens : List Token) (from to : ℕ) (parts : List Part)
    → AreFrontParts parts (drop (at + from) text) (drop to text) → token ∷ tokens ≡ tokens_among parts from → to ≤ length text
    → IsNextToken text at token tokens from to
next_token_among text at token tokens from to [] cut same within = absurd cc
next_token_among text at token tokens from to (part.Gap len ∷ parts) cut same within =
    let bounds = part-bounds (drop (at + from) text) (part.Gap len) cut.0 in
    let there = moved text (drop to text) at from len parts cut.1 in
    let next = next_token_among text at token tokens (from + len) to parts there same within in
    record {
      between = more_gap text (at + from) len (at + (from + len)) (at + token.from) cut.0 (omega arith) next.between;
      is = next.is;
      later = next.later;
    }
next_token_among text at token tokens from to (part.Token kind len ∷ parts) cut same within =
    let bounds = part-bounds (drop (at + from) text) (part.Token kind len) cut.0 in
    let there = moved text (drop to text) at from len parts cut.1 in
    let this : Token = record { word = kind; from = from; to = from + len } in
    let first : token ≡ this = cc in
    let others : tokens ≡ tokens_among parts (from + len) = cc in
    let bytes : from + len - from ≡ len = omega arith in
    subst (λ t. IsNextToken text at t tokens from to) (sym first) (record {
      between = no_gap text (at + from);
      is = subst (λ n. IsToken (drop (at + from) text) kind n) (sym bytes) cut.0;
      later = record {
        parts = parts;
        cut = there;
        among = others;
        in_order = further text at from len to parts within (omega (arith, bounds.0, bounds.1, length-drop (at + from) text)) there;
        within = within;
      };
    })

pub next_token : (text : List ℕ) (at : ℕ) (token : Token) (tokens : List Token) (from to : ℕ)
    → AreTokensIn text at (token ∷ tokens) from to → IsNextToken text at token tokens from to
next_token text at token tokens from to here =
    next_token_among text at token tokens from to here.parts here.cut here.among here.within

-- where no token is among parts, none is, wherever they begin
no_token : (parts : List Part) (at from : ℕ) → tokens_among parts from ≡ [] → tokens_among parts at ≡ []
no_token [] at from none = refl
no_token (part.Gap len ∷ parts) at from none = no_token parts (at + len) (from + len) none
no_token (part.Token kind len ∷ parts) at from none = absurd cc

-- no token is left: only space and comments are
pub last_gap : (text : List ℕ) (at from to : ℕ) → AreTokensIn text at [] from to → IsGapBetween text (at + from) to
last_gap text at from to here = record {
  parts = here.parts;
  cut = here.cut;
  gaps = no_token here.parts (at + from) from (sym here.among);
  in_order = here.in_order;
}
