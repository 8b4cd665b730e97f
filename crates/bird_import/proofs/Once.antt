-- No text is cut into words in two ways: space and comments end at one place, and what stands there is one word, or the end.
use Rattle.std.proofs.Common.{◌≡◌, ℕ, ◌+◌, ◌<◌, ◌≤◌, inl, inr, List, [], ◌∷◌, length, drop, sym, ◌∙◌, ap, subst, arith, length-drop, length-take}
use Rattle.std.proofs.lemmas.Option.{same_Some}
use Rattle.filter_tokens.specs.Tokenization.{IsPart, AreFrontParts, tokens_among}
use Rattle.filter_tokens.specs.declared.part.Part.{Part}
use Rattle.filter_tokens.specs.declared.part.Part.TheVariants as part
use Rattle.filter_tokens.proofs.PartLaws.{part-there, part-bounds}
use Rattle.bird_import.specs.Spelling.{kind_of}
use Rattle.bird_import.specs.Cutting.{IsGapBetween, NoPartAt, IsWordIn, IsNextWord}
use Rattle.bird_import.specs.Cutting.{other_kind, other_len}
use Rattle.bird_import.specs.declared.word.Word.{Word}

-- one part is at the front of a text
pub part_once : (text : List ℕ) (one other : Part) → IsPart text one → IsPart text other → one ≡ other
part_once text one other is also = same_Some one other (sym (part-there text one is) ∙ part-there text other also)

-- no space and no comment begins here
abbrev pub NoGap : List ℕ → Type 0
NoGap text = (len : ℕ) → IsPart text (part.Gap len) → ⊥

-- space and comments that go on as long as they can go to one rest of the text
rest_once : (xs ys : List Part) (from : ℕ) (text one other : List ℕ) → AreFrontParts xs text one → AreFrontParts ys text other
    → tokens_among xs from ≡ [] → tokens_among ys from ≡ [] → NoGap one → NoGap other → one ≡ other
rest_once [] [] from text one other a b none nothing ends stops = sym a ∙ b
rest_once [] (part.Gap len ∷ ys) from text one other a b none nothing ends stops =
    absurd (ends len (subst (λ t. IsPart t (part.Gap len)) a b.0))
rest_once [] (part.Token kind len ∷ ys) from text one other a b none nothing ends stops = absurd cc
rest_once (part.Gap len ∷ xs) [] from text one other a b none nothing ends stops =
    absurd (stops len (subst (λ t. IsPart t (part.Gap len)) b a.0))
rest_once (part.Gap len ∷ xs) (part.Gap n ∷ ys) from text one other a b none nothing ends stops =
    let same = part_once text (part.Gap n) (part.Gap len) b.0 a.0 in
    let lens : n ≡ len = cc in
    rest_once xs ys (from + len) (drop len text) one other a.1 (subst (λ m. AreFrontParts ys (drop m text) other) lens b.1) none
    (subst (λ m. tokens_among ys (from + m) ≡ []) lens nothing) ends stops
rest_once (part.Gap len ∷ xs) (part.Token kind n ∷ ys) from text one other a b none nothing ends stops = absurd cc
rest_once (part.Token kind len ∷ xs) ys from text one other a b none nothing ends stops = absurd cc

-- so they go to one place
pub place_once : (text : List ℕ) (from one other : ℕ) → IsGapBetween text from one → IsGapBetween text from other → one ≤ length text
    → other ≤ length text
    → NoGap (drop one text) → NoGap (drop other text) → one ≡ other
place_once text from one other a b within inside ends stops =
    let nothing : tokens_among b.parts from ≡ [] = b.gaps in
    let rest = rest_once a.parts b.parts from (drop from text) (drop one text) (drop other text) a.cut b.cut a.gaps nothing ends stops in
    omega (arith, ap length rest, length-drop one text, length-drop other text)

-- none begins where no part does, and none at the end
pub no_gap_here : (text : List ℕ) (at : ℕ) → NoPartAt text at → NoGap (drop at text)
no_gap_here text at none len is = none (part.Gap len) is

pub no_gap_at_end : (text : List ℕ) → NoGap (drop (length text) text)
no_gap_at_end text len is =
    let bounds = part-bounds (drop (length text) text) (part.Gap len) is in
    omega (arith, bounds.0, bounds.1, length-drop (length text) text)

pub no_gap_at_word : (text : List ℕ) (word : Word) → IsWordIn text word → NoGap (drop word.at text)
no_gap_at_word text word (inl token) len is =
    let same = part_once (drop word.at text) (part.Gap len) (part.Token token.0 (length word.bytes.now)) is token.2 in absurd cc
no_gap_at_word text word (inr other) len is = other.none (part.Gap len) is

-- a word begins before the end
pub word_below : (text : List ℕ) (behind : ℕ) (word : Word) → IsNextWord text behind word → word.at < length text
word_below text behind word next =
    omega (arith, next.some, ap length next.bytes, length-take (length word.bytes.now) (drop word.at text), length-drop word.at text)

-- one word stands at a place
pub stands_once : (text : List ℕ) (one other : Word) → one.at ≡ other.at → IsWordIn text one → IsWordIn text other
    → (one.kind ≡ other.kind) × (length one.bytes.now ≡ length other.bytes.now)
stands_once text one other at (inl a) (inl b) =
    let there : IsPart (drop one.at text) (part.Token b.0 (length other.bytes.now)) =
    subst (λ n. IsPart (drop n text) (part.Token b.0 (length other.bytes.now))) (sym at) b.2 in
    let same = part_once (drop one.at text) (part.Token a.0 (length one.bytes.now)) (part.Token b.0 (length other.bytes.now)) a.2 there in
    let kinds : a.0 ≡ b.0 = cc in
    let lens : length one.bytes.now ≡ length other.bytes.now = cc in
    (a.1 ∙ ap kind_of kinds ∙ sym b.1, lens)
stands_once text one other at (inl a) (inr b) =
    absurd (b.none (part.Token a.0 (length one.bytes.now)) (subst (λ n. IsPart (drop n text) (part.Token a.0 (length one.bytes.now))) at a.2))
stands_once text one other at (inr a) (inl b) =
    absurd (a.none (part.Token b.0 (length other.bytes.now))
    (subst (λ n. IsPart (drop n text) (part.Token b.0 (length other.bytes.now))) (sym at) b.2))
stands_once text one other at (inr a) (inr b) = (
  a.of_kind ∙ ap (λ n. other_kind (drop n text)) at ∙ sym b.of_kind,
  a.whole ∙ ap (λ n. other_len (drop n text)) at ∙ sym b.whole,
)
