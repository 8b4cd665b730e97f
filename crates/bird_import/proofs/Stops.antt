-- What the lexer says of the text behind a place: where its tokens end, and what is added where it stops.
use Rattle.std.proofs.Common.{◌≡◌, ℕ, ◌+◌, ◌-◌, ◌<◌, ◌≤◌, List, [], ◌∷◌, ◌++◌, length, take, drop}
use Rattle.std.proofs.Common.{sym, ap, ◌∙◌, subst, arith, inr, length-drop, false, Some}
use Rattle.std.proofs.lemmas.List.{drop-drop, drop_all, take_rest}
use Rattle.filter_tokens.specs.declared.part.Part.{Part}
use Rattle.filter_tokens.specs.declared.token.Token.{Token}
use Rattle.filter_tokens.specs.Tokenization.{IsPart, AreParts, AreFrontParts, part_len, IsTokenization, StopsAt}
use Rattle.filter_tokens.specs.Codes.{fault_place}
use Rattle.filter_tokens.specs.declared.fault.TokenFault.{TokenFault}
use Rattle.bird_import.specs.Cutting.{IsGapBetween, NoPartAt, IsOtherIn, HasWords, AreTokensIn, AddsTokens, EndsAt, IsOpenedBy}
use Rattle.bird_import.specs.Cutting.{opens_text, opens_comment, other_kind, other_len}
use Rattle.bird_import.specs.declared.word.Word.{Word}
use Rattle.bird_import.specs.declared.word.WordKind.{WordKind}
use Rattle.bird_import.proofs.Words.{IsMade, made_length, add_made}

all_parts : (parts : List Part) (text : List ℕ) → AreParts parts text → AreFrontParts parts text []
all_parts [] text cut = cut
all_parts (first ∷ parts) text cut = (cut.0, all_parts parts (drop (part_len first) text) cut.1)

-- its tokens go to the end
pub lexed_whole : (text : List ℕ) (at : ℕ) (tokens : List Token) → at ≤ length text → IsTokenization tokens 0 (drop at text)
    → AreTokensIn text at tokens 0 (length text)
lexed_whole text at tokens within lexed =
    let end : drop (length text) text ≡ [] = drop_all (length text) text (omega arith) in
    let place : at + 0 ≡ at = omega arith in
    let cut : AreFrontParts lexed.parts (drop at text) (drop (length text) text) =
    subst (λ rest. AreFrontParts lexed.parts (drop at text) rest) (sym end) (all_parts lexed.parts (drop at text) lexed.cut) in
    record {
      parts = lexed.parts;
      cut = subst (λ n. AreFrontParts lexed.parts (drop n text) (drop (length text) text)) (sym place) cut;
      among = lexed.among;
      in_order = omega arith;
      within = omega arith;
    }

-- they go to the place of a fault, where nothing is
pub lexed_front : (text : List ℕ) (at place : ℕ) (tokens : List Token) → StopsAt tokens place (drop at text)
    → AreTokensIn text at tokens 0 (at + place) × NoPartAt text (at + place) × (at + place < length text)
lexed_front text at place tokens stops =
    let begin : at + 0 ≡ at = omega arith in
    let after : drop place (drop at text) ≡ drop (at + place) text = drop-drop place at text in
    let below : at + place < length text = omega (arith, stops.before_end, length-drop at text) in
    let cut : AreFrontParts stops.parts (drop at text) (drop (at + place) text) =
    subst (λ rest. AreFrontParts stops.parts (drop at text) rest) after stops.cut in
    let tokens_in : AreTokensIn text at tokens 0 (at + place) = record {
      parts = stops.parts;
      cut = subst (λ n. AreFrontParts stops.parts (drop n text) (drop (at + place) text)) (sym begin) cut;
      among = stops.among;
      in_order = omega arith;
      within = omega arith;
    } in
    (tokens_in, subst (λ rest. (part : Part) → IsPart rest part → ⊥) after stops.no_part, below)

-- the words go up to a place, behind which space and comments go to another, where nothing is
pub record AreStopped (text : List ℕ) (words : List Word) (behind place : ℕ) : Type 0 where
  pub has : HasWords text 0 words behind
  pub gap : IsGapBetween text behind place
  pub none : NoPartAt text place
  pub below : place < length text

-- so are those of a text that the lexer cuts up to a fault
pub stopped : (text : List ℕ) (at fault_at place : ℕ) (tokens others : List Token) (old new : List Word) (behind : ℕ)
    → StopsAt tokens fault_at (take (length text - at) (drop at text)) → others ≡ tokens → place ≡ fault_at
    → HasWords text 0 old at → AddsTokens text others at old new behind → AreStopped text new behind (at + place)
stopped text at fault_at place tokens others old new behind stops same place_is has adds =
    let front = lexed_front text at fault_at tokens (subst (StopsAt tokens fault_at) (take_rest text at) stops) in
    let end : at + fault_at ≡ at + place = ap (λ n. at + n) (sym place_is) in
    let added = adds (at + fault_at) (subst (λ ts. AreTokensIn text at ts 0 (at + fault_at)) (sym same) front.0) has in
    subst (AreStopped text new behind) end (record { has = added.0; gap = added.1; none = front.1; below = front.2 })

-- a comment or a text that does not end is the end
pub ends_unended : (text : List ℕ) (words : List Word) (behind place : ℕ) (fault : TokenFault) → AreStopped text words behind place
    → fault_place fault ≡ place → IsOpenedBy (take (length text - place) (drop place text)) fault → EndsAt text behind (Some fault)
ends_unended text words behind place fault are same opened =
    let opened_there : IsOpenedBy (drop place text) fault = subst (λ rest. IsOpenedBy rest fault) (take_rest text place) opened in
    let back = sym same in (
      subst (IsGapBetween text behind) back are.gap,
      subst (NoPartAt text) back are.none,
      subst (λ n. n < length text) back are.below,
      subst (λ n. IsOpenedBy (drop n text) fault) back opened_there,
    )

-- what is no token is no longer than the text behind its place
pub other_fits : (text : List ℕ) (from len : ℕ) → from < length text → len ≤ length (take (length text - from) (drop from text))
    → from + len ≤ length text
other_fits text from len below fits = omega (arith, fits, ap length (take_rest text from), length-drop from text)

-- it is added
pub add_other : (text : List ℕ) (kind : WordKind) (behind from to : ℕ) (words : List Word) (word : Word)
    → IsMade text kind behind from to word → AreStopped text words behind from
    → kind ≡ other_kind (take (length text - from) (drop from text)) → to - from ≡ other_len (take (length text - from) (drop from text))
    → opens_text (take (length text - from) (drop from text)) ≡ false → opens_comment (take (length text - from) (drop from text)) ≡ false
    → HasWords text 0 (words ++ word ∷ []) to
add_other text kind behind from to words word made are of_kind whole no_text no_comment =
    let place = sym made.at in
    let same : take (length text - from) (drop from text) ≡ drop word.at text = take_rest text from ∙ ap (λ n. drop n text) place in
    let other : IsOtherIn text word = record {
      none = subst (NoPartAt text) place are.none;
      no_text = subst (λ rest. opens_text rest ≡ false) same no_text;
      no_comment = subst (λ rest. opens_comment rest ≡ false) same no_comment;
      of_kind = made.of_kind ∙ of_kind ∙ ap other_kind same;
      whole = made_length text kind behind from to word made ∙ whole ∙ ap other_len same;
    } in
    add_made text kind behind from to words word made are.has are.gap (inr other)
