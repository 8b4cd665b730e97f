-- The words of a text and its end are one: no text is cut in two ways.
use Rattle.std.proofs.Common.{◌≡◌, ℕ, ◌+◌, ◌-◌, ◌==◌, ◌&&◌, Bool, inl, inr, List, [], ◌∷◌, length, take, drop}
use Rattle.std.proofs.Common.{map, Option, Some, None, true, false, refl, sym, ◌∙◌, ap, subst, arith}
use Rattle.std.proofs.lemmas.Bool.{eqb-true}
use Rattle.prefix_patterns.specs.Token.{slash}
use Rattle.filter_tokens.specs.Shapes.{quote}
use Rattle.filter_tokens.specs.Codes.{fault_place}
use Rattle.filter_tokens.specs.declared.fault.TokenFault.{TokenFault}
use Rattle.filter_tokens.specs.declared.fault.TokenFault.TheVariants as fault
use Rattle.filter_tokens.specs.Tokenization.{IsPart}
use Rattle.filter_tokens.specs.declared.part.Part.TheVariants as part
use Rattle.bird_import.specs.Cutting.{NoPartAt, IsWordIn, IsNextWord, HasWords, EndsAt, IsOpenedBy, IsCutInto, opens_text, opens_comment}
use Rattle.bird_import.specs.Cutting.{view_of_word, AreOneCut}
use Rattle.bird_import.specs.declared.cut.Cut.{Cut}
use Rattle.bird_import.specs.declared.word.Word.{Word}
use Rattle.bird_import.proofs.Once.{place_once, no_gap_here, no_gap_at_end, no_gap_at_word, word_below, stands_once}

-- no text opens both
both_begin : (byte : ℕ) (rest : Bool) → (byte == quote) ≡ true → (byte == slash && rest) ≡ true → ⊥
both_begin byte rest a b =
    let same : byte ≡ quote = eqb-true byte quote a in
    let other : (quote == slash && rest) ≡ true = subst (λ n. (n == slash && rest) ≡ true) same b in
    cc

both_open : (text : List ℕ) → opens_text text ≡ true → opens_comment text ≡ true → ⊥
both_open [] a b = cc
both_open (byte ∷ bytes) a b = both_begin byte _ a b

-- one fault is said of a place
fault_once : (text : List ℕ) (one other : TokenFault) → fault_place one ≡ fault_place other → IsOpenedBy text one → IsOpenedBy text other
    → one ≡ other
fault_once text (fault.UnendedText at) (fault.UnendedText n) same a b = ap fault.UnendedText same
fault_once text (fault.UnendedComment at) (fault.UnendedComment n) same a b = ap fault.UnendedComment same
fault_once text (fault.UnendedText at) (fault.UnendedComment n) same a b = absurd (both_open text a b)
fault_once text (fault.UnendedComment at) (fault.UnendedText n) same a b = absurd (both_open text b a)
fault_once text (fault.UnendedText at) others same a b = absurd b
fault_once text (fault.UnendedComment at) others same a b = absurd b
fault_once text others more same a b = absurd a

-- behind a place a text ends in one way
end_once : (text : List ℕ) (behind : ℕ) (one other : Option TokenFault) → EndsAt text behind one → EndsAt text behind other → one ≡ other
end_once text behind None None a b = refl
end_once text behind None (Some fault) a b =
    let same = place_once text behind (length text) (fault_place fault) a b.0 (omega arith) (omega (arith, b.2)) (no_gap_at_end text)
    (no_gap_here text (fault_place fault) b.1) in
    absurd (omega (arith, same, b.2))
end_once text behind (Some fault) None a b =
    let same = place_once text behind (length text) (fault_place fault) b a.0 (omega arith) (omega (arith, a.2)) (no_gap_at_end text)
    (no_gap_here text (fault_place fault) a.1) in
    absurd (omega (arith, same, a.2))
end_once text behind (Some one) (Some other) a b =
    let same = place_once text behind (fault_place one) (fault_place other) a.0 b.0 (omega (arith, a.2)) (omega (arith, b.2))
    (no_gap_here text (fault_place one) a.1) (no_gap_here text (fault_place other) b.1) in
    ap Some (fault_once (drop (fault_place one) text) one other same a.3 (subst (λ n. IsOpenedBy (drop n text) other) (sym same) b.3))

-- what opens a text or a comment is no word
opened_no_word : (text : List ℕ) (fault : TokenFault) → IsOpenedBy text fault → opens_text text ≡ false → opens_comment text ≡ false → ⊥
opened_no_word text (fault.UnendedText at) is a b = cc
opened_no_word text (fault.UnendedComment at) is a b = cc
opened_no_word text others is a b = is

-- where a text opens one, no word stands
not_opened : (text : List ℕ) (word : Word) (place : ℕ) (fault : TokenFault) → place ≡ word.at → NoPartAt text place
    → IsOpenedBy (drop place text) fault → IsWordIn text word → ⊥
not_opened text word place fault same none is (inl token) =
    none (part.Token token.0 (length word.bytes.now))
    (subst (λ n. IsPart (drop n text) (part.Token token.0 (length word.bytes.now))) (sym same) token.2)
not_opened text word place fault same none is (inr other) =
    opened_no_word (drop word.at text) fault (subst (λ n. IsOpenedBy (drop n text) fault) same is) other.no_text other.no_comment

-- so no word is next where a text ends
no_next_word : (text : List ℕ) (behind : ℕ) (end : Option TokenFault) (word : Word) → EndsAt text behind end → IsNextWord text behind word → ⊥
no_next_word text behind None word ends next =
    let below = word_below text behind word next in
    let same = place_once text behind (length text) word.at ends next.between (omega arith) (omega arith) (no_gap_at_end text)
    (no_gap_at_word text word next.stands) in
    omega arith
no_next_word text behind (Some fault) word ends next =
    let below = word_below text behind word next in
    let same = place_once text behind (fault_place fault) word.at ends.0 next.between (omega (arith, ends.2)) (omega arith)
    (no_gap_here text (fault_place fault) ends.1) (no_gap_at_word text word next.stands) in
    not_opened text word (fault_place fault) fault same ends.1 ends.3 next.stands

same_view : (one other : Word) → one.kind ≡ other.kind → one.at ≡ other.at → one.gap.now ≡ other.gap.now
    → one.bytes.now ≡ other.bytes.now
    → view_of_word one ≡ view_of_word other
same_view one other kinds places gaps bytes = cc

-- one word is next behind a place
next_once : (text : List ℕ) (behind : ℕ) (one other : Word) → IsNextWord text behind one → IsNextWord text behind other
    → (view_of_word one ≡ view_of_word other) × (other.at + length other.bytes.now ≡ one.at + length one.bytes.now)
next_once text behind one other a b =
    let below = word_below text behind one a in
    let under = word_below text behind other b in
    let at = place_once text behind one.at other.at a.between b.between (omega arith) (omega arith) (no_gap_at_word text one a.stands)
    (no_gap_at_word text other b.stands) in
    let same = stands_once text one other at a.stands b.stands in
    let gaps : one.gap.now ≡ other.gap.now = a.gap ∙ ap (λ n. take (n - behind) (drop behind text)) at ∙ sym b.gap in
    let bytes : one.bytes.now ≡ other.bytes.now =
    a.bytes ∙ ap (λ n. take (length one.bytes.now) (drop n text)) at ∙ ap (λ n. take n (drop other.at text)) same.1 ∙ sym b.bytes in
    (same_view one other same.0 at gaps bytes, omega (arith, at, same.1))

words_once : (text : List ℕ) (xs ys : List Word) (behind e f : ℕ) (end stop : Option TokenFault) → HasWords text behind xs e
    → HasWords text behind ys f → EndsAt text e end → EndsAt text f stop
    → (map view_of_word xs ≡ map view_of_word ys) × (end ≡ stop)
unfolding HasWords
words_once text [] [] behind e f end stop a b ends stops =
    (refl, end_once text behind end stop (subst (λ n. EndsAt text n end) (sym a) ends) (subst (λ n. EndsAt text n stop) (sym b) stops))
words_once text [] (y ∷ ys) behind e f end stop a b ends stops =
    absurd (no_next_word text behind end y (subst (λ n. EndsAt text n end) (sym a) ends) b.0)
words_once text (x ∷ xs) [] behind e f end stop a b ends stops =
    absurd (no_next_word text behind stop x (subst (λ n. EndsAt text n stop) (sym b) stops) a.0)
words_once text (x ∷ xs) (y ∷ ys) behind e f end stop a b ends stops =
    let same = next_once text behind x y a.0 b.0 in
    let later = words_once text xs ys (x.at + length x.bytes.now) e f end stop a.1 (subst (λ n. HasWords text n ys f) same.1 b.1) ends stops in
    (ap (λ v. v ∷ map view_of_word xs) same.0 ∙ ap (λ views. view_of_word y ∷ views) later.0, later.1)

-- no text is cut in two ways
pub cut_once : (text : List ℕ) (one other : Cut) → IsCutInto text one → IsCutInto text other → AreOneCut one other
cut_once text one other a b =
    words_once text one.words.items other.words.items 0 a.behind b.behind one.end other.end a.words b.words a.ends b.ends
