-- Space and comments at the front of a text: what is read is there, and what is there is read.
use Rattle.std.proofs.Common.{◌≡◌, ℕ, ◌+◌, ◌<◌, ◌≤◌, ◌==◌, ◌&&◌, ◌||◌, if◌then◌else◌, Bool, true, false, List, []}
use Rattle.std.proofs.Common.{◌∷◌, ◌++◌, length, take, drop, Some, refl, sym, ◌∙◌, ap, arith, inl, inr}
use Rattle.std.proofs.Common.{⊎_elim, length-append}
use Rattle.std.specs.List.{prefix_len}
use Rattle.std.specs.Option.{option_map}
use Rattle.std.proofs.lemmas.Bool.{eqb-true, and_parts, or_parts, or_from}
use Rattle.std.proofs.lemmas.List.{take-append-drop}
use Rattle.std.proofs.lemmas.List.Sums.{prefix_len-le-length}
use Rattle.std.proofs.lemmas.Option.{same_Some}
use Rattle.std.proofs.lemmas.Slice.Eq.{bytes_eq-Decides}
use Rattle.prefix_patterns.specs.Token.{slash}
use Rattle.filter_tokens.specs.Tokenization.{hash, star, is_space, begins_with, begins_gap, IsSpace, IsRestOfLine, IsEnclosed, IsGap}
use Rattle.filter_tokens.specs.Reading.{closes, closing_len, gap_len}
use Rattle.filter_tokens.specs.ByteClasses.{is_of_line}
use Rattle.filter_tokens.proofs.Fronts.{map_some}

-- ---- the first `*/`

closes_fact : (text : List ℕ) → closes text ≡ true → text ≡ star ∷ slash ∷ drop 2 text
closes_fact text e = sym (take-append-drop 2 text)
    ∙ ap (λ front. front ++ drop 2 text) (sym ((bytes_eq-Decides (star ∷ slash ∷ []) (take 2 text)).0 e))

-- bytes up to the first `*/`
record Closed (text : List ℕ) (len : ℕ) : Type 0 where
  inner : List ℕ
  after : List ℕ
  spelled : text ≡ inner ++ star ∷ slash ∷ after
  whole : len ≡ length inner + 2
  first : (other later : List ℕ) → inner ++ star ∷ slash ∷ after ≡ other ++ star ∷ slash ∷ later → length inner ≤ length other

later_first : (byte : ℕ) (inner after other later : List ℕ) → closes (byte ∷ (inner ++ star ∷ slash ∷ after)) ≡ false
    → ((other later : List ℕ) → inner ++ star ∷ slash ∷ after ≡ other ++ star ∷ slash ∷ later → length inner ≤ length other)
    → byte ∷ (inner ++ star ∷ slash ∷ after) ≡ other ++ star ∷ slash ∷ later → length (byte ∷ inner) ≤ length other
later_first byte inner after [] later none first e =
    let there : closes (byte ∷ (inner ++ star ∷ slash ∷ after)) ≡ true = ap closes e in
    absurd (let clash : true ≡ false = sym there ∙ none in cc)
later_first byte inner after (x ∷ other) later none first e =
    let tail : inner ++ star ∷ slash ∷ after ≡ other ++ star ∷ slash ∷ later = cc in
    omega (arith, first other later tail)

closed_step : (byte : ℕ) (bytes : List ℕ) (here : Bool) (len : ℕ) → closes (byte ∷ bytes) ≡ here
    → (if here then Some 2 else option_map (λ len. 1 + len) (closing_len bytes)) ≡ Some len
    → ((len : ℕ) → closing_len bytes ≡ Some len → Closed bytes len) → Closed (byte ∷ bytes) len
closed_step byte bytes true len here e later = record {
  inner = [];
  after = drop 2 (byte ∷ bytes);
  spelled = closes_fact (byte ∷ bytes) here;
  whole = sym (same_Some _ _ e);
  first = λ other later same. omega arith;
}
closed_step byte bytes false len here e later =
    let some = map_some (λ len. 1 + len) (closing_len bytes) len e in
    let rest = later some.0 some.1 in
    let none : closes (byte ∷ (rest.inner ++ star ∷ slash ∷ rest.after)) ≡ false = ap (λ t. closes (byte ∷ t)) (sym rest.spelled)
    ∙ here in
    record {
      inner = byte ∷ rest.inner;
      after = rest.after;
      spelled = ap (λ t. byte ∷ t) rest.spelled;
      whole = omega (arith, some.2, rest.whole);
      first = λ other later same. later_first byte rest.inner rest.after other later none rest.first same;
    }

closing_found : (text : List ℕ) (len : ℕ) → closing_len text ≡ Some len → Closed text len
unfolding closing_len
closing_found [] len e = absurd cc
closing_found (byte ∷ bytes) len e = closed_step byte bytes (closes (byte ∷ bytes)) len refl e (λ len f. closing_found bytes len f)

closing_at_once : (after : List ℕ) → closing_len (star ∷ slash ∷ after) ≡ Some 2
unfolding closing_len
closing_at_once after = refl

closing_later : (byte : ℕ) (inner after : List ℕ) (here : Bool) → closes (byte ∷ (inner ++ star ∷ slash ∷ after)) ≡ here
    → ((other later : List ℕ) → byte ∷ (inner ++ star ∷ slash ∷ after) ≡ other ++ star ∷ slash ∷ later
    → length (byte ∷ inner) ≤ length other)
    → closing_len (inner ++ star ∷ slash ∷ after) ≡ Some (length inner + 2)
    → closing_len (byte ∷ (inner ++ star ∷ slash ∷ after)) ≡ Some (length (byte ∷ inner) + 2)
unfolding closing_len
closing_later byte inner after true here first rest =
    absurd (let none = first [] (drop 2 (byte ∷ (inner ++ star ∷ slash ∷ after)))
    (closes_fact (byte ∷ (inner ++ star ∷ slash ∷ after)) here) in omega arith)
closing_later byte inner after false here first rest =
    rw here (ap (option_map (λ len. 1 + len)) rest
    ∙ ap Some (let same : 1 + (length inner + 2) ≡ length (byte ∷ inner) + 2 = omega arith in same))

closing_there : (inner after : List ℕ)
    → ((other later : List ℕ) → inner ++ star ∷ slash ∷ after ≡ other ++ star ∷ slash ∷ later → length inner ≤ length other)
    → closing_len (inner ++ star ∷ slash ∷ after) ≡ Some (length inner + 2)
unfolding closing_len
closing_there [] after first = closing_at_once after
closing_there (byte ∷ inner) after first = closing_later byte inner after (closes (byte ∷ (inner ++ star ∷ slash ∷ after))) refl first
    (closing_there inner after (λ other later same. let more = first (byte ∷ other) later (ap (λ t. byte ∷ t) same) in
    omega (arith, more)))

-- ---- the whole

space_length : (n : ℕ) → 1 + n ≡ 0 → ⊥
space_length n e = omega arith

gap_zero_as : (first : ℕ) (others : List ℕ) (a b c : Bool) → is_space first ≡ a → (first == hash) ≡ b
    → (first == slash && begins_with star others) ≡ c
    → (if a then Some 1 else (if b then Some (1 + prefix_len is_of_line others)
    else (if c then option_map (λ len. 2 + len) (closing_len (drop 1 others)) else Some 0))) ≡ Some 0
    → begins_gap (first ∷ others) ≡ false
gap_zero_as first others true b c space h enclosed e = absurd (let none = same_Some _ _ e in omega arith)
gap_zero_as first others false true c space h enclosed e = absurd (let none = same_Some _ _ e in omega arith)
gap_zero_as first others false false true space h enclosed e =
    let some = map_some (λ len. 2 + len) (closing_len (drop 1 others)) 0 e in absurd (omega (arith, some.2))
gap_zero_as first others false false false space h enclosed e = or_from _ _ (or_from _ _ space h) enclosed

-- where no gap is read none begins
pub gap-zero : (text : List ℕ) → gap_len text ≡ Some 0 → begins_gap text ≡ false
unfolding gap_len
gap-zero [] e = refl
gap-zero (first ∷ others) e =
    gap_zero_as first others (is_space first) (first == hash) (first == slash && begins_with star others) refl refl refl e

-- where none begins none is read
pub gap-none : (text : List ℕ) → begins_gap text ≡ false → gap_len text ≡ Some 0
unfolding gap_len
gap-none [] e = refl
gap-none (first ∷ others) e =
    let both = or_parts (is_space first || first == hash) (first == slash && begins_with star others) e in
    let one = or_parts (is_space first) (first == hash) both.0 in
    rw (one.0, one.1, both.1) refl

begins_fact : (wanted : ℕ) (text : List ℕ) → begins_with wanted text ≡ true → text ≡ wanted ∷ drop 1 text
begins_fact wanted [] e = absurd cc
begins_fact wanted (byte ∷ bytes) e = ap (λ b. b ∷ bytes) (eqb-true byte wanted e)

enclosed_found : (first : ℕ) (others : List ℕ) (len : ℕ) → (first == slash && begins_with star others) ≡ true
    → option_map (λ len. 2 + len) (closing_len (drop 1 others)) ≡ Some len
    → IsEnclosed (first ∷ others) len
enclosed_found first others len begins e =
    let parts = and_parts (first == slash) (begins_with star others) begins in
    let some = map_some (λ len. 2 + len) (closing_len (drop 1 others)) len e in
    let closed = closing_found (drop 1 others) some.0 some.1 in
    let slash_first = eqb-true first slash parts.0 in
    let rest : others ≡ star ∷ (closed.inner ++ star ∷ slash ∷ closed.after) = begins_fact star others parts.1
    ∙ ap (λ t. star ∷ t) closed.spelled in
    record {
      inner = closed.inner;
      after = closed.after;
      spelled = cc;
      whole = omega (arith, some.2, closed.whole);
      first = closed.first;
    }

gap_found_as : (first : ℕ) (others : List ℕ) (a b c : Bool) (len : ℕ) → is_space first ≡ a → (first == hash) ≡ b
    → (first == slash && begins_with star others) ≡ c
    → (if a then Some 1 else (if b then Some (1 + prefix_len is_of_line others)
    else (if c then option_map (λ len. 2 + len) (closing_len (drop 1 others)) else Some 0))) ≡ Some len
    → 0 < len → IsGap (first ∷ others) len
gap_found_as first others true b c len space h enclosed e some = inl (space, sym (same_Some _ _ e))
gap_found_as first others false true c len space h enclosed e some = inr (inl (eqb-true first hash h, sym (same_Some _ _ e)))
gap_found_as first others false false true len space h enclosed e some = inr (inr (enclosed_found first others len enclosed e))
gap_found_as first others false false false len space h enclosed e some = absurd (let none = same_Some _ _ e in omega arith)

-- what is read is there
pub gap-found : (text : List ℕ) (len : ℕ) → gap_len text ≡ Some len → 0 < len → IsGap text len
unfolding gap_len
gap-found [] len e some = absurd (let none = same_Some _ _ e in omega arith)
gap-found (first ∷ others) len e some =
    gap_found_as first others (is_space first) (first == hash) (first == slash && begins_with star others) len refl refl refl e some

space_there : (text : List ℕ) (len : ℕ) → IsSpace text len → gap_len text ≡ Some len
unfolding gap_len
space_there [] len is = absurd is
space_there (first ∷ others) len is = rw is.0 (ap Some (sym is.1))

line_there : (text : List ℕ) (len : ℕ) → IsRestOfLine text len → gap_len text ≡ Some len
unfolding gap_len
line_there [] len is = absurd is
line_there (first ∷ others) len is = rw is.0 (ap Some (sym is.1))

enclosed_as : (inner after : List ℕ) → closing_len (inner ++ star ∷ slash ∷ after) ≡ Some (length inner + 2)
    → gap_len (slash ∷ star ∷ (inner ++ star ∷ slash ∷ after)) ≡ Some (2 + (length inner + 2))
unfolding gap_len
enclosed_as inner after e = ap (option_map (λ len. 2 + len)) e

enclosed_there : (text : List ℕ) (len : ℕ) → IsEnclosed text len → gap_len text ≡ Some len
enclosed_there text len is =
    ap gap_len is.spelled ∙ enclosed_as is.inner is.after (closing_there is.inner is.after is.first)
    ∙ ap Some (let same : 2 + (length is.inner + 2) ≡ len = omega (arith, is.whole) in same)

-- what is there is read
pub gap-there : (text : List ℕ) (len : ℕ) → IsGap text len → gap_len text ≡ Some len
gap-there text len gap =
    ⊎_elim (λ space. space_there text len space)
    (λ comment. ⊎_elim (λ line. line_there text len line) (λ enclosed. enclosed_there text len enclosed) comment) gap

-- no gap is empty, and none goes past the end
line_bounds : (text : List ℕ) (len : ℕ) → IsRestOfLine text len → (0 < len) × (len ≤ length text)
line_bounds [] len is = absurd is
line_bounds (first ∷ others) len is = (omega (arith, is.1), omega (arith, is.1, prefix_len-le-length is_of_line others))

space_bounds : (text : List ℕ) (len : ℕ) → IsSpace text len → (0 < len) × (len ≤ length text)
space_bounds [] len is = absurd is
space_bounds (first ∷ others) len is = (omega (arith, is.1), omega (arith, is.1))

enclosed_bounds : (text : List ℕ) (len : ℕ) → IsEnclosed text len → (0 < len) × (len ≤ length text)
enclosed_bounds text len is =
    (omega (arith, is.whole), omega (arith, is.whole, ap length is.spelled, length-append is.inner (star ∷ slash ∷ is.after)))

pub gap-bounds : (text : List ℕ) (len : ℕ) → IsGap text len → (0 < len) × (len ≤ length text)
gap-bounds text len gap =
    ⊎_elim (λ space. space_bounds text len space)
    (λ comment. ⊎_elim (λ line. line_bounds text len line) (λ enclosed. enclosed_bounds text len enclosed) comment) gap
