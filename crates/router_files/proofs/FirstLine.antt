-- The first line of a text.
use Rattle.std.proofs.Common.{◌≡◌, ℕ, ◌+◌, ◌-◌, ◌<◌, ◌≤◌, Bool, true, false, cond, Option, Some, None}
use Rattle.std.proofs.Common.{List, [], ◌∷◌, length, take, drop, refl, sym, ◌∙◌, ap, arith}
use Rattle.std.proofs.Math.Seq.{drop-length}
use Rattle.std.proofs.lemmas.Bool.Decides.{nat_tests}
use Rattle.std.proofs.lemmas.List.{take_rest}
use Rattle.std.proofs.lemmas.List.Splits.{slice_split_first}
use Rattle.std.proofs.lemmas.List.Sums.{fails_before_first}
use Rattle.std.specs.List.{position, position_or_len, slice_split}
use Rattle.std.specs.Prelude.{nat_lt}
use Rattle.std.specs.Str.Lines.{lines, lines_of_parts, strip_carriage_return}
use Rattle.line_protocol.proofs.LineLemmas.{lines-last}
use Rattle.line_protocol.specs.Lines.{is_line_feed}

-- the parts of a text are a first one and others
record Parts (text : List ℕ) : Type 0 where
  part : List ℕ
  parts : List (List ℕ)
  are : slice_split is_line_feed text ≡ part ∷ parts

parts_at : (b : ℕ) (bs : List ℕ) (v : Bool) → is_line_feed b ≡ v → Parts bs → Parts (b ∷ bs)
parts_at b bs true e rest = record { part = []; parts = slice_split is_line_feed bs; are = rw e refl }
parts_at b bs false e rest = record { part = b ∷ rest.part; parts = rest.parts; are = rw (e, rest.are) refl }

parts_of : (text : List ℕ) → Parts text
parts_of [] = record { part = []; parts = []; are = refl }
parts_of (b ∷ bs) = parts_at b bs (is_line_feed b) refl (parts_of bs)

first_of : (text part : List ℕ) (parts : List (List ℕ)) (first : List ℕ) → slice_split is_line_feed text ≡ part ∷ parts
    → lines_of_parts (first ∷ slice_split is_line_feed text) ≡ strip_carriage_return first ∷ lines_of_parts (slice_split is_line_feed text)
first_of text part parts first e = rw e refl

-- a text with a line feed
ended : (text : List ℕ) → position_or_len is_line_feed text < length text
    → lines text ≡ strip_carriage_return (take (position_or_len is_line_feed text) text) ∷ lines (drop (position_or_len is_line_feed text + 1) text)
ended text h =
    let rest = drop (position_or_len is_line_feed text + 1) text in
    let others = parts_of rest in
    ap lines_of_parts (slice_split_first is_line_feed text 0 h)
    ∙ first_of rest others.part others.parts (take (position_or_len is_line_feed text) text) others.are

record IsFirst (text : List ℕ) (feed : ℕ) : Type 0 where
  is : feed ≡ position_or_len is_line_feed text
  within : position_or_len is_line_feed text < length text

at_first : (text : List ℕ) (feed : ℕ) (v : Bool) → nat_lt (position_or_len is_line_feed text) (length text) ≡ v
    → Some feed ≡ cond v (Some (position_or_len is_line_feed text)) None → IsFirst text feed
at_first text feed true e found = record { is = cc; within = grind (arith, nat_tests) }
at_first text feed false e found = let no : ⊥ = cc in absurd no

pub ended_line : (text : List ℕ) (feed : ℕ) → Some feed ≡ position is_line_feed text
    → lines text ≡ strip_carriage_return (take feed text) ∷ lines (drop (feed + 1) text)
ended_line text feed found =
    let first = at_first text feed _ refl found in
    rw first.is (ended text first.within)

no_feed : (text : List ℕ) (v : Bool) → nat_lt (position_or_len is_line_feed text) (length text) ≡ v
    → None ≡ cond v (Some (position_or_len is_line_feed text)) None → length text ≤ position_or_len is_line_feed text
no_feed text true e none = let no : ⊥ = cc in absurd no
no_feed text false e none = grind (arith, nat_tests)

pub last_line : (text : List ℕ) → None ≡ position is_line_feed text → 0 < length text → lines text ≡ text ∷ []
last_line text none some =
    let whole = no_feed text _ refl none in
    lines-last text (λ k d h. fails_before_first is_line_feed text k d (omega arith)) some

-- a text that is cut behind its first line feed, and one that has none
pub cut_line : (text line : List ℕ) (feed : ℕ) (found : Option ℕ) → found ≡ position is_line_feed text → found ≡ Some feed
    → line ≡ strip_carriage_return (take feed text) → lines text ≡ line ∷ lines (take (length text - (feed + 1)) (drop (feed + 1) text))
cut_line text line feed found at is stripped =
    rw take_rest (rw stripped (ended_line text feed (sym is ∙ at)))

pub whole_line : (text : List ℕ) (found : Option ℕ) → found ≡ position is_line_feed text → found ≡ None → 0 < length text
    → lines text ≡ text ∷ lines (take (length text - length text) (drop (length text) text))
whole_line text found at is some =
    rw (take_rest, drop-length) (last_line text (sym is ∙ at) some)
