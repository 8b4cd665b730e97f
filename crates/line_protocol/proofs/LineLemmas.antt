-- The lines of a text that is put together from parts.
use Rattle.std.proofs.Common.{◌≡◌, ℕ, ◌+◌, ◌-◌, ◌<◌, ◌≤◌, Bool, true, false, ◌||◌, List, [], ◌∷◌, ◌++◌, length, get_or, take}
use Rattle.std.proofs.Common.{drop, map, refl, sym, ap, ◌∙◌, subst, inl, inr, append_assoc, append-nil, arith, slice_index}
use Rattle.std.proofs.Common.{length-take, length-drop, get_or-take, get_or-drop, take-append-drop}
use Rattle.std.proofs.lemmas.List.{get_or_default, take_more, take-take, drop-take}
use Rattle.std.proofs.lemmas.Slice.{between_is}
use Rattle.std.specs.List.{slice_split, list_any, All}
use Rattle.std.specs.Prelude.{◌==◌}
use Rattle.std.specs.Str.Lines.{lines, lines_of_parts, strip_carriage_return}
use Rattle.std.proofs.lemmas.List.Splits.{slice_split_none, slice_split-cons_yes}
use Rattle.std.proofs.lemmas.List.Folds.{list_any_none}
use Rattle.std.proofs.Math.Dec.{eqb-suc-zero}
use Rattle.line_protocol.specs.Lines.{is_line_feed, whole_lines}
use Rattle.line_protocol.specs.Steps.{IsWhole, NoneEnds}

-- no line feed in a text
abbrev pub IsOpen : List ℕ → Type 0
IsOpen text = All (λ byte. is_line_feed byte ≡ false) text

-- the parts of a text are a first one and others
record Parts (cut : ℕ → Bool) (text : List ℕ) : Type 0 where
  part : List ℕ
  parts : List (List ℕ)
  are : slice_split cut text ≡ part ∷ parts

module _ (cut : ℕ → Bool) where
  parts_at : (b : ℕ) (bs : List ℕ) (v : Bool) → cut b ≡ v → Parts cut bs → Parts cut (b ∷ bs)
  parts_at b bs true e rest = record { part = []; parts = slice_split cut bs; are = rw e refl }
  parts_at b bs false e rest = record { part = b ∷ rest.part; parts = rest.parts; are = rw (e, rest.are) refl }

  parts_of : (text : List ℕ) → Parts cut text
  parts_of [] = record { part = []; parts = []; are = refl }
  parts_of (b ∷ bs) = parts_at b bs (cut b) refl (parts_of bs)

  split_at : (b y : ℕ) (bs rest : List ℕ) (v : Bool) → cut b ≡ v →
      slice_split cut (bs ++ y ∷ rest) ≡ slice_split cut bs ++ slice_split cut rest
      → slice_split cut (b ∷ (bs ++ y ∷ rest)) ≡ slice_split cut (b ∷ bs) ++ slice_split cut rest
  split_at b y bs rest true e next = rw e (ap (λ parts. [] ∷ parts) next)
  split_at b y bs rest false e next =
      let first = parts_of bs in
      rw (e, next, first.are) refl

  -- the parts before a cut, and the parts after it
  split-append : (front : List ℕ) (y : ℕ) (rest : List ℕ) → cut y ≡ true →
      slice_split cut (front ++ y ∷ rest) ≡ slice_split cut front ++ slice_split cut rest
  split-append [] y rest h = slice_split-cons_yes cut y rest h
  split-append (b ∷ bs) y rest h = split_at b y bs rest (cut b) refl (split-append bs y rest h)

-- parts before parts lose their carriage returns
lines_of_parts-append : (parts : List (List ℕ)) (y : List ℕ) (more : List (List ℕ))
    → lines_of_parts (parts ++ y ∷ more) ≡ map strip_carriage_return parts ++ lines_of_parts (y ∷ more)
lines_of_parts-append [] y more = refl
lines_of_parts-append (x ∷ []) y more = refl
lines_of_parts-append (x ∷ z ∷ parts) y more = ap (λ rest. strip_carriage_return x ∷ rest) (lines_of_parts-append (z ∷ parts) y more)

after_feed : (front rest : List ℕ) → lines (front ++ 10 ∷ rest) ≡ map strip_carriage_return (slice_split is_line_feed front) ++ lines rest
after_feed front rest =
    let others = parts_of is_line_feed rest in
    ap lines_of_parts (split-append is_line_feed front 10 rest refl)
    ∙ ap (λ parts. lines_of_parts (slice_split is_line_feed front ++ parts)) others.are
    ∙ lines_of_parts-append (slice_split is_line_feed front) others.part others.parts
    ∙ ap (λ parts. map strip_carriage_return (slice_split is_line_feed front) ++ lines_of_parts parts) (sym others.are)

-- the lines of whole lines, and then those of the rest
pub lines-append : (front rest : List ℕ) → IsWhole front → lines (front ++ rest) ≡ lines front ++ lines rest
lines-append front rest (inl none) = rw none refl
lines-append front rest (inr (most, e)) =
    rw (e, append_assoc most (10 ∷ []) rest, after_feed most rest, after_feed most [])
    (ap (λ ended. ended ++ lines rest) (sym (append-nil (map strip_carriage_return (slice_split is_line_feed most)))))

-- one line that has ended
pub lines-one : (line : List ℕ) → IsOpen line → lines (line ++ 10 ∷ []) ≡ strip_carriage_return line ∷ []
lines-one line h = after_feed line [] ∙ ap (λ parts. map strip_carriage_return parts ++ []) (slice_split_none is_line_feed line h)

-- one line that has not
pub lines-last : (line : List ℕ) → IsOpen line → 0 < length line → lines line ≡ line ∷ []
lines-last [] h some = absurd (omega arith)
lines-last (b ∷ bs) h some =
    let long : (length (b ∷ bs) == 0) ≡ false = eqb-suc-zero (length bs) in
    ap lines_of_parts (slice_split_none is_line_feed (b ∷ bs) h) ∙ rw long refl

-- ---- the lines that have ended

open_none : (text : List ℕ) → IsOpen text → whole_lines text ≡ []
open_none [] h = refl
open_none (b ∷ bs) h = rw (list_any_none is_line_feed (b ∷ bs) h) refl

or_true : (b : Bool) → (b || true) ≡ true
or_true true = refl
or_true false = refl

some_any : (front rest : List ℕ) → list_any is_line_feed ((front ++ 10 ∷ []) ++ rest) ≡ true
some_any [] rest = refl
some_any (b ∷ bs) rest = rw (some_any bs rest) (or_true (is_line_feed b))

whole_at : (front rest : List ℕ) → whole_lines ((front ++ 10 ∷ []) ++ rest) ≡ (front ++ 10 ∷ []) ++ whole_lines rest
whole_at [] rest = refl
whole_at (b ∷ bs) rest = rw (some_any (b ∷ bs) rest) (ap (λ t. b ∷ t) (whole_at bs rest))

-- whole lines at the front are whole
pub whole_lines-append : (front rest : List ℕ) → IsWhole front → whole_lines (front ++ rest) ≡ front ++ whole_lines rest
whole_lines-append front rest (inl none) = rw none refl
whole_lines-append front rest (inr (most, e)) = rw e (whole_at most rest)

-- a begun line is no whole one
pub whole_lines-cut : (front rest : List ℕ) → IsWhole front → IsOpen rest → whole_lines (front ++ rest) ≡ front
whole_lines-cut front rest whole h = whole_lines-append front rest whole ∙ ap (λ t. front ++ t) (open_none rest h) ∙ append-nil front

-- ---- parts of a text by their places

-- a part in which no line ends
pub open_part : (text : List ℕ) (from to : ℕ) → to ≤ length text → NoneEnds text from to → IsOpen (take (to - from) (drop from text))
open_part text from to within none k d short =
    let room = length-take (to - from) (drop from text) in
    let left = length-drop from text in
    let inside : k < to - from = omega arith in
    let at : from + k < length text = omega arith in
    rw (get_or-take (to - from) (drop from text) k d inside, get_or-drop from text k d, get_or_default text (from + k) d 0 at)
    (none (from + k) (omega arith) (omega arith))

-- a text in which no line ends
pub open_text : (text : List ℕ) → NoneEnds text 0 (length text) → IsOpen text
open_text text none k d short = rw (get_or_default text k d 0 short) (none k (omega arith) short)

-- the text up to a line feed: up to the line's start, the line, and the line feed
pub take_line : (text : List ℕ) (from feed : ℕ) → from ≤ feed → feed < length text → slice_index text feed ≡ 10
    → take (feed + 1) text ≡ take from text ++ (take (feed - from) (drop from text) ++ 10 ∷ [])
take_line text from feed order inside is_feed =
    let front : take feed text ≡ take from text ++ take (feed - from) (drop from text) =
    sym (take-append-drop from (take feed text)) ∙ rw (take-take from feed text order, ← between_is text from feed) refl in
    take_more text feed 0 inside ∙ rw (front, is_feed, append_assoc) refl

-- the lines up to a line feed: those before the line, and the line
pub lines_more : (text : List ℕ) (from feed : ℕ) → from ≤ feed → feed < length text → slice_index text feed ≡ 10 →
    IsWhole (take from text) → NoneEnds text from feed
    → lines (take (feed + 1) text) ≡ lines (take from text) ++ strip_carriage_return (take (feed - from) (drop from text)) ∷ []
lines_more text from feed order inside is_feed whole none =
    let line = take (feed - from) (drop from text) in
    ap lines (take_line text from feed order inside is_feed) ∙ lines-append (take from text) (line ++ 10 ∷ []) whole
    ∙ ap (λ last. lines (take from text) ++ last) (lines-one line (open_part text from feed (omega arith) none))

pub whole_more : (text : List ℕ) (feed : ℕ) → feed < length text → slice_index text feed ≡ 10 → IsWhole (take (feed + 1) text)
whole_more text feed inside is_feed = inr (take feed text, take_more text feed 0 inside ∙ rw is_feed refl)

-- ---- a buffer that was read into after the begun line

module _ (old new : List ℕ) (begun : ℕ) (same : take begun new ≡ take begun old) where
  -- the begun line still has no line feed
  pub begun_none : (end : ℕ) → IsOpen (take begun old) → begun ≤ end → begun ≤ length new → NoneEnds (take end new) 0 begun
  begun_none end begun_open fits within k low high =
      let long = length-take begun new in
      let inside : k < length (take begun new) = omega arith in
      let shown : is_line_feed (get_or (take begun new) k 0) ≡ false = subst IsOpen (sym same) begun_open k 0 inside in
      let below : k < end = omega arith in
      rw (get_or-take end new k 0 below) (rw (get_or-take begun new k 0 high) at shown)

  -- the begun line and what was read after it
  pub begun_read : (n : ℕ) → take begun old ++ take n (drop begun new) ≡ take (begun + n) new
  begun_read n =
      let order : begun ≤ begun + n = omega arith in
      let front : take begun (take (begun + n) new) ≡ take begun old = take-take begun (begun + n) new order ∙ same in
      let back : drop begun (take (begun + n) new) ≡ take n (drop begun new) = drop-take begun n new in
      rw (← front, ← back) (take-append-drop begun (take (begun + n) new))

  -- the same, up to some end and after it
  pub begun_cut : (n end : ℕ) → end ≤ begun + n →
      take begun old ++ take n (drop begun new) ≡ take end new ++ drop end (take (begun + n) new)
  begun_cut n end order =
      begun_read n ∙ sym (take-append-drop end (take (begun + n) new)) ∙ ap (λ t. t ++ drop end (take (begun + n) new))
      (take-take end (begun + n) new order)
