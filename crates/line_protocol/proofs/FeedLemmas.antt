-- Line feeds of a text, and of what follows a place in it.
use Rattle.std.proofs.Common.{◌≡◌, ℕ, ◌+◌, ◌-◌, ◌≤◌, List, length, take, drop, get_or, slice_index, sym, ap, ◌∙◌, arith, length-drop}
use Rattle.std.proofs.lemmas.Bool.{false_from_ne_true}
use Rattle.std.proofs.lemmas.List.{get_or-drop, take_all}
use Rattle.memchr.specs.Find.{Nowhere, Passes, is_byte}
use Rattle.line_protocol.specs.Steps.{NoneEnds}

-- what follows a place
abbrev pub behind : List ℕ → ℕ → List ℕ
behind text from = take (length text - from) (drop from text)

pub byte_behind : (text : List ℕ) (from at : ℕ) → slice_index (behind text from) at ≡ slice_index text (from + at)
byte_behind text from at =
    let whole : behind text from ≡ drop from text = take_all _ (drop from text) (omega (arith, length-drop from text)) in
    ap (λ l. get_or l at 0) whole ∙ get_or-drop from text at 0

pub length_behind : (text : List ℕ) (from : ℕ) → length (behind text from) ≡ length text - from
length_behind text from =
    let whole : behind text from ≡ drop from text = take_all _ (drop from text) (omega (arith, length-drop from text)) in
    ap length whole ∙ length-drop from text

pub none_behind : (text : List ℕ) (from to count : ℕ) → Nowhere (Passes (is_byte 10) (behind text from)) 0 count → to ≤ from + count
    → NoneEnds text from to
none_behind text from to count none within k low high =
    let at : from + (k - from) ≡ k = omega arith in
    let same : slice_index (behind text from) (k - from) ≡ slice_index text k =
    byte_behind text from (k - from) ∙ ap (slice_index text) at in
    rw (sym same) (false_from_ne_true _ (none (k - from) (omega arith) (omega arith)))
