-- The laws of lines.
use Rattle.std.proofs.Common.{◌≡◌, ◌≢◌, ℕ, ◌≤◌, Bool, true, false, List, [], ◌∷◌, ◌++◌, length}
use Rattle.std.proofs.Common.{take, drop, Option, Some, None, All, refl, sym, ◌∙◌, ap, subst}
use Rattle.std.proofs.Common.{◌&&◌, nat_le, arith, length-append, append_assoc, inr, ◌↔◌, filter_map, take-append-drop}
use Rattle.std.proofs.lemmas.List.{take_at, drop_at}
use Rattle.std.specs.List.{slice_split}
use Rattle.std.specs.Option.{option_map}
use Rattle.std.specs.Str.{bytes_eq}
use Rattle.std.proofs.lemmas.Bool.{and_parts, cond-true, leb-true, ne_eqb}
use Rattle.std.proofs.lemmas.List.Elements.{All-append, All-cons, All-head, All-tail, All-weaker}
use Rattle.std.proofs.lemmas.List.Splits.{slice_split_at}
use Rattle.std.proofs.lemmas.Option.{cond_some}
use Rattle.std.proofs.lemmas.Slice.Eq.{bytes_eq-Decides}
use Rattle.line_protocol.proofs.LineLemmas.{whole_lines-append}
use Rattle.line_protocol.specs.Lines.{is_line_feed, whole_lines}
use Rattle.netchange_core.specs.declared.message.Message.{Message}
use Rattle.prefix_patterns.proofs.Tokens.{parts_at-joined}
use Rattle.prefix_patterns.specs.Reading.{◌>>=◌, parts_at}
use Rattle.message_streams.proofs.Pairs.{bind_some, pair_in-found, pair_in-text, pair_text-open, pair_text-short, same_pair}
use Rattle.message_streams.specs.Lines.{FitsMessage, line_of, lines_text, message_line, message_text, messages_among}
use Rattle.message_streams.specs.Reading.{message_in, messages_in, pair_in}

-- ---- a line

map_some : {A B : Type 0} (f : A → B) (r : Option A) (y : B) → option_map f r ≡ Some y → (x : A) × (r ≡ Some x) × (f x ≡ y)
map_some f None y e = absurd cc
map_some f (Some x) y e = (x, refl, cc)

pub message_in-text : (m : Message) → FitsMessage m → message_in (message_text m) ≡ Some m
message_in-text m fits = rw (pair_in-text m.dest m.dist fits.dest fits.dist) refl

pub message_in-found : (line : List ℕ) (m : Message) → message_in line ≡ Some m → FitsMessage m × (line ≡ message_text m)
message_in-found line m e =
    let found = map_some (λ (p : ℕ × ℕ). record { dest = p.0; dist = p.1 }) (pair_in line) m e in
    let pair = pair_in-found line found.0.0 found.0.1 found.1 in
    subst (λ (n : Message). FitsMessage n × (line ≡ message_text n)) found.2 (record { dest = pair.first; dist = pair.second }, pair.is)

pub message_exact : (line : List ℕ) (m : Message) → (message_in line ≡ Some m) ↔ (FitsMessage m × (line ≡ message_text m))
message_exact line m = (message_in-found line m, λ is. ap message_in is.1 ∙ message_in-text m is.0)

-- ---- lines one after another

-- lines with no line feed in them, where the same bytes begin with both
cut_once : (a b x y : List ℕ) → All (λ byte. byte ≢ 10) a → All (λ byte. byte ≢ 10) b → (a ++ 10 ∷ []) ++ x ≡ (b ++ 10 ∷ []) ++ y →
    (a ≡ b) × (x ≡ y)
cut_once a b x y p q e =
    let whole : a ++ 10 ∷ x ≡ b ++ 10 ∷ y = sym (append_assoc a (10 ∷ []) x) ∙ e ∙ append_assoc b (10 ∷ []) y in
    same_pair a b x y (parts_at 10 (a ++ 10 ∷ x)) (parts_at-joined 10 a x p) (ap (parts_at 10) whole ∙ parts_at-joined 10 b y q)

open_message : (m : Message) → FitsMessage m → All (λ byte. byte ≢ 10) (message_text m)
open_message m fits = pair_text-open m.dest m.dist fits.dest fits.dist

pub message_apart : (a b : Message) (x y : List ℕ) → FitsMessage a → FitsMessage b → message_line a ++ x ≡ message_line b ++ y →
    (a ≡ b) × (x ≡ y)
message_apart a b x y p q e =
    let cut = cut_once (message_text a) (message_text b) x y (open_message a p) (open_message b q) e in
    let same : Some a ≡ Some b = sym (message_in-text a p) ∙ ap message_in cut.0 ∙ message_in-text b q in
    (cc, cut.1)

-- ---- messages, a line each, and empty lines

whole_line : (line : Option Message) (rest : List ℕ) → whole_lines (line_of line ++ rest) ≡ line_of line ++ whole_lines rest
whole_line None rest = whole_lines-append (10 ∷ []) rest (inr ([], refl))
whole_line (Some m) rest = whole_lines-append (message_line m) rest (inr (message_text m, refl))

whole_text : (lines : List (Option Message)) → whole_lines (lines_text lines) ≡ lines_text lines
whole_text [] = refl
whole_text (line ∷ lines) = whole_line line (lines_text lines) ∙ ap (λ l. line_of line ++ l) (whole_text lines)

-- a first line that has ended is a part of its own
first_part : (m : Message) (rest : List ℕ) → FitsMessage m →
    slice_split is_line_feed (message_line m ++ rest) ≡ message_text m ∷ slice_split is_line_feed rest
first_part m rest fits =
    let feeds = All-weaker (λ byte. byte ≢ 10) (λ byte. is_line_feed byte ≡ false) (λ byte other. ne_eqb byte 10 other) (message_text m)
    (open_message m fits) in
    ap (slice_split is_line_feed) (append_assoc (message_text m) (10 ∷ []) rest) ∙ slice_split_at is_line_feed (message_text m) 10 rest feeds refl

empty_part : (rest : List ℕ) → slice_split is_line_feed (10 ∷ rest) ≡ [] ∷ slice_split is_line_feed rest
empty_part rest = slice_split_at is_line_feed [] 10 rest (λ k d h. absurd (omega (arith, h))) refl

-- an empty line says nothing
nothing_said : message_in [] ≡ None
unfolding pair_in parts_at
nothing_said = refl

skip_nothing : (parts : List (List ℕ)) → filter_map message_in ([] ∷ parts) ≡ filter_map message_in parts
skip_nothing parts = rw nothing_said refl

said : (lines : List (Option Message)) → All FitsMessage (messages_among lines) →
    filter_map message_in (slice_split is_line_feed (lines_text lines)) ≡ messages_among lines
said [] fits = rw nothing_said refl
said (None ∷ lines) fits =
    ap (filter_map message_in) (empty_part (lines_text lines)) ∙ skip_nothing (slice_split is_line_feed (lines_text lines)) ∙ said lines fits
said (Some m ∷ lines) fits =
    rw (first_part m (lines_text lines) (All-head FitsMessage m (messages_among lines) fits), message_in-text m (All-head FitsMessage m (messages_among lines) fits))
    (ap (λ l. m ∷ l) (said lines (All-tail FitsMessage m (messages_among lines) fits)))

pub messages_in-lines : (lines : List (Option Message)) → All FitsMessage (messages_among lines) → messages_in (lines_text lines) ≡ messages_among lines
messages_in-lines lines fits = rw (whole_text lines) (said lines fits)

-- ---- lengths

pub message_short : (m : Message) → FitsMessage m → length (message_line m) ≤ 64
message_short m fits = omega (arith, length-append (message_text m) (10 ∷ []), pair_text-short m.dest m.dist fits.dest fits.dist)
