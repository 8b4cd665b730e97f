-- Lines are cut again as they were written, and what a line was written for is read from it.
use Rattle.std.proofs.Common.{◌≡◌, ℕ, ◌^◌, ◌<◌, Bool, List, ◌∷◌, ◌++◌, Some, None, Err, not, true}
use Rattle.std.proofs.Common.{true≢false, bytes_eq, sym, ◌∙◌, ap, decimal, codes, subst}
use Rattle.std.proofs.lemmas.Slice.Eq.{bytes_eq-Decides}
use Rattle.line_protocol.specs.Words.{words}
use Rattle.netchange_core.specs.OpeningView.{OpeningView}
use Rattle.prefix_patterns.proofs.Tokens.{parts_at-joined}
use Rattle.prefix_patterns.specs.Reading.{parts_at}
use Rattle.history_file.proofs.Again.{entry_again, opening_again}
use Rattle.history_file.proofs.LinePlain.{plain-entry, plain-mark, plain-opening}
use Rattle.history_file.proofs.Plain.{line_bytes, no_feed, plain-decimal, words-spaced}
use Rattle.history_file.specs.Files.{IsNoEntry, IsNoOpening}
use Rattle.history_lines.specs.Fits.{FitsEntry, FitsOpening}
use Rattle.history_file.specs.Reading.{IsRead, OpeningParts, entry_in, opening_parts}
use Rattle.history_lines.specs.Text.{entry_line, event_words, opening_line, opening_words, reply_words}
use Rattle.history_lines.specs.Views.{EntryView, entry_view}
use Rattle.history_file.specs.declared.fault.HistoryLineFault.{HistoryLineFault}
use Rattle.history_file.specs.declared.fault.HistoryLineFault.TheVariants as fault

-- what an opening's line says
abbrev pub parts_of : OpeningView → ℕ → OpeningParts
parts_of o limit = record { size = o.size; me = o.me; limit = limit; prefixes = o.prefixes }

-- the opening that parts are of, if they are of one
abbrev pub opening_from : OpeningParts → OpeningView
opening_from p = record { size = p.size; me = p.me; prefixes = p.prefixes }

pub entry_of_line : (at : ℕ) (e : EntryView) → at < 2 ^ 64 → FitsEntry e → entry_in (words (entry_line at e)) ≡ Some e
entry_of_line at e fits h =
    ap entry_in (words-spaced (decimal at) (event_words e.event ++ reply_words e.reply) (plain-decimal at fits) (plain-entry e h))
    ∙ entry_again (decimal at) e h

pub opening_of_line : (o : OpeningView) (limit : ℕ) → FitsOpening o limit →
    opening_parts (words (opening_line o limit)) ≡ Some (parts_of o limit)
opening_of_line o limit h =
    ap opening_parts (words-spaced (codes "NCH1") (opening_words o limit) plain-mark (plain-opening o limit h))
    ∙ opening_again (codes "NCH1") o limit h

-- the first line of what follows is cut where it ends
pub entry_cut : (at : ℕ) (e : EntryView) (rest : List ℕ) → at < 2 ^ 64 → FitsEntry e →
    parts_at 10 (entry_line at e ++ 10 ∷ rest) ≡ Some (entry_line at e, rest)
entry_cut at e rest fits h = parts_at-joined 10 (entry_line at e) rest (no_feed (entry_line at e)
    (line_bytes (decimal at) (event_words e.event ++ reply_words e.reply) (plain-decimal at fits) (plain-entry e h)))

pub opening_cut : (o : OpeningView) (limit : ℕ) (rest : List ℕ) → FitsOpening o limit →
    parts_at 10 (opening_line o limit ++ 10 ∷ rest) ≡ Some (opening_line o limit, rest)
opening_cut o limit rest h = parts_at-joined 10 (opening_line o limit) rest (no_feed (opening_line o limit)
    (line_bytes (codes "NCH1") (opening_words o limit) plain-mark (plain-opening o limit h)))

some_is : {A : Type 0} (x y : A) → Some x ≡ Some y → x ≡ y
some_is x y e = cc

-- a line that is read as no entry, or as one that is spelled otherwise, is no entry's
pub no_entry_unread : (at : ℕ) (line : List ℕ) → at < 2 ^ 64 → entry_in (words line) ≡ None → IsNoEntry at line
no_entry_unread at line fits none e h is =
    let read : entry_in (words line) ≡ Some e = ap (λ l. entry_in (words l)) is ∙ entry_of_line at e fits h in
    absurd cc

pub no_entry_other : (at : ℕ) (line : List ℕ) (found : EntryView) → at < 2 ^ 64 → entry_in (words line) ≡ Some found →
    (line ≡ entry_line at found → ⊥) → IsNoEntry at line
no_entry_other at line found fits some other e h is =
    let read : entry_in (words line) ≡ Some e = ap (λ l. entry_in (words l)) is ∙ entry_of_line at e fits h in
    let same : e ≡ found = some_is e found (sym read ∙ some) in
    other (is ∙ ap (entry_line at) same)

-- the same of openings
pub no_opening_unread : (line : List ℕ) → opening_parts (words line) ≡ None → IsNoOpening line
no_opening_unread line none o limit h is =
    let read : opening_parts (words line) ≡ Some (parts_of o limit) = ap (λ l. opening_parts (words l)) is ∙ opening_of_line o limit h in
    absurd cc

pub no_opening_other : (line : List ℕ) (p : OpeningParts) → opening_parts (words line) ≡ Some p →
    (FitsOpening (opening_from p) p.limit → line ≡ opening_line (opening_from p) p.limit → ⊥) → IsNoOpening line
no_opening_other line p some other o limit h is =
    let read : opening_parts (words line) ≡ Some (parts_of o limit) = ap (λ l. opening_parts (words l)) is ∙ opening_of_line o limit h in
    let same : parts_of o limit ≡ p = some_is (parts_of o limit) p (sym read ∙ some) in
    subst (λ q. (FitsOpening (opening_from q) q.limit → line ≡ opening_line (opening_from q) q.limit → ⊥)) (sym same) other h is

-- what reading a line by its words says of a fault
pub entry_unread : (at : ℕ) (line : List ℕ) (f : HistoryLineFault) → at < 2 ^ 64 → IsRead entry_view (entry_in (words line)) (Err f) →
    f ≡ fault.Form → IsNoEntry at line
entry_unread at line fault.Form fits none is = no_entry_unread at line fits none
entry_unread at line fault.Memory fits any is = absurd cc

pub opening_unread : {X : Type 0} (view : X → OpeningParts) (line : List ℕ) (f : HistoryLineFault) →
    IsRead view (opening_parts (words line)) (Err f) → f ≡ fault.Form → IsNoOpening line
opening_unread view line fault.Form none is = no_opening_unread line none
opening_unread view line fault.Memory any is = absurd cc

-- lists that a test tells apart
pub different : (r : Bool) (xs ys : List ℕ) → r ≡ not (bytes_eq xs ys) → r ≡ true → xs ≡ ys → ⊥
different r xs ys is holds same =
    let equal : bytes_eq xs ys ≡ true = (bytes_eq-Decides xs ys).1 same in
    true≢false (sym holds ∙ is ∙ ap not equal)
