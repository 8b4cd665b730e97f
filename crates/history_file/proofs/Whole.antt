-- Bytes tell at most one history, and where they tell one no line of them is wrong.
use Rattle.std.proofs.Common.{◌≡◌, ◌⊎◌, ℕ, suc, ◌+◌, ◌^◌, ◌<◌, ◌≤◌, List, [], ◌∷◌, ◌++◌, length, Option, Some, refl, sym, ◌∙◌, ap}
use Rattle.std.proofs.Common.{arith, inl, inr, append_assoc, length-append, map, Result, Ok, Err, IfOk, IfErr, MatchResult}
use Rattle.std.specs.List.{AllByRecursion}
use Rattle.std.proofs.lemmas.List.Elements.{All-append, All-cons, recursion_from_All}
use Rattle.line_protocol.specs.Words.{words}
use Rattle.netchange_core.specs.OpeningView.{OpeningView}
use Rattle.prefix_patterns.proofs.Tokens.{parts_at-found}
use Rattle.prefix_patterns.specs.Reading.{parts_at}
use Rattle.history_file.proofs.Lines.{entry_cut, entry_of_line, opening_cut, opening_from, opening_of_line, parts_of}
use Rattle.std.proofs.lemmas.List.{length-map, map_push}
use Rattle.history_file.specs.Files.{AreFront, AreRead, BeginsWithLine, IsEntriesFault, IsFaultOf, IsRead}
use Rattle.history_file.specs.Files.{IsRest, history_view, IsNoEntry, IsUnended, IsWrongAt, Tells}
use Rattle.history_lines.specs.Fits.{FitsEntry, FitsHistory, FitsOpening}
use Rattle.history_file.specs.Reading.{OpeningParts, entry_in, opening_parts}
use Rattle.history_lines.specs.Text.{entries_text, entry_line, history_text, opening_line}
use Rattle.history_lines.specs.Views.{EntryView, HistoryView, entry_view}
use Rattle.history_file.specs.declared.history.SavedHistory.{SavedHistory}
use Rattle.route_history.specs.declared.entry.Entry.{Entry}
use Rattle.history_file.specs.declared.fault.HistoryFault.{HistoryFault}
use Rattle.history_file.specs.declared.fault.HistoryFault.TheVariants as fault

some_is : {A : Type 0} (x y : A) → Some x ≡ Some y → x ≡ y
some_is x y e = cc

-- what the first line is cut to
first_entry : (at : ℕ) (x : EntryView) (xs : List EntryView) (s : List ℕ) → at < 2 ^ 64 → FitsEntry x →
    parts_at 10 (entries_text at (x ∷ xs) ++ s) ≡ Some (entry_line at x, entries_text (suc at) xs ++ s)
first_entry at x xs s fits h =
    ap (parts_at 10) (append_assoc (entry_line at x) (10 ∷ entries_text (suc at) xs) s) ∙ entry_cut at x (entries_text (suc at) xs ++ s) fits h

first_opening : (h : HistoryView) (s : List ℕ) → FitsHistory h →
    parts_at 10 (history_text h ++ s) ≡ Some (opening_line h.opening h.limit, entries_text 0 h.entries ++ s)
first_opening h s fits =
    ap (parts_at 10) (append_assoc (opening_line h.opening h.limit) (10 ∷ entries_text 0 h.entries) s)
    ∙ opening_cut h.opening h.limit (entries_text 0 h.entries ++ s) fits.opening

-- the line of an entry is of that entry alone
one_entry : (at : ℕ) (x y : EntryView) → at < 2 ^ 64 → FitsEntry x → FitsEntry y → entry_line at x ≡ entry_line at y → x ≡ y
one_entry at x y fits p q e =
    some_is x y (sym (entry_of_line at x fits p) ∙ ap (λ l. entry_in (words l)) e ∙ entry_of_line at y fits q)

one_opening : (a b : HistoryView) → FitsHistory a → FitsHistory b → opening_line a.opening a.limit ≡ opening_line b.opening b.limit →
    parts_of a.opening a.limit ≡ parts_of b.opening b.limit
one_opening a b p q e = some_is (parts_of a.opening a.limit) (parts_of b.opening b.limit)
    (sym (opening_of_line a.opening a.limit p.opening) ∙ ap (λ l. opening_parts (words l)) e ∙ opening_of_line b.opening b.limit q.opening)

-- the first part and the second of what is found twice
fst_is : {A B : Type 0} (r : Option (A × B)) (a c : A) (b d : B) → r ≡ Some (a, b) → r ≡ Some (c, d) → a ≡ c
fst_is r a c b d p q = ap (λ (z : _ × _). z.0) (some_is (a, b) (c, d) (sym p ∙ q))

snd_is : {A B : Type 0} (r : Option (A × B)) (a c : A) (b d : B) → r ≡ Some (a, b) → r ≡ Some (c, d) → b ≡ d
snd_is r a c b d p q = ap (λ (z : _ × _). z.1) (some_is (a, b) (c, d) (sym p ∙ q))

same_entries : (at : ℕ) (xs ys : List EntryView) (s t : List ℕ) → at + length xs < 2 ^ 64 → at + length ys < 2 ^ 64 →
    AllByRecursion FitsEntry xs → AllByRecursion FitsEntry ys → IsUnended s → IsUnended t →
    entries_text at xs ++ s ≡ entries_text at ys ++ t → (xs ≡ ys) × (s ≡ t)
same_entries at [] [] s t m n p q a b e = (refl, e)
same_entries at [] (y ∷ ys) s t m n p q a b e =
    let cut = ap (parts_at 10) e ∙ first_entry at y ys t (omega arith) q.0 in
    absurd cc
same_entries at (x ∷ xs) [] s t m n p q a b e =
    let cut = ap (parts_at 10) (sym e) ∙ first_entry at x xs s (omega arith) p.0 in
    absurd cc
same_entries at (x ∷ xs) (y ∷ ys) s t m n p q a b e =
    let text = entries_text at (x ∷ xs) ++ s in
    let left = first_entry at x xs s (omega arith) p.0 in
    let right = ap (parts_at 10) e ∙ first_entry at y ys t (omega arith) q.0 in
    let line = fst_is (parts_at 10 text) (entry_line at x) (entry_line at y) (entries_text (suc at) xs ++ s) (entries_text (suc at) ys ++ t) left right in
    let rest = snd_is (parts_at 10 text) (entry_line at x) (entry_line at y) (entries_text (suc at) xs ++ s) (entries_text (suc at) ys ++ t) left right in
    let first : x ≡ y = one_entry at x y (omega arith) p.0 q.0 line in
    let others = same_entries (suc at) xs ys s t (omega arith) (omega arith) p.1 q.1 a b rest in
    (ap (λ z. z ∷ xs) first ∙ ap (λ zs. y ∷ zs) others.0, others.1)

-- a history that goes on where another stops has a line there that is its entry's
no_stop : (at k : ℕ) (xs ys : List EntryView) (left t line later : List ℕ) → k ≡ at + length xs → at + length xs < 2 ^ 64 →
    at + length ys < 2 ^ 64 → AllByRecursion FitsEntry xs → AllByRecursion FitsEntry ys → BeginsWithLine left line later →
    IsUnended t → entries_text at xs ++ left ≡ entries_text at ys ++ t → (length ys ≤ length xs) ⊎ IsNoEntry k line → ⊥
no_stop at k [] [] left t line later is m n p q begins b e wrong =
    let cut = ap (parts_at 10) (sym e) ∙ begins in
    absurd cc
no_stop at k [] (y ∷ ys) left t line later is m n p q begins b e (inl few) = absurd (omega (arith, few))
no_stop at k [] (y ∷ ys) left t line later is m n p q begins b e (inr none) =
    let cut = ap (parts_at 10) e ∙ first_entry at y ys t (omega arith) q.0 in
    let same = fst_is (parts_at 10 left) line (entry_line at y) later (entries_text (suc at) ys ++ t) begins cut in
    let here : k ≡ at = omega (arith, is) in
    none y q.0 (same ∙ ap (λ j. entry_line j y) (sym here))
no_stop at k (x ∷ xs) [] left t line later is m n p q begins b e wrong =
    let cut = ap (parts_at 10) (sym e) ∙ first_entry at x xs left (omega arith) p.0 in
    absurd cc
no_stop at k (x ∷ xs) (y ∷ ys) left t line later is m n p q begins b e wrong =
    let text = entries_text at (x ∷ xs) ++ left in
    let one = first_entry at x xs left (omega arith) p.0 in
    let two = ap (parts_at 10) e ∙ first_entry at y ys t (omega arith) q.0 in
    let rest = snd_is (parts_at 10 text) (entry_line at x) (entry_line at y) (entries_text (suc at) xs ++ left) (entries_text (suc at) ys ++ t) one two in
    no_stop (suc at) k xs ys left t line later (omega (arith, is)) (omega arith) (omega arith) p.1 q.1 begins b rest (fewer wrong)
  where
    fewer : (length (y ∷ ys) ≤ length (x ∷ xs)) ⊎ IsNoEntry k line → (length ys ≤ length xs) ⊎ IsNoEntry k line
    fewer (inl few) = inl (omega (arith, few))
    fewer (inr none) = inr none

short : (h : HistoryView) → FitsHistory h → 0 + length h.entries < 2 ^ 64
short h fits = omega (arith, fits.room, fits.opening.few)

-- the openings and the bytes after their lines, of histories that the same bytes tell
same_front : (bytes : List ℕ) (a b : HistoryView) (s t : List ℕ) → FitsHistory a → FitsHistory b → bytes ≡ history_text a ++ s →
    bytes ≡ history_text b ++ t →
    (parts_of a.opening a.limit ≡ parts_of b.opening b.limit) × (entries_text 0 a.entries ++ s ≡ entries_text 0 b.entries ++ t)
same_front bytes a b s t p q e f =
    let one = ap (parts_at 10) e ∙ first_opening a s p in
    let two = ap (parts_at 10) f ∙ first_opening b t q in
    let line = fst_is (parts_at 10 bytes) (opening_line a.opening a.limit) (opening_line b.opening b.limit) (entries_text 0 a.entries ++ s)
    (entries_text 0 b.entries ++ t) one two in
    let rest = snd_is (parts_at 10 bytes) (opening_line a.opening a.limit) (opening_line b.opening b.limit) (entries_text 0 a.entries ++ s)
    (entries_text 0 b.entries ++ t) one two in
    (one_opening a b p q line, rest)

-- a history from the parts of its opening and its entries
abbrev history_from : OpeningParts → List EntryView → HistoryView
history_from p es = record { opening = opening_from p; limit = p.limit; entries = es }

pub one_history : (bytes : List ℕ) (a b : HistoryView) (s t : List ℕ) → Tells bytes a s → Tells bytes b t → (a ≡ b) × (s ≡ t)
one_history bytes a b s t p q =
    let front = same_front bytes a b s t p.fits q.fits p.text q.text in
    let rest = same_entries 0 a.entries b.entries s t (short a p.fits) (short b q.fits) (recursion_from_All FitsEntry a.entries p.fits.each)
    (recursion_from_All FitsEntry b.entries q.fits.each) p.unended q.unended front.1 in
    (ap (λ z. history_from z a.entries) front.0 ∙ ap (history_from (parts_of b.opening b.limit)) rest.0, rest.1)

pub none_wrong : (bytes : List ℕ) (h : HistoryView) (s : List ℕ) (number : ℕ) → Tells bytes h s → IsWrongAt bytes number → ⊥
none_wrong bytes h s number tells (inl (one, lacks)) =
    let cut = ap (parts_at 10) tells.text ∙ first_opening h s tells.fits in
    let same = fst_is (parts_at 10 bytes) lacks.line (opening_line h.opening h.limit) lacks.later (entries_text 0 h.entries ++ s) lacks.begins cut in
    lacks.wrong h.opening h.limit tells.fits.opening same
none_wrong bytes h s number tells (inr (g, at, stops)) =
    let front = same_front bytes g h stops.left s stops.fits tells.fits stops.text tells.text in
    let limits : g.limit ≡ h.limit = ap (λ (p : OpeningParts). p.limit) front.0 in
    no_stop 0 (length g.entries) g.entries h.entries stops.left s stops.line stops.later (omega arith) (short g stops.fits) (short h tells.fits)
    (recursion_from_All FitsEntry g.entries stops.fits.each) (recursion_from_All FitsEntry h.entries tells.fits.each) stops.begins
    tells.unended front.1 (full limits stops.wrong)
  where
    full : g.limit ≡ h.limit → (length g.entries ≡ g.limit) ⊎ IsNoEntry (length g.entries) stops.line →
        (length h.entries ≤ length g.entries) ⊎ IsNoEntry (length g.entries) stops.line
    full limits (inl all) = inl (omega (arith, all, limits, tells.fits.room))
    full limits (inr none) = inr none

-- bytes that tell a history have a whole line
pub has_line : (bytes : List ℕ) (h : HistoryView) (s : List ℕ) → Tells bytes h s → IsUnended bytes → ⊥
has_line bytes h s tells unended =
    let cut = ap (parts_at 10) tells.text ∙ first_opening h s tells.fits in
    absurd cc

-- one entry more
pub text_push : (at : ℕ) (es : List EntryView) (e : EntryView) (rest : List ℕ) →
    entries_text at (es ++ e ∷ []) ++ rest ≡ entries_text at es ++ (entry_line (at + length es) e ++ 10 ∷ rest)
text_push at [] e rest =
    let here : at ≡ at + 0 = omega arith in
    append_assoc (entry_line at e) (10 ∷ []) rest ∙ ap (λ j. entry_line j e ++ 10 ∷ rest) here
text_push at (x ∷ es) e rest =
    let there : suc at + length es ≡ at + suc (length es) = omega arith in
    append_assoc (entry_line at x) (10 ∷ entries_text (suc at) (es ++ e ∷ [])) rest
    ∙ ap (λ l. entry_line at x ++ 10 ∷ l) (text_push (suc at) es e rest ∙ ap (λ j. entries_text (suc at) es ++ (entry_line j e ++ 10 ∷ rest)) there)
    ∙ sym (append_assoc (entry_line at x) (10 ∷ entries_text (suc at) es) (entry_line (at + suc (length es)) e ++ 10 ∷ rest))

-- a fault of bytes that tell a history is that memory was refused
pub only_memory : (bytes : List ℕ) (found : HistoryFault) (h : HistoryView) (s : List ℕ) → IsFaultOf bytes found → Tells bytes h s →
    found ≡ fault.Memory
only_memory bytes (fault.Line number) h s wrong tells = absurd (none_wrong bytes h s number tells wrong)
only_memory bytes fault.Unopened h s unended tells = absurd (has_line bytes h s tells unended)
only_memory bytes fault.Memory h s any tells = refl

-- the whole text, from its first line and its entries
pub whole_read : (bytes first rest : List ℕ) (h : HistoryView) (count : ℕ) → parts_at 10 bytes ≡ Some (first, rest) →
    FitsOpening h.opening h.limit → first ≡ opening_line h.opening h.limit → AreRead rest h.limit h.entries count → IsRead bytes h count
whole_read bytes first rest h count cut opening line read = record {
  unfinished = read.left;
  tells = record {
    fits = record { opening = opening; room = read.front.room; each = read.front.each };
    text = parts_at-found 10 bytes first rest cut ∙ ap (λ l. l ++ 10 ∷ rest) line
        ∙ ap (λ r. opening_line h.opening h.limit ++ 10 ∷ r) read.front.text
        ∙ sym (append_assoc (opening_line h.opening h.limit) (10 ∷ entries_text 0 h.entries) read.left);
    unended = read.unended;
  };
  count_is = read.count_is;
}

-- and where a line after the first is wrong
pub whole_wrong : (bytes first rest : List ℕ) (o : OpeningView) (limit : ℕ) (found : HistoryFault) →
    parts_at 10 bytes ≡ Some (first, rest) → FitsOpening o limit → first ≡ opening_line o limit → IsEntriesFault rest limit found →
    IsFaultOf bytes found
whole_wrong bytes first rest o limit (fault.Line number) cut opening line (es, at, stops) =
    let h : HistoryView = record { opening = o; limit = limit; entries = es } in
    inr (
      h,
      at,
      record {
        fits = record { opening = opening; room = stops.front.room; each = stops.front.each };
        line = stops.line;
        later = stops.later;
        left = stops.left;
        text = parts_at-found 10 bytes first rest cut ∙ ap (λ l. l ++ 10 ∷ rest) line
            ∙ ap (λ r. opening_line o limit ++ 10 ∷ r) stops.front.text
            ∙ sym (append_assoc (opening_line o limit) (10 ∷ entries_text 0 es) stops.left);
        begins = stops.begins;
        wrong = stops.wrong;
      },
    )
whole_wrong bytes first rest o limit fault.Unopened cut opening line none = absurd none
whole_wrong bytes first rest o limit fault.Memory cut opening line any = any

-- one entry more was read
pub front_push : (bytes : List ℕ) (limit at : ℕ) (es : List EntryView) (e : EntryView) (left line later : List ℕ) →
    AreFront bytes limit es left → length es ≡ at → at < limit → parts_at 10 left ≡ Some (line, later) → FitsEntry e →
    line ≡ entry_line at e → AreFront bytes limit (es ++ e ∷ []) later
front_push bytes limit at es e left line later front count below cut fits is =
    let here : at ≡ 0 + length es = omega (arith, count) in
    record {
      each = All-append FitsEntry es (e ∷ []) front.each (All-cons FitsEntry e [] fits (λ k d h. absurd (omega (arith, h))));
      room = omega (arith, length-append es (e ∷ []), count, below);
      text = front.text ∙ ap (λ l. entries_text 0 es ++ l)
          (parts_at-found 10 left line later cut ∙ ap (λ l. l ++ 10 ∷ later) (is ∙ ap (λ j. entry_line j e) here))
          ∙ sym (text_push 0 es e later);
    }

-- the faults of the entries after these
pub stopped : (bytes : List ℕ) (limit at number : ℕ) (items : List Entry) (left line later : List ℕ) → number ≡ at + 2 →
    AreFront bytes limit (map entry_view items) left → length items ≡ at → parts_at 10 left ≡ Some (line, later) →
    (at ≡ limit) ⊎ IsNoEntry at line → IsEntriesFault bytes limit (fault.Line number)
stopped bytes limit at number items left line later is front count cut wrong =
    let long : length (map entry_view items) ≡ at = length-map items entry_view ∙ count in (
      map entry_view items,
      is ∙ ap (λ n. n + 2) (sym long),
      record { line = line; later = later; left = left; front = front; begins = cut; wrong = rw long wrong },
    )

-- one entry more was read
pub read_on : (bytes : List ℕ) (limit at : ℕ) (items now : List Entry) (e : Entry) (left line later : List ℕ) → now ≡ items ++ e ∷ [] →
    AreFront bytes limit (map entry_view items) left → length items ≡ at → at < limit → parts_at 10 left ≡ Some (line, later) →
    FitsEntry (entry_view e) → line ≡ entry_line at (entry_view e) →
    AreFront bytes limit (map entry_view now) later × (length now ≡ at + 1)
read_on bytes limit at items now e left line later is front count below cut fits line_is =
    let long : length (map entry_view items) ≡ at = length-map items entry_view ∙ count in (
      rw (is, map_push entry_view items e)
          (front_push bytes limit at (map entry_view items) (entry_view e) left line later front long below cut fits line_is),
      ap length is ∙ omega (arith, length-append items (e ∷ []), count),
    )

-- the whole text is read as its entries are
pub rest_found : (bytes first rest : List ℕ) (o : OpeningView) (limit : ℕ) (r : Result SavedHistory HistoryFault) →
    parts_at 10 bytes ≡ Some (first, rest) → FitsOpening o limit → first ≡ opening_line o limit →
    MatchResult r (λ s. IsRest rest o limit s) (IsEntriesFault rest limit) → IfOk r (λ s. IsRead bytes (history_view s) s.unfinished)
rest_found bytes first rest o limit (Ok s) cut opening line found =
    whole_read bytes first rest (history_view s) s.unfinished cut (rw (found.opening_is, found.limit_is) opening)
    (rw (found.opening_is, found.limit_is) line) (rw found.limit_is found.read)
rest_found bytes first rest o limit (Err f) cut opening line wrong = tt

pub rest_refused : (bytes first rest : List ℕ) (o : OpeningView) (limit : ℕ) (r : Result SavedHistory HistoryFault) →
    parts_at 10 bytes ≡ Some (first, rest) → FitsOpening o limit → first ≡ opening_line o limit →
    MatchResult r (λ s. IsRest rest o limit s) (IsEntriesFault rest limit) → IfErr r (IsFaultOf bytes)
rest_refused bytes first rest o limit (Ok s) cut opening line found = tt
rest_refused bytes first rest o limit (Err f) cut opening line wrong = whole_wrong bytes first rest o limit f cut opening line wrong
