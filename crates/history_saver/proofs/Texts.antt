-- The lines of entries, in parts.
use Rattle.std.proofs.Common.{◌≡◌, ◌∙◌, sym, ap, subst, ℕ, suc, ◌+◌, ◌≤◌, ◌<◌, List, [], ◌∷◌, ◌++◌, append_assoc}
use Rattle.std.proofs.Common.{append-nil, add-one, length, map, take, drop, get_or, arith}
use Rattle.std.specs.Prelude.{All}
use Rattle.std.proofs.Math.Seq.{take-suc}
use Rattle.std.proofs.Math.ListN.{drop_of_length-le}
use Rattle.std.proofs.lemmas.List.Elements.{All-nil, All-push}
use Rattle.std.proofs.lemmas.List.{drop-append-le, length-drop, length-map, length-take, map-append}
use Rattle.history_lines.specs.Fits.{FitsEntry}
use Rattle.history_lines.specs.Text.{entries_text, entry_line}
use Rattle.history_lines.specs.Views.{EntryView, entry_view}
use Rattle.route_history.specs.declared.entry.Entry.{Entry}
use Rattle.history_saver.specs.Adding.{between}

pub entries_text-append : (at : ℕ) (xs ys : List EntryView) → entries_text at (xs ++ ys) ≡ entries_text at xs ++ entries_text (at + length xs) ys
entries_text-append at [] ys = ap (λ n. entries_text n ys) (let e : at ≡ at + 0 = omega arith in e)
entries_text-append at (x ∷ xs) ys =
    let front = entries_text (suc at) xs in
    let later : suc at + length xs ≡ at + suc (length xs) = omega arith in
    ap (λ (l : List ℕ). entry_line at x ++ 10 ∷ l) (entries_text-append (suc at) xs ys)
    ∙ ap (λ n. entry_line at x ++ 10 ∷ (front ++ entries_text n ys)) later
    ∙ sym (append_assoc (entry_line at x) (10 ∷ front) (entries_text (at + suc (length xs)) ys))

-- one entry more
between_more : (es : List Entry) (k at : ℕ) (e : Entry) → k ≤ at → at < length es → e ≡ get_or es at e →
    between es k (at + 1) ≡ between es k at ++ entry_view e ∷ []
between_more es k at e le below is =
    let taken : take (at + 1) es ≡ take at es ++ e ∷ [] =
    rw (add-one, take-suc es at e below) (ap (λ (x : Entry). take at es ++ x ∷ []) (sym is)) in
    let within : k ≤ length (take at es) = omega (arith, length-take at es) in
    ap (λ (l : List Entry). map entry_view (drop k l)) taken
    ∙ ap (map entry_view) (drop-append-le k (take at es) (e ∷ []) within)
    ∙ map-append entry_view (drop k (take at es)) (e ∷ [])

between_length : (es : List Entry) (k at : ℕ) → k ≤ at → at < length es → k + length (between es k at) ≡ at
between_length es k at le below =
    omega (arith, length-map (drop k (take at es)) entry_view, length-drop k (take at es), length-take at es)

pub entry_added : (old cur new : List ℕ) (es : List Entry) (k at : ℕ) (e : Entry) → k ≤ at → at < length es → e ≡ get_or es at e →
    cur ≡ old ++ entries_text k (between es k at) → new ≡ cur ++ entry_line at (entry_view e) ++ 10 ∷ [] →
    new ≡ old ++ entries_text k (between es k (at + 1))
entry_added old cur new es k at e le below is so_far now =
    let xs = between es k at in
    let line : entries_text k (between es k (at + 1)) ≡ entries_text k xs ++ (entry_line at (entry_view e) ++ 10 ∷ []) =
    ap (entries_text k) (between_more es k at e le below is)
    ∙ entries_text-append k xs (entry_view e ∷ [])
    ∙ ap (λ n. entries_text k xs ++ (entry_line n (entry_view e) ++ 10 ∷ [])) (between_length es k at le below) in
    now ∙ append_assoc cur (entry_line at (entry_view e)) (10 ∷ [])
    ∙ ap (λ (l : List ℕ). l ++ (entry_line at (entry_view e) ++ 10 ∷ [])) so_far
    ∙ append_assoc old (entries_text k xs) (entry_line at (entry_view e) ++ 10 ∷ [])
    ∙ ap (λ (l : List ℕ). old ++ l) (sym line)

pub each_added : (es : List Entry) (k at : ℕ) (e : Entry) → k ≤ at → at < length es → e ≡ get_or es at e →
    All FitsEntry (between es k at) → FitsEntry (entry_view e) → All FitsEntry (between es k (at + 1))
each_added es k at e le below is each fits =
    subst (λ (l : List EntryView). All FitsEntry l) (sym (between_more es k at e le below is)) (All-push FitsEntry (between es k at) (entry_view e) each fits)

-- no entry
pub between_none : (es : List Entry) (k : ℕ) → between es k k ≡ []
between_none es k = ap (map entry_view) (drop_of_length-le (take k es) {i = k} (omega (arith, length-take k es)))

pub none_added : (old : List ℕ) (es : List Entry) (k : ℕ) → old ≡ old ++ entries_text k (between es k k)
none_added old es k = sym (ap (λ (l : List EntryView). old ++ entries_text k l) (between_none es k) ∙ append-nil old)

pub none_misfit : (es : List Entry) (k : ℕ) → All FitsEntry (between es k k)
none_misfit es k = subst (λ (l : List EntryView). All FitsEntry l) (sym (between_none es k)) (All-nil FitsEntry)
