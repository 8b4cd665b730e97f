-- Entries that are told of a history whose first entries may be forgotten.
use Rattle.std.proofs.Common.{◌≡◌, ◌∙◌, sym, ap, refl, subst, ℕ, ◌+◌, ◌-◌, ◌<◌, ◌≤◌, nat_le, Bool, true, false, List, [], ◌∷◌, ◌++◌, append_assoc}
use Rattle.std.proofs.Common.{append-nil, length, map, take, drop, get_or, length-drop, length-take, Result, Ok, Err, IfOk, arith}
use Rattle.std.specs.Prelude.{codes, min}
use Rattle.std.proofs.lemmas.List.{drop_all, get_or-drop, take_min}
use Rattle.history_lines.specs.Views.{entry_view}
use Rattle.line_protocol.specs.declared.answers.LineReply.{LineReply}
use Rattle.line_protocol.specs.declared.answers.LineReply.TheVariants.{Answered}
use Rattle.netchange_core.specs.OpeningView.{OpeningView}
use Rattle.route_history.specs.declared.bounds.Bounds.{Bounds}
use Rattle.route_history.specs.declared.entry.Entry.{Entry}
use Rattle.route_history.specs.Long.{IsWindow, LongView, OfHistory}
use Rattle.route_history.proofs.Windows.{entries_are, kept_are}
use Rattle.operator_cmds.specs.Looks.{entries_text, history_looked, history_text}
use Rattle.operator_cmds.specs.Replies.{Adds, answered, refused}

-- an entry that is left stands in the history at its position
pub stands : (o : OpeningView) (b : Bounds) (log : List Entry) (j : LongView) → IsWindow o b log j → (at : ℕ) (e : Entry) → j.first ≤ at →
    e ≡ get_or j.entries (at - j.first) e → e ≡ get_or log at e
stands o b log j w at e le is =
    is ∙ ap (λ (es : List Entry). get_or es (at - j.first) e) (entries_are o b log j j w)
    ∙ get_or-drop j.first log (at - j.first) e
    ∙ ap (λ (n : ℕ). get_or log n e) (let sum : j.first + (at - j.first) ≡ at = omega arith in sum)

-- once all that were to be are told, nothing is left
pub all_told : (es : List Entry) (from count told : ℕ) (out start : List ℕ) → count ≤ told →
    out ++ entries_text from told (map entry_view (drop told (take count (drop from es)))) ≡ start → out ≡ start
all_told es from count told out start done h =
    let part = take count (drop from es) in
    let short : length part ≤ told = let long = length-take count (drop from es) in omega arith in
    sym (append-nil out) ∙ ap (λ (l : List Entry). out ++ entries_text from told (map entry_view l)) (sym (drop_all told part short)) ∙ h

-- the line of the entries that are told at once
pub line_told : (j : LongView) (from count : ℕ) (old front told new : List ℕ) → count ≡ min 100 (j.first + length j.entries - from) →
    front ≡ old ++ codes "history" →
    OfHistory j (λ h. told ≡ front ++ entries_text from 0 (map entry_view (take count (drop from h.entries)))) → new ≡ told ++ 10 ∷ [] →
    OfHistory j (λ h. new ≡ old ++ (history_text h.entries from ++ 10 ∷ []))
line_told j from count old front told new number begun added ended = λ o b log w legal.
    let texts : List Entry → List ℕ = λ es. entries_text from 0 (map entry_view es) in
    let rest = drop from log in
    let long : j.first + length j.entries - from ≡ length rest = ap (λ (n : ℕ). n - from) (kept_are o b log j j w) ∙ sym (length-drop from log) in
    let same : take count rest ≡ take 100 rest = ap (λ (n : ℕ). take n rest) (number ∙ ap (λ (n : ℕ). min 100 n) long) ∙ take_min 100 rest in
    ended
    ∙ ap (λ (l : List ℕ). l ++ 10 ∷ [])
    (added o b log w legal ∙ ap (λ (l : List ℕ). l ++ texts (take count rest)) begun
    ∙ append_assoc old (codes "history") (texts (take count rest))
    ∙ ap (λ (es : List Entry). old ++ (codes "history" ++ texts es)) same)
    ∙ append_assoc old (codes "history" ++ texts (take 100 rest)) (10 ∷ [])

-- it is told where the entry at the position is kept
pub is_told : (j : LongView) (from : ℕ) (old new : List ℕ) → nat_le j.first from ≡ true →
    OfHistory j (λ h. new ≡ old ++ (history_text h.entries from ++ 10 ∷ [])) →
    OfHistory j (λ h. Adds (history_looked j.first h.entries from) old new Answered)
is_told j from old new kept h = λ o b log w legal. rw kept (h o b log w legal, refl)

-- and refused where it is forgotten
pub is_refused : {E : Type 0} (j : LongView) (from : ℕ) (old new : List ℕ) (r : Result LineReply E) → nat_le j.first from ≡ false →
    IfOk r (Adds (refused (codes "O10") j.first) old new) →
    IfOk r (λ reply. OfHistory j (λ h. Adds (history_looked j.first h.entries from) old new reply))
is_refused j from old new (Ok reply) forgotten h = λ o b log w legal. rw forgotten h
is_refused j from old new (Err e) forgotten h = tt
