-- What a line adds to the history is what its text grows by.
use Rattle.std.proofs.Common.{◌≡◌, ℕ, ◌+◌, Bool, true, List, [], ◌∷◌, ◌++◌, map, length, Option, Some, None, slice_get}
use Rattle.std.proofs.Common.{refl, sym, ap, subst, ◌∙◌, append_assoc, append-nil, inl, inr, arith}
use Rattle.std.proofs.lemmas.List.{length-map, map-append}
use Rattle.std.specs.Io.KnownBytes.{Appends}
use Rattle.history_lines.specs.Text.{entries_text, entry_line, opening_line}
use Rattle.history_lines.specs.Views.{entry_view}
use Rattle.history_file.proofs.Whole.{text_push}
use Rattle.line_protocol.specs.Answers.{Answer}
use Rattle.netchange_core.specs.OpeningView.{OpeningView}
use Rattle.operator_cmds.specs.Entries.{GoesOn, GrowsByOne, StaysOpen, entries_in}
use Rattle.operator_cmds.specs.Script.{ScriptView}
use Rattle.operator_cmds.specs.Stages.{StageView, Empty, Setting, Open, size_in}
use Rattle.operator_cmds.proofs.Going.{goes_on}
use Rattle.route_history.specs.JournalView.{JournalView}
use Rattle.route_history.specs.declared.entry.Entry.{Entry}
use Rattle.router_script.specs.Naming.{AnswersPrepared, Prepares, PreparedView, size_set_up}
use Rattle.router_script.specs.News.{count_in, line_of, news}
use Rattle.router_script.specs.Saved.{AnswersSaved, saved_text}
use Rattle.router_script.specs.Stopping.{answer_where}
use Rattle.router_script.proofs.Named.{naming_keeps}

get_end : {X : Type 0} (xs : List X) → slice_get xs (length xs) ≡ None
get_end [] = refl
get_end (x ∷ xs) = get_end xs

get_last : {X : Type 0} (xs : List X) (y : X) → slice_get (xs ++ y ∷ []) (length xs) ≡ Some y
get_last [] y = refl
get_last (x ∷ xs) y = get_last xs y

entries_grown : (es : List Entry) (e : Entry)
    → entries_text 0 (map entry_view (es ++ e ∷ [])) ≡ entries_text 0 (map entry_view es) ++ line_of (length es) (Some e)
entries_grown es e =
    let views = map entry_view es in
    let there : 0 + length views ≡ length es = omega (arith, length-map es entry_view) in
    ap (entries_text 0) (map-append entry_view es (e ∷ [])) ∙ sym (append-nil (entries_text 0 (views ++ entry_view e ∷ [])))
    ∙ text_push 0 views (entry_view e) []
    ∙ ap (λ n. entries_text 0 views ++ (entry_line n (entry_view e) ++ 10 ∷ [])) there

-- the text of a journal with these entries
abbrev journal : OpeningView → ℕ → List Entry → StageView
journal o limit es = Open (record { opening = o; limit = limit; entries = es })

abbrev text_with : OpeningView → ℕ → List Entry → List ℕ
text_with o limit es = saved_text (journal o limit es)

opened : (o : OpeningView) (limit : ℕ) (es : List Entry) → GrowsByOne [] es → text_with o limit es ≡ news None (journal o limit es)
opened o limit es (inl none) =
    subst (λ (l : List Entry). text_with o limit l ≡ news None (journal o limit l)) (sym none)
    (sym (append-nil (opening_line o limit ++ 10 ∷ [])))
opened o limit es (inr (last, one)) =
    subst (λ (l : List Entry). text_with o limit l ≡ news None (journal o limit l)) (sym one)
    (sym (append_assoc (opening_line o limit) (10 ∷ []) (line_of 0 (Some last))))

abbrev Grown : OpeningView → ℕ → List Entry → List Entry → Type 0
Grown o limit old new = text_with o limit new ≡ text_with o limit old ++ line_of (length old) (slice_get new (length old))

grown : (o : OpeningView) (limit : ℕ) (old new : List Entry) → GrowsByOne old new → Grown o limit old new
grown o limit old new (inl same) =
    subst (Grown o limit old) (sym same)
    (sym (append-nil (text_with o limit old)) ∙ ap (λ e. text_with o limit old ++ line_of (length old) e) (sym (get_end old)))
grown o limit old new (inr (last, one)) =
    subst (Grown o limit old) (sym one)
    (ap (λ t. opening_line o limit ++ 10 ∷ t) (entries_grown old last)
    ∙ sym (append_assoc (opening_line o limit) (10 ∷ entries_text 0 (map entry_view old)) (line_of (length old) (Some last)))
    ∙ ap (λ e. text_with o limit old ++ line_of (length old) e) (sym (get_last old last)))

abbrev Adds : StageView → StageView → Type 0
Adds before after = saved_text after ≡ saved_text before ++ news (count_in before) after

reopened : (b later : JournalView) → later.opening ≡ b.opening → later.limit ≡ b.limit → GrowsByOne b.entries later.entries
    → Adds (Open b) (Open later)
reopened b later same_opening same_limit more =
    grown later.opening later.limit b.entries later.entries more
    ∙ ap (λ t. t ++ line_of (length b.entries) (slice_get later.entries (length b.entries)))
    (ap (λ o. text_with o later.limit b.entries) same_opening ∙ ap (λ l. text_with b.opening l b.entries) same_limit)

by_open : (b : JournalView) (after : StageView) → StaysOpen (Open b) after → GrowsByOne b.entries (entries_in after) → Adds (Open b) after
by_open b after (later, moved, same_opening, same_limit) more =
    subst (Adds (Open b)) (sym moved)
    (reopened b later same_opening same_limit (subst (λ (s : StageView). GrowsByOne b.entries (entries_in s)) moved more))

-- a line that goes on from one stage to the next adds its news to the text
adds : (before after : StageView) → GoesOn before after → Adds before after
adds Empty Empty h = refl
adds Empty (Setting o limit) h = refl
adds Empty (Open j) h = opened j.opening j.limit j.entries h.entries
adds (Setting p l) Empty h = refl
adds (Setting p l) (Setting o limit) h = refl
adds (Setting p l) (Open j) h = opened j.opening j.limit j.entries h.entries
adds (Open b) after h = by_open b after h.opening h.entries

-- names change no stage, so a line goes on as it did without them
prepared_keeps : (set_up : Option ℕ) (before : PreparedView) (mid : ScriptView) (told answer : Answer) (after : PreparedView)
    → Prepares set_up before mid told answer after → after.script.stage ≡ mid.stage
prepared_keeps None before mid told answer after h = ap (λ (v : ScriptView). v.stage) h.0
prepared_keeps (Some size) before mid told answer after h = naming_keeps size before.filters after.unfit mid after.script h.0

prepared_goes_on : (before after : PreparedView) (number : ℕ) (line : List ℕ) (answer : Answer)
    → AnswersPrepared before number line answer after → GoesOn before.script.stage after.script.stage
prepared_goes_on before after number line answer h =
    subst (GoesOn before.script.stage)
    (sym (prepared_keeps (size_set_up (size_in before.script.stage) (size_in h.mid.stage)) before h.mid h.told answer after h.prepares))
    (goes_on before.script h.mid number line h.told h.answers)

-- a line is answered, and its news is written
pub answered : (before told mid after : PreparedView) (held holds : Option (List ℕ)) (saves on stops still : Bool) (saved : Option ℕ) (number : ℕ)
    (line : List ℕ) (first answer : Answer) → saved ≡ count_in before.script.stage → AnswersPrepared before number line first told
    → mid ≡ told → after ≡ mid → (saves ≡ true → Appends held holds (news saved told.script.stage)) → answer ≡ answer_where stops first
    → on ≡ saves → still ≡ stops
    → AnswersSaved (record { script = before; saves = saves; holds = held; stops = stops }) number line answer
    (record { script = after; saves = on; holds = holds; stops = still })
answered before told mid after held holds saves on stops still saved number line first answer count h same then_same p is_answer same_saves same_stops =
    let text = saved_text before.script.stage in
    let grows = adds before.script.stage told.script.stage (prepared_goes_on before told number line first h)
    ∙ ap (λ (s : Option ℕ). text ++ news s told.script.stage) (sym count) in
    let all_same = then_same ∙ same in (
      (first, subst (λ (v : PreparedView). AnswersPrepared before number line first v) (sym all_same) h, is_answer),
      (
        news saved told.script.stage,
        subst (λ (v : PreparedView). saved_text v.script.stage ≡ text ++ news saved told.script.stage) (sym all_same) grows,
        p,
      ),
      same_saves,
      same_stops,
    )
