-- Two runs of one script are answered alike.
use Rattle.std.proofs.Common.{◌≡◌, ℕ, zero, suc, Bool, true, false, List, [], ◌∷◌, ◌++◌, ◌==◌, length, map, take, drop}
use Rattle.std.proofs.Common.{nat_lt, Option, Some, None, Result, Ok, Err, inl, inr, refl, sym, ap, subst, ◌∙◌}
use Rattle.std.proofs.Common.{Global}
use Rattle.std.proofs.lemmas.List.{length-map, map-append}
use Rattle.std.specs.Prelude.{MatchBool, codes, if◌then◌else◌}
use Rattle.std.specs.Str.{bytes_eq}
use Rattle.std.specs.declared.sync.Arc.{Arc}
use Rattle.filter_code.specs.CodeView.{CodeView}
use Rattle.filter_source.specs.Sources as sources
use Rattle.filter_source.specs.Sources.{IsRefusedText, IsUnsafe, code_in_file}
use Rattle.filter_source.specs.VerifiedLine.{verified_line}
use Rattle.filter_source.specs.declared.refusal.Refusal.{Refusal}
use Rattle.filter_source.specs.declared.refusal.Refusal.TheVariants as refusal
use Rattle.filter_source.proofs.Translations as translations
use Rattle.filter_verifier.specs.FirstFault.{the_fault}
use Rattle.filter_verifier.specs.VerifiedView.{VerifiedView}
use Rattle.history_lines.specs.Views.{EntryView, EventView, entry_view, event_view}
use Rattle.history_lines.specs.Views as views
use Rattle.line_protocol.specs.Answers.{Answer, is_end}
use Rattle.line_protocol.specs.Lines.{numbered}
use Rattle.line_protocol.specs.Runs.{Runs}
use Rattle.line_protocol.specs.declared.answers.LineReply.TheVariants.{Answered}
use Rattle.netchange_core.specs.Calls.{opened, session_of}
use Rattle.netchange_core.specs.Next as next_specs
use Rattle.netchange_core.specs.Next.{next, up, down, receive, take_from, set_import, set_export, show}
use Rattle.netchange_core.specs.OpeningView.{OpeningView}
use Rattle.netchange_core.specs.World.{World, holder}
use Rattle.netchange_core.specs.declared.event.Event.{Event}
use Rattle.netchange_core.specs.declared.event.Event.TheVariants as event
use Rattle.netchange_core.specs.declared.reply.Reply.{Reply}
use Rattle.route_history.specs.Calls.{entry}
use Rattle.route_history.specs.History.{world_after}
use Rattle.route_history.specs.JournalView.{JournalView}
use Rattle.route_history.specs.declared.entry.Entry.{Entry}
use Rattle.operator_cmds.specs.Alike.{AreAlike, AreAlikeAnswers, AreAlikeJournals, AreAlikeStages, AreAnsweredAlike, AreWrittenAlike}
use Rattle.operator_cmds.specs.CommandView.{CommandView, Network, Prefix, Load, Code, Import, Export, Up, Down, Receive, Take, Show, Look, History}
use Rattle.operator_cmds.specs.Commands.{Read, command_in}
use Rattle.operator_cmds.specs.Faults.{fault_code}
use Rattle.line_protocol.specs.Limits.{number_limit}
use Rattle.operator_cmds.specs.Limits.{history_count}
use Rattle.operator_cmds.specs.Looks.{entries_text, looked, told_entries}
use Rattle.operator_cmds.specs.Replies.{answered, refused, reply_answer}
use Rattle.operator_cmds.specs.Running.{IsCarriedOut}
use Rattle.operator_cmds.specs.Script
use Rattle.operator_cmds.specs.Script.{ScriptView, AnswersLine, fresh, Keeps, MovesTo, GivesFile}
use Rattle.operator_cmds.specs.Script.{GivesText, IsRefusedFile, told_of, tables_of, with_prefix}
use Rattle.operator_cmds.specs.Stages.{StageView, Empty, Setting, Open, journal_in, new_journal, session_in, session_number}

-- ---- what a world makes of an event is told by what a text shows of the event

abbrev next_seen : World → EventView → next_specs.Answered
next_seen w (views.Up k) = up w k
next_seen w (views.Down s) = down w (holder w s)
next_seen w (views.Receive s v d) = receive w (holder w s) v d
next_seen w (views.Take s max) = take_from w (holder w s) max
next_seen w (views.SetImport k f) = set_import w k f
next_seen w (views.SetExport k f) = set_export w k f
next_seen w (views.Show v) = show w v

next_is : (w : World) (e : Event) → next w e ≡ next_seen w (event_view e)
next_is w (event.Up k) = refl
next_is w (event.Down s) = refl
next_is w (event.Receive s v d) = refl
next_is w (event.Take s max) = refl
next_is w (event.SetImport k f) = refl
next_is w (event.SetExport k f) = refl
next_is w (event.Show v) = refl

same_next : (w : World) (e f : Event) → event_view e ≡ event_view f → next w e ≡ next w f
same_next w e f same = next_is w e ∙ ap (next_seen w) same ∙ sym (next_is w f)

abbrev after_seen : World → List EntryView → World
after_seen w [] = w
after_seen w (e ∷ es) = after_seen (next_seen w e.event).world es

after_is : (w : World) (es : List Entry) → world_after w es ≡ after_seen w (map entry_view es)
after_is w [] = refl
after_is w (e ∷ es) =
    ap (λ (x : next_specs.Answered). world_after x.world es) (next_is w e.event) ∙ after_is (next_seen w (event_view e.event)).world es

same_tables : (j k : JournalView) → AreAlikeJournals j k → tables_of j ≡ tables_of k
same_tables j k alike =
    after_is (opened j.opening) j.entries ∙ ap (after_seen (opened j.opening)) alike.entries ∙ sym (after_is (opened j.opening) k.entries)
    ∙ ap (λ (o : OpeningView). world_after (opened o) k.entries) alike.opening

same_count : (j k : JournalView) → AreAlikeJournals j k → length j.entries ≡ length k.entries
same_count j k alike = sym (length-map j.entries entry_view) ∙ ap length alike.entries ∙ length-map k.entries entry_view

-- ---- two cases that a test tells apart

both : (x y : Bool) → x ≡ y → {A B C D E : Type 0} → MatchBool x A B → MatchBool y C D → (A → C → E) → (B → D → E) → E
both true true e h k f g = f h k
both false false e h k f g = g h k
both true false e h k f g = absurd (cc)
both false true e h k f g = absurd (cc)

-- ---- an event

same_entry : (e f : Event) (r s : Reply) → event_view e ≡ event_view f → r ≡ s → entry_view (entry e r) ≡ entry_view (entry f s)
same_entry e f r s same told =
    ap (λ (x : EventView). let v : EntryView = record { event = x; reply = r } in v) same
    ∙ ap (λ (x : Reply). let v : EntryView = record { event = event_view f; reply = x } in v) told

entered_alike : (j k : JournalView) (e f : Event) (r s : Reply) → AreAlikeJournals j k → event_view e ≡ event_view f → r ≡ s
    → AreAlikeJournals (Script.entered j e r) (Script.entered k f s)
entered_alike j k e f r s alike same told = record {
  opening = alike.opening;
  limit = alike.limit;
  entries = map-append entry_view j.entries (entry e r ∷ [])
      ∙ ap (λ (es : List EntryView). es ++ entry_view (entry e r) ∷ []) alike.entries
      ∙ ap (λ (x : EntryView). map entry_view k.entries ++ x ∷ []) (same_entry e f r s same told)
      ∙ sym (map-append entry_view k.entries (entry f s ∷ []));
}

same_told : (j k : JournalView) (e f : Event) → AreAlikeJournals j k → event_view e ≡ event_view f → told_of j e ≡ told_of k f
same_told j k e f alike same =
    ap (λ (w : World). (next w e).reply) (same_tables j k alike) ∙ ap (λ (x : next_specs.Answered). x.reply) (same_next (tables_of k) e f same)

moved_journals : (j k l m : JournalView) → AreAlikeJournals j k → l ≡ j → m ≡ k → AreAlikeJournals l m
moved_journals j k l m alike is same =
    subst (λ (x : JournalView). AreAlikeJournals l x) (sym same) (subst (λ (x : JournalView). AreAlikeJournals x k) (sym is) alike)

in_alike : (j k l m : JournalView) (e f : Event) (a b : Answer) → AreAlikeJournals j k → event_view e ≡ event_view f
    → Script.AnswersIn j e a l → Script.AnswersIn k f b m → (a ≡ b) × AreAlikeJournals l m
in_alike j k l m e f a b alike same h i =
    let count = same_count j k alike in
    both (length j.entries == j.limit) (length k.entries == k.limit)
    (ap (λ (n : ℕ). n == j.limit) count ∙ ap (λ (n : ℕ). length k.entries == n) alike.limit) h i
    (λ x y. (x.0 ∙ ap (refused (codes "J1")) count ∙ sym y.0, moved_journals j k l m alike x.1 y.1))
    (λ x y. let told = same_told j k e f alike same in (
      x.0 ∙ ap (λ (n : ℕ). reply_answer n (told_of j e)) count ∙ ap (reply_answer (length k.entries)) told ∙ sym y.0,
      moved_journals _ _ l m (entered_alike j k e f (told_of j e) (told_of k f) alike same told) x.1 y.1,
    ))

-- ---- a source

-- what a source gives or why it is refused is told by the source
record Settles (Gives : CodeView → Type 0) (Lacks : Refusal → Type 0) : Type 0 where
  one : (p q : CodeView) → Gives p → Gives q → p ≡ q
  none : (p : CodeView) (why : Refusal) → Gives p → Lacks why → ⊥
  alike : (why other : Refusal) → Lacks why → Lacks other → sources.AreAlike why other

itself : (why : Refusal) → sources.AreAlike why why
itself (refusal.Parse why) = tt
itself (refusal.Typing why) = tt
itself refusal.TooLong = refl
itself refusal.Hexadecimal = refl
itself (refusal.File why) = refl
itself (refusal.Compile why) = refl
itself (refusal.Verify why) = refl

equal_alike : (why other : Refusal) → why ≡ other → sources.AreAlike why other
equal_alike why other same = subst (sources.AreAlike why) same (itself why)

text_settles : (text : List ℕ) → Settles (GivesText text) (IsRefusedText text)
text_settles text = record {
  one = λ p q g h. translations.one text g.0 h.0 p q g.1 h.1;
  none = λ p why g lacks. translations.none text g.0 p why g.1 lacks;
  alike = λ why other. translations.alike text why other;
}

ok_one : (r : Result CodeView Refusal) (p q : CodeView) → r ≡ Ok p → r ≡ Ok q → p ≡ q
ok_one r p q is same = cc

err_one : (r : Result CodeView Refusal) (p q : Refusal) → r ≡ Err p → r ≡ Err q → p ≡ q
err_one r p q is same = cc

ok_no_err : (r : Result CodeView Refusal) (p : CodeView) (q : Refusal) → r ≡ Ok p → r ≡ Err q → ⊥
ok_no_err r p q is same = cc

file_settles : (bytes : List ℕ) → Settles (GivesFile bytes) (IsRefusedFile bytes)
file_settles bytes = record {
  one = λ p q g h. ok_one (code_in_file bytes) p q g h;
  none = λ p why g lacks. ok_no_err (code_in_file bytes) p why g lacks;
  alike = λ why other g h. equal_alike why other (err_one (code_in_file bytes) why other g h);
}

same_verified : (f g : VerifiedView) → f.program ≡ g.program → f.size ≡ g.size → f ≡ g
same_verified f g program size =
    ap (λ (p : CodeView). let v : VerifiedView = record { program = p; size = f.size } in v) program
    ∙ ap (λ (n : ℕ). let v : VerifiedView = record { program = g.program; size = n } in v) size

some_no_none : {A : Type 0} (a : A) → Some a ≡ None → ⊥
some_no_none a e = cc

some_one : {A : Type 0} (a b : A) → Some a ≡ Some b → a ≡ b
some_one a b e = cc

same_fault : (p q : CodeView) (n m : ℕ) → p ≡ q → n ≡ m → the_fault p n ≡ the_fault q m
same_fault p q n m code size = ap (λ (c : CodeView). the_fault c n) code ∙ ap (the_fault q) size

-- two refusals of one source
refusals_alike : (Gives : CodeView → Type 0) (Lacks : Refusal → Type 0) → Settles Gives Lacks → (n m : ℕ) (why other : Refusal) → n ≡ m
    → Script.IsRefusedBy Gives Lacks n why → Script.IsRefusedBy Gives Lacks m other → sources.AreAlike why other
refusals_alike Gives Lacks settles n m why other size (inl h) (inl k) = settles.alike why other h k
refusals_alike Gives Lacks settles n m why other size (inl h) (inr k) = absurd (settles.none k.0 why k.1 h)
refusals_alike Gives Lacks settles n m why other size (inr h) (inl k) = absurd (settles.none h.0 other h.1 k)
refusals_alike Gives Lacks settles n m why other size (inr h) (inr k) =
    let faults = sym h.2.2 ∙ same_fault h.0 k.0 n m (settles.one h.0 k.0 h.1 k.1) size ∙ k.2.2 in
    equal_alike why other (h.2.1 ∙ ap refusal.Verify (some_one h.2.0 k.2.0 faults) ∙ sym k.2.1)

-- what one run verifies the other does not refuse
not_refused : (Gives : CodeView → Type 0) (Lacks : Refusal → Type 0) → Settles Gives Lacks → (n m : ℕ) (filter : VerifiedView) (why : Refusal)
    → n ≡ m → Script.IsVerified Gives n filter → Script.IsRefusedBy Gives Lacks m why → ⊥
not_refused Gives Lacks settles n m filter why size h (inl k) = settles.none filter.program why h.gives k
not_refused Gives Lacks settles n m filter why size h (inr k) =
    some_no_none k.2.0 (sym k.2.2 ∙ sym (same_fault filter.program k.0 n m (settles.one filter.program k.0 h.gives k.1) size) ∙ h.faultless)

-- ---- looks

map_drop : (n : ℕ) (es : List Entry) → map entry_view (drop n es) ≡ drop n (map entry_view es)
map_drop zero es = refl
map_drop (suc n) [] = refl
map_drop (suc n) (e ∷ es) = map_drop n es

map_take : (n : ℕ) (es : List Entry) → map entry_view (take n es) ≡ take n (map entry_view es)
map_take zero es = refl
map_take (suc n) [] = refl
map_take (suc n) (e ∷ es) = ap (λ (vs : List EntryView). entry_view e ∷ vs) (map_take n es)

seen_told : (es : List Entry) (from : ℕ) → map entry_view (told_entries es from) ≡ take history_count (drop from (map entry_view es))
seen_told es from = map_take history_count (drop from es) ∙ ap (take history_count) (map_drop from es)

same_history : (j k : JournalView) (from : ℕ) → AreAlikeJournals j k
    → map entry_view (told_entries j.entries from) ≡ map entry_view (told_entries k.entries from)
same_history j k from alike =
    seen_told j.entries from ∙ ap (λ (vs : List EntryView). take history_count (drop from vs)) alike.entries ∙ sym (seen_told k.entries from)

begun : (opening o : OpeningView) (limit l : ℕ) → opening ≡ o → limit ≡ l → AreAlikeJournals (new_journal opening limit) (new_journal o l)
begun opening o limit l is same = record { opening = is; limit = same; entries = refl }

same_look : (s t : StageView) (number : ℕ) (look : JournalView → Answer) → AreAlikeStages s t
    → ((j k : JournalView) → AreAlikeJournals j k → look j ≡ look k)
    → Script.told_by (journal_in s) number look ≡ Script.told_by (journal_in t) number look
same_look Empty Empty number look alike same = refl
same_look (Setting opening limit) (Setting o l) number look alike same =
    same (new_journal opening limit) (new_journal o l) (begun opening o limit l alike.0 alike.1)
same_look (Open j) (Open k) number look alike same = same j k alike
same_look s t number look alike same = absurd alike

same_session : (s t : StageView) (node : ℕ) → AreAlikeStages s t →
    session_number (session_in s node) ≡ session_number (session_in t node)
same_session Empty Empty node alike = refl
same_session (Setting opening limit) (Setting o l) node alike = refl
same_session (Open j) (Open k) node alike = ap (λ (w : World). session_number (session_of w node)) (same_tables j k alike)
same_session s t node alike = absurd alike

moved_stages : (s t u v : StageView) → AreAlikeStages s t → u ≡ s → v ≡ t → AreAlikeStages u v
moved_stages s t u v alike is same =
    subst (λ (x : StageView). AreAlikeStages u x) (sym same) (subst (λ (x : StageView). AreAlikeStages x t) (sym is) alike)

-- ---- a line

module _ (one other after later : ScriptView) (number : ℕ) (a b : Answer) (alike : AreAlike one other) where
  abbrev Ends : Type 0
  Ends = AreAlikeAnswers number a b × AreAlike after later

  kept : Keeps one after → Keeps other later → AreAlike after later
  kept h k = record {
    stage = moved_stages one.stage other.stage after.stage later.stage alike.stage h.stage k.stage;
    filters = λ name. h.filters name ∙ alike.filters name ∙ sym (k.filters name);
  }

  moved : (s t : StageView) → AreAlikeStages s t → MovesTo s one after → MovesTo t other later → AreAlike after later
  moved s t stages h k = record {
    stage = moved_stages s t after.stage later.stage stages h.moved k.moved;
    filters = λ name. h.filters name ∙ alike.filters name ∙ sym (k.filters name);
  }

  refused_both : (code : List ℕ) (at : ℕ) → Script.Refuses code at one a after → Script.Refuses code at other b later → Ends
  refused_both code at h k = (inl (h.0 ∙ sym k.0), kept h.1 k.1)

  confirmed : (s t : StageView) → AreAlikeStages s t → Script.Confirms s one a after → Script.Confirms t other b later → Ends
  confirmed s t stages h k = (inl (h.0 ∙ sym k.0), moved s t stages h.1 k.1)

  by_network : (s t : StageView) (size me : ℕ) (limit : Option ℕ) → AreAlikeStages s t
      → Script.AnswersNetwork s number size me limit one a after → Script.AnswersNetwork t number size me limit other b later → Ends
  by_network Empty Empty size me limit stages h k = confirmed _ _ (refl, refl) h k
  by_network (Setting opening l) (Setting o m) size me limit stages h k = refused_both (codes "O5") number h k
  by_network (Open i) (Open j) size me limit stages h k = refused_both (codes "O5") number h k
  by_network s t size me limit stages h k = absurd stages

  by_prefix : (s t : StageView) (node : ℕ) (bits : List Bool) → AreAlikeStages s t
      → Script.AnswersPrefix s number node bits one a after → Script.AnswersPrefix t number node bits other b later → Ends
  by_prefix Empty Empty node bits stages h k = refused_both (codes "O4") number h k
  by_prefix (Setting opening l) (Setting o m) node bits stages h k =
      both (nat_lt node opening.size) (nat_lt node o.size) (ap (λ (x : OpeningView). nat_lt node x.size) stages.0) h k
      (λ x y. confirmed _ _ (ap (λ (p : OpeningView). with_prefix p node bits) stages.0, stages.1) x y)
      (λ x y. refused_both (codes "O2") number x y)
  by_prefix (Open i) (Open j) node bits stages h k = refused_both (codes "O5") number h k
  by_prefix s t node bits stages h k = absurd stages

  named : (name : List ℕ) (f g : VerifiedView) → f ≡ g → Script.GetsName name f one.filters after.filters
      → Script.GetsName name g other.filters later.filters → (n : List ℕ) → after.filters n ≡ later.filters n
  named name f g same h k n =
      h n ∙ ap (λ (x : VerifiedView). if bytes_eq name n then Some x else one.filters n) same
      ∙ ap (λ (x : Option VerifiedView). if bytes_eq name n then Some g else x) (alike.filters n) ∙ sym (k n)

  by_answers : (Gives : CodeView → Type 0) (Lacks : Refusal → Type 0) → Settles Gives Lacks → (n m : ℕ) (name : List ℕ) → n ≡ m
      → Script.AnswersSource Gives Lacks n number name one.filters a after.filters
      → Script.AnswersSource Gives Lacks m number name other.filters b later.filters
      → AreAlikeAnswers number a b × ((x : List ℕ) → after.filters x ≡ later.filters x)
  by_answers Gives Lacks settles n m name size (inl h) (inl k) =
      let same = same_verified h.0 k.0 (settles.one _ _ h.1.gives k.1.gives) (h.1.size_is ∙ size ∙ sym k.1.size_is) in (
        inl (h.2.0 ∙ ap (λ (f : VerifiedView). let x : Answer = record { text = verified_line f.program; reply = Answered } in x) same ∙ sym k.2.0),
        named name h.0 k.0 same h.2.1 k.2.1,
      )
  by_answers Gives Lacks settles n m name size (inl h) (inr k) = absurd (not_refused Gives Lacks settles n m h.0 k.0 size h.1 k.1)
  by_answers Gives Lacks settles n m name size (inr h) (inl k) = absurd (not_refused Gives Lacks settles m n k.0 h.0 (sym size) k.1 h.1)
  by_answers Gives Lacks settles n m name size (inr h) (inr k) = (
    inr (h.0, k.0, refusals_alike Gives Lacks settles n m h.0 k.0 size h.1 k.1, h.2.0, k.2.0),
    λ x. h.2.1 x ∙ alike.filters x ∙ sym (k.2.1 x),
  )

  by_source : (Gives : CodeView → Type 0) (Lacks : Refusal → Type 0) → Settles Gives Lacks → (n m : ℕ) (name : List ℕ) → n ≡ m
      → Script.NamesSource Gives Lacks n number name one a after → Script.NamesSource Gives Lacks m number name other b later → Ends
  by_source Gives Lacks settles n m name size h k =
      let both = by_answers Gives Lacks settles n m name size h.filters k.filters in (
        both.0,
        record { stage = moved_stages one.stage other.stage after.stage later.stage alike.stage h.stage k.stage; filters = both.1 },
      )

  by_filter : (Gives : CodeView → Type 0) (Lacks : Refusal → Type 0) → Settles Gives Lacks → (s t : StageView) (name : List ℕ) → AreAlikeStages s t
      → Script.AnswersFilter s Gives Lacks number name one a after → Script.AnswersFilter t Gives Lacks number name other b later → Ends
  by_filter Gives Lacks settles Empty Empty name stages h k = refused_both (codes "O4") number h k
  by_filter Gives Lacks settles (Setting opening l) (Setting o m) name stages h k =
      by_source Gives Lacks settles opening.size o.size name (ap (λ (x : OpeningView). x.size) stages.0) h k
  by_filter Gives Lacks settles (Open i) (Open j) name stages h k =
      by_source Gives Lacks settles i.opening.size j.opening.size name (ap (λ (x : OpeningView). x.size) stages.opening) h k
  by_filter Gives Lacks settles s t name stages h k = absurd stages

  by_open : (i j : JournalView) (e f : Event) → AreAlikeJournals i j → event_view e ≡ event_view f
      → Script.AnswersOpen i e one a after → Script.AnswersOpen j f other b later → Ends
  by_open i j e f journals same h k =
      let told = in_alike i j h.0 k.0 e f a b journals same h.1 k.1 in
      (inl told.0, moved (Open h.0) (Open k.0) told.1 h.2 k.2)

  by_event : (s t : StageView) (e f : Event) → AreAlikeStages s t → event_view e ≡ event_view f
      → Script.AnswersEvent s number e one a after → Script.AnswersEvent t number f other b later → Ends
  by_event Empty Empty e f stages same h k = refused_both (codes "O4") number h k
  by_event (Setting opening l) (Setting o m) e f stages same h k =
      by_open (new_journal opening l) (new_journal o m) e f (begun opening o l m stages.0 stages.1) same h k
  by_event (Open i) (Open j) e f stages same h k = by_open i j e f stages same h k
  by_event s t e f stages same h k = absurd stages

  no_name : (s t : StageView) → AreAlikeStages s t → Script.RefusesName s number one a after → Script.RefusesName t number other b later → Ends
  no_name Empty Empty stages h k = refused_both (codes "O4") number h k
  no_name (Setting opening l) (Setting o m) stages h k = refused_both (codes "O6") number h k
  no_name (Open i) (Open j) stages h k = refused_both (codes "O6") number h k
  no_name s t stages h k = absurd stages

  by_use : (x y : Option VerifiedView) (happens : Arc VerifiedView Global → Event) → x ≡ y
      → ((f g : Arc VerifiedView Global) → f.value ≡ g.value → event_view (happens f) ≡ event_view (happens g))
      → Script.AnswersUse x happens number one a after → Script.AnswersUse y happens number other b later → Ends
  by_use None None happens e same h k = no_name one.stage other.stage alike.stage h k
  by_use (Some f) (Some g) happens e same h k =
      by_event one.stage other.stage (happens h.0) (happens k.0) alike.stage (same h.0 k.0 (h.1 ∙ some_one f g e ∙ sym k.1)) h.2 k.2
  by_use None (Some g) happens e same h k = absurd (some_no_none g (sym e))
  by_use (Some f) None happens e same h k = absurd (some_no_none f e)

  by_look : (look : JournalView → Answer) → ((i j : JournalView) → AreAlikeJournals i j → look i ≡ look j)
      → Script.AnswersLook number look one a after → Script.AnswersLook number look other b later → Ends
  by_look look same h k = (inl (h.0 ∙ same_look one.stage other.stage number look alike.stage same ∙ sym k.0), kept h.1 k.1)

  by_command : (c : CommandView) → Script.AnswersCommand one number c a after → Script.AnswersCommand other number c b later → Ends
  by_command (Network size me limit) h k = by_network one.stage other.stage size me limit alike.stage h k
  by_command (Prefix node bits) h k = by_prefix one.stage other.stage node bits alike.stage h k
  by_command (Load name text) h k = by_filter _ _ (text_settles text) one.stage other.stage name alike.stage h k
  by_command (Code name bytes) h k = by_filter _ _ (file_settles bytes) one.stage other.stage name alike.stage h k
  by_command (Import node name) h k =
      by_use (one.filters name) (other.filters name) _ (alike.filters name) (λ f g same. ap (views.SetImport node) same) h k
  by_command (Export node name) h k =
      by_use (one.filters name) (other.filters name) _ (alike.filters name) (λ f g same. ap (views.SetExport node) same) h k
  by_command (Up node) h k = by_event one.stage other.stage _ _ alike.stage refl h k
  by_command (Down node) h k =
      by_event one.stage other.stage _ _ alike.stage (ap views.Down (same_session one.stage other.stage node alike.stage)) h k
  by_command (Receive node dest dist) h k =
      by_event one.stage other.stage _ _ alike.stage
      (ap (λ (s : ℕ). views.Receive s dest dist) (same_session one.stage other.stage node alike.stage)) h k
  by_command (Take node) h k =
      by_event one.stage other.stage _ _ alike.stage
      (ap (λ (s : ℕ). views.Take s number_limit) (same_session one.stage other.stage node alike.stage)) h k
  by_command (Show node) h k = by_event one.stage other.stage _ _ alike.stage refl h k
  by_command (Look look) h k =
      by_look _ (λ i j journals. ap (λ (w : World). looked w number look) (same_tables i j journals)) h k
  by_command (History from) h k =
      by_look _
      (λ i j journals. ap (λ (vs : List EntryView). answered (codes "history" ++ entries_text from 0 vs)) (same_history i j from journals)) h k

  by_read : (r : Read) → Script.AnswersRead one number r a after → Script.AnswersRead other number r b later → Ends
  by_read (Ok command) h k = by_command command h k
  by_read (Err why) h k = refused_both (fault_code why) number h k

-- one line
pub line_alike : (one other after later : ScriptView) (number : ℕ) (line : List ℕ) (a b : Answer) → AreAlike one other
    → AnswersLine one number line a after → AnswersLine other number line b later → AreAlikeAnswers number a b × AreAlike after later
line_alike one other after later number line a b alike h k = by_read one other after later number a b alike (command_in line) h k

-- ---- a script

same_end : (number : ℕ) (a b : Answer) → AreAlikeAnswers number a b → is_end a.reply ≡ is_end b.reply
same_end number a b (inl same) = ap (λ (x : Answer). is_end x.reply) same
same_end number a b (inr faults) =
    ap (λ (x : Answer). is_end x.reply) faults.3 ∙ sym (ap (λ (x : Answer). is_end x.reply) faults.4)

no_answers : (lines : List (ℕ × List ℕ)) (given told : List Answer) → given ≡ [] → told ≡ [] → AreAnsweredAlike lines given told
no_answers lines given told is same =
    subst (λ (x : List Answer). AreAnsweredAlike lines x told) (sym is)
    (subst (λ (x : List Answer). AreAnsweredAlike lines [] x) (sym same) tt)

ended : (one other after later : ScriptView) → AreAlike one other → after ≡ one → later ≡ other → AreAlike after later
ended one other after later alike is same =
    subst (λ (x : ScriptView). AreAlike after x) (sym same) (subst (λ (x : ScriptView). AreAlike x other) (sym is) alike)

-- all lines
pub runs_alike : (lines : List (ℕ × List ℕ)) (given told : List Answer) (one other after later : ScriptView) → AreAlike one other
    → Runs AnswersLine one lines given after → Runs AnswersLine other lines told later
    → AreAnsweredAlike lines given told × AreAlike after later
runs_alike [] [] [] one other after later alike h k = (tt, ended one other after later alike h k)
runs_alike (line ∷ lines) (a ∷ given) (b ∷ told) one other after later alike h k =
    let step = line_alike one other h.0 k.0 line.0 line.1 a b alike h.1 k.1 in
    both (is_end a.reply) (is_end b.reply) (same_end line.0 a b step.0) h.2 k.2
    (λ x y. ((step.0, no_answers lines given told x.0 y.0), ended h.0 k.0 after later step.1 x.1 y.1))
    (λ x y. let rest = runs_alike lines given told h.0 k.0 after later step.1 x y in ((step.0, rest.0), rest.1))
runs_alike [] [] (b ∷ told) one other after later alike h k = absurd k
runs_alike [] (a ∷ given) told one other after later alike h k = absurd h
runs_alike (line ∷ lines) [] told one other after later alike h k = absurd h
runs_alike (line ∷ lines) (a ∷ given) [] one other after later alike h k = absurd k

-- two scripts that were answered to their end
pub scripts_alike : (input : List ℕ) (left rest held holds had has : Option (List ℕ)) (refused count : ℕ)
    → IsCarriedOut input left held holds refused → IsCarriedOut input rest had has count → AreWrittenAlike input held holds had has
scripts_alike input left rest held holds had has refused count h k =
    let first : AreAlike fresh fresh = record { stage = tt; filters = λ name. refl } in
    let all = runs_alike (numbered input) h.finishes.given k.finishes.given fresh fresh h.after k.after first h.finishes.run k.finishes.run in
    record {
      given = h.finishes.given;
      told = k.finishes.given;
      one = h.finishes.written;
      other = k.finishes.written;
      alike = all.0;
    }
