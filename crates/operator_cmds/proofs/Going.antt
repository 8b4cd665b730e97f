-- A line makes at most one entry.
use Rattle.std.proofs.Common.{◌≡◌, ℕ, Bool, true, false, List, ◌==◌, length, nat_lt, Option, Some, None, Ok, Err, inl, inr, refl, sym, subst, ◌∙◌}
use Rattle.std.specs.Prelude.{MatchBool}
use Rattle.std.specs.declared.sync.Arc.{Arc}
use Rattle.std.proofs.Common.{Global}
use Rattle.filter_code.specs.CodeView.{CodeView}
use Rattle.filter_source.specs.declared.refusal.Refusal.{Refusal}
use Rattle.filter_verifier.specs.VerifiedView.{VerifiedView}
use Rattle.line_protocol.specs.Answers.{Answer}
use Rattle.netchange_core.specs.OpeningView.{OpeningView}
use Rattle.netchange_core.specs.declared.event.Event.{Event}
use Rattle.netchange_core.specs.declared.event.Event.TheVariants as event
use Rattle.route_history.specs.Calls.{entry}
use Rattle.route_history.specs.JournalView.{JournalView}
use Rattle.operator_cmds.specs.CommandView.{CommandView, Network, Prefix, Load, Code, Import, Export, Up, Down, Receive, Take, Show, Look, History}
use Rattle.operator_cmds.specs.Commands.{Read, command_in}
use Rattle.operator_cmds.specs.Entries.{GoesOn}
use Rattle.operator_cmds.specs.Script
use Rattle.operator_cmds.specs.Script.{ScriptView, Keeps, MovesTo}
use Rattle.operator_cmds.specs.Stages.{StageView, Empty, Setting, Open, new_journal}

either : (b : Bool) {A B C : Type 0} → (A → C) → (B → C) → MatchBool b A B → C
either true f g h = f h
either false f g h = g h

same : (s : StageView) → GoesOn s s
same Empty = record { entries = inl refl; opening = tt }
same (Setting opening limit) = record { entries = inl refl; opening = tt }
same (Open journal) = record { entries = inl refl; opening = (journal, refl, refl, refl) }

-- the journal that the first event opens
begun : (opening : OpeningView) (limit : ℕ) (s : StageView) → GoesOn (Open (new_journal opening limit)) s → GoesOn (Setting opening limit) s
begun opening limit s g = record { entries = g.entries; opening = tt }

one_more : (journal later : JournalView) (happened : Event) (answer : Answer) → Script.AnswersIn journal happened answer later
    → GoesOn (Open journal) (Open later)
one_more journal later happened answer =
    either (length journal.entries == journal.limit)
    (λ h. subst (λ (l : JournalView). GoesOn (Open journal) (Open l)) (sym h.1) (same (Open journal)))
    (λ h.
    let told = Script.told_of journal happened in
    let grown = Script.entered journal happened told in
    let more : GoesOn (Open journal) (Open grown) =
    record { entries = inr (entry happened told, refl); opening = (grown, refl, refl, refl) } in
    subst (λ (l : JournalView). GoesOn (Open journal) (Open l)) (sym h.1) more)

module _ (before after : ScriptView) (answer : Answer) where
  stays : (s : StageView) → before.stage ≡ s → after.stage ≡ before.stage → GoesOn s after.stage
  stays s e k = subst (GoesOn s) (sym (k ∙ e)) (same s)

  kept : (s : StageView) → before.stage ≡ s → Keeps before after → GoesOn s after.stage
  kept s e k = stays s e k.stage

  moved : (s t : StageView) → GoesOn s t → MovesTo t before after → GoesOn s after.stage
  moved s t g m = subst (GoesOn s) (sym m.moved) g

  entered : (journal : JournalView) (happened : Event) → Script.AnswersOpen journal happened before answer after
      → GoesOn (Open journal) after.stage
  entered journal happened h = moved (Open journal) (Open h.0) (one_more journal h.0 happened answer h.1) h.2

  by_network : (s : StageView) (number size me : ℕ) (limit : Option ℕ) → before.stage ≡ s
      → Script.AnswersNetwork s number size me limit before answer after → GoesOn s after.stage
  by_network Empty number size me limit e h = moved Empty _ (record { entries = inl refl; opening = tt }) h.1
  by_network (Setting o l) number size me limit e h = kept (Setting o l) e h.1
  by_network (Open journal) number size me limit e h = kept (Open journal) e h.1

  by_prefix : (s : StageView) (number node : ℕ) (bits : List Bool) → before.stage ≡ s
      → Script.AnswersPrefix s number node bits before answer after → GoesOn s after.stage
  by_prefix Empty number node bits e h = kept Empty e h.1
  by_prefix (Setting o l) number node bits e h =
      either (nat_lt node o.size) (λ x. moved (Setting o l) _ (record { entries = inl refl; opening = tt }) x.1)
      (λ x. kept (Setting o l) e x.1) h
  by_prefix (Open journal) number node bits e h = kept (Open journal) e h.1

  by_filter : (Gives : CodeView → Type 0) (Lacks : Refusal → Type 0) (s : StageView) (number : ℕ) (name : List ℕ) → before.stage ≡ s
      → Script.AnswersFilter s Gives Lacks number name before answer after → GoesOn s after.stage
  by_filter Gives Lacks Empty number name e h = kept Empty e h.1
  by_filter Gives Lacks (Setting o l) number name e h = stays (Setting o l) e h.stage
  by_filter Gives Lacks (Open journal) number name e h = stays (Open journal) e h.stage

  by_event : (s : StageView) (number : ℕ) (happened : Event) → before.stage ≡ s
      → Script.AnswersEvent s number happened before answer after → GoesOn s after.stage
  by_event Empty number happened e h = kept Empty e h.1
  by_event (Setting o l) number happened e h = begun o l after.stage (entered (new_journal o l) happened h)
  by_event (Open journal) number happened e h = entered journal happened h

  by_unknown : (s : StageView) (number : ℕ) → before.stage ≡ s → Script.RefusesName s number before answer after → GoesOn s after.stage
  by_unknown Empty number e h = kept Empty e h.1
  by_unknown (Setting o l) number e h = kept (Setting o l) e h.1
  by_unknown (Open journal) number e h = kept (Open journal) e h.1

  by_use : (found : Option VerifiedView) (happens : Arc VerifiedView Global → Event) (number : ℕ)
      → Script.AnswersUse found happens number before answer after → GoesOn before.stage after.stage
  by_use None happens number h = by_unknown before.stage number refl h
  by_use (Some f) happens number h = by_event before.stage number (happens h.0) refl h.2

  by_command : (number : ℕ) (command : CommandView) → Script.AnswersCommand before number command answer after
      → GoesOn before.stage after.stage
  by_command number (Network size me limit) h = by_network before.stage number size me limit refl h
  by_command number (Prefix node bits) h = by_prefix before.stage number node bits refl h
  by_command number (Load name text) h = by_filter _ _ before.stage number name refl h
  by_command number (Code name bytes) h = by_filter _ _ before.stage number name refl h
  by_command number (Import node name) h = by_use (before.filters name) (λ filter. event.SetImport node filter) number h
  by_command number (Export node name) h = by_use (before.filters name) (λ filter. event.SetExport node filter) number h
  by_command number (Up node) h = by_event before.stage number _ refl h
  by_command number (Down node) h = by_event before.stage number _ refl h
  by_command number (Receive node dest dist) h = by_event before.stage number _ refl h
  by_command number (Take node) h = by_event before.stage number _ refl h
  by_command number (Show node) h = by_event before.stage number _ refl h
  by_command number (Look look) h = kept before.stage refl h.1
  by_command number (History from) h = kept before.stage refl h.1

  by_read : (number : ℕ) (read : Read) → Script.AnswersRead before number read answer after → GoesOn before.stage after.stage
  by_read number (Ok command) h = by_command number command h
  by_read number (Err why) h = kept before.stage refl h.1

pub goes_on : (before after : ScriptView) (number : ℕ) (line : List ℕ) (answer : Answer)
    → Script.AnswersLine before number line answer after → GoesOn before.stage after.stage
goes_on before after number line answer h = by_read before after answer number (command_in line) h
