-- A script ends where its input does: no answer ends it before.
use Rattle.std.proofs.Common.{◌≡◌, ℕ, ◌==◌, Bool, List, [], length, Option, Some, None, Ok, Err, Global, refl, ap, nat_lt}
use Rattle.std.specs.Prelude.{codes}
use Rattle.std.specs.BTreeMap.{BTreeMap, is_at}
use Rattle.std.specs.Cmp.Lexicographic.{slice_cmp}
use Rattle.std.specs.Map.{lookup}
use Rattle.std.specs.Option.{option_map}
use Rattle.std.specs.Ordering.{nat_cmp}
use Rattle.std.specs.declared.sync.Arc.{Arc}
use Rattle.filter_code.specs.CodeView.{CodeView}
use Rattle.filter_source.specs.Sources.{IsRefusedText}
use Rattle.filter_source.specs.declared.refusal.Refusal.{Refusal}
use Rattle.filter_verifier.specs.VerifiedView.{VerifiedView}
use Rattle.line_protocol.specs.Answers.{Answer}
use Rattle.netchange_core.specs.declared.event.Event.{Event}
use Rattle.netchange_core.specs.declared.event.Event.TheVariants as event
use Rattle.route_history.specs.JournalView.{JournalView}
use Rattle.operator_cmds.specs.CommandView.{CommandView, Network, Prefix, Load, Code, Import, Export, Up, Down, Receive, Take, Show, Look, History}
use Rattle.operator_cmds.specs.Commands.{Read, command_in}
use Rattle.line_protocol.specs.Limits.{number_limit}
use Rattle.operator_cmds.specs.Looks.{can_look, look_text}
use Rattle.operator_cmds.specs.Script
use Rattle.operator_cmds.specs.Script.{AnswersLine, ScriptView, fresh}
use Rattle.operator_cmds.specs.Stages.{StageView, Empty, Setting, Open, journal_in, new_journal, session_in, session_number}
use Rattle.operator_cmds.specs.State.{filter_at}
use Rattle.operator_cmds.proofs.Naming.{Key}
use Rattle.operator_cmds.proofs.Unended.{GoesOn, either, given, like, replied, source}

looking : (found : Option JournalView) (number : ℕ) (look : JournalView → Answer) → ((journal : JournalView) → GoesOn (look journal))
    → GoesOn (Script.told_by found number look)
looking None number look h = refl
looking (Some journal) number look h = h journal

module _ (before : ScriptView) (answer : Answer) (after : ScriptView) where
  network : (stage : StageView) (number size me : ℕ) (limit : Option ℕ)
      → Script.AnswersNetwork stage number size me limit before answer after → GoesOn answer
  network Empty number size me limit h = like answer _ h.0 refl
  network (Setting o l) number size me limit h = like answer _ h.0 refl
  network (Open journal) number size me limit h = like answer _ h.0 refl

  prefix : (stage : StageView) (number node : ℕ) (bits : List Bool)
      → Script.AnswersPrefix stage number node bits before answer after → GoesOn answer
  prefix Empty number node bits h = like answer _ h.0 refl
  prefix (Setting opening limit) number node bits h =
      either (nat_lt node opening.size) _ _ (λ p. like answer _ p.0 refl) (λ q. like answer _ q.0 refl) h
  prefix (Open journal) number node bits h = like answer _ h.0 refl

  filter : (stage : StageView) (Gives : CodeView → Type 0) (Lacks : Refusal → Type 0) (number : ℕ) (name : List ℕ)
      → Script.AnswersFilter stage Gives Lacks number name before answer after → GoesOn answer
  filter Empty Gives Lacks number name h = like answer _ h.0 refl
  filter (Setting opening limit) Gives Lacks number name h = source Gives Lacks opening.size number name before.filters answer after.filters h.filters
  filter (Open journal) Gives Lacks number name h = source Gives Lacks journal.opening.size number name before.filters answer after.filters h.filters

  in_journal : (journal : JournalView) (event : Event) (later : JournalView) → Script.AnswersIn journal event answer later → GoesOn answer
  in_journal journal event later h =
      either (length journal.entries == journal.limit) _ _ (λ p. like answer _ p.0 refl)
      (λ q. like answer _ q.0 (replied (length journal.entries) (Script.told_of journal event))) h

  happening : (stage : StageView) (number : ℕ) (e : Event) → Script.AnswersEvent stage number e before answer after → GoesOn answer
  happening Empty number e h = like answer _ h.0 refl
  happening (Setting opening limit) number e h = in_journal (new_journal opening limit) e h.0 h.1
  happening (Open journal) number e h = in_journal journal e h.0 h.1

  no_name : (stage : StageView) (number : ℕ) → Script.RefusesName stage number before answer after → GoesOn answer
  no_name Empty number h = like answer _ h.0 refl
  no_name (Setting o l) number h = like answer _ h.0 refl
  no_name (Open journal) number h = like answer _ h.0 refl

  by_name : (found : Option VerifiedView) (happens : Arc VerifiedView Global → Event) (number : ℕ)
      → Script.AnswersUse found happens number before answer after → GoesOn answer
  by_name None happens number h = no_name before.stage number h
  by_name (Some f) happens number h = happening before.stage number (happens h.0) h.2

  command : (number : ℕ) (c : CommandView) → Script.AnswersCommand before number c answer after → GoesOn answer
  command number (Network size me limit) h = network before.stage number size me limit h
  command number (Prefix node bits) h = prefix before.stage number node bits h
  command number (Load name text) h = filter before.stage (Script.GivesText text) (IsRefusedText text) number name h
  command number (Code name bytes) h = filter before.stage (Script.GivesFile bytes) (Script.IsRefusedFile bytes) number name h
  command number (Import node name) h = by_name (before.filters name) (λ f. event.SetImport node f) number h
  command number (Export node name) h = by_name (before.filters name) (λ f. event.SetExport node f) number h
  command number (Up node) h = happening before.stage number (event.Up node) h
  command number (Down node) h = happening before.stage number (event.Down (session_number (session_in before.stage node))) h
  command number (Receive node dest dist) h =
      happening before.stage number (event.Receive (session_number (session_in before.stage node)) dest dist) h
  command number (Take node) h = happening before.stage number (event.Take (session_number (session_in before.stage node)) number_limit) h
  command number (Show node) h = happening before.stage number (event.Show node) h
  command number (Look look) h =
      like answer _ h.0
      (looking (journal_in before.stage) number _ (λ journal.
      let w = Script.tables_of journal in given (can_look w look) (look_text w look) (codes "O2") number))
  command number (History from) h = like answer _ h.0 (looking (journal_in before.stage) number _ (λ journal. refl))

  read : (number : ℕ) (r : Read) → Script.AnswersRead before number r answer after → GoesOn answer
  read number (Ok c) h = command number c h
  read number (Err why) h = like answer _ h.0 refl

-- more is answered after the answer to a line
pub goes_on : (before : ScriptView) (number : ℕ) (line : List ℕ) (answer : Answer) (after : ScriptView)
    → AnswersLine before number line answer after → GoesOn answer
goes_on before number line answer after h = read before answer after number (command_in line) h

-- a script that no filter was named in and no domain set up in is a fresh one
pub is_fresh : (filters : BTreeMap Key (Arc VerifiedView Global)) → filters.entries ≡ []
    → record { stage = Empty; filters = filter_at filters } ≡ fresh
is_fresh filters e =
    let script : List (Key × Arc VerifiedView Global) → ScriptView =
    λ es. record { stage = Empty; filters = λ name. option_map (λ f. f.value) (lookup (is_at (λ key. slice_cmp nat_cmp name key.items)) es) } in
    ap script e
