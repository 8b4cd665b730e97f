-- What became of a source, and the answer to it.
use Rattle.std.proofs.Common.{◌≡◌, ℕ, List, [], ◌++◌, Option, Some, None, Result, Ok, Err, IfOk, IfErr, inl, inr, refl, sym, subst, ap, ◌∙◌}
use Rattle.std.specs.Prelude.{OnOk}
use Rattle.filter_code.specs.CodeView.{CodeView}
use Rattle.filter_source.specs.Diagnoses.{TellsOfCode, TellsOfFile, TellsOfText}
use Rattle.filter_source.specs.Failures.{OnDiagnosis, OnRefusal}
use Rattle.filter_source.specs.Refusals.{place_in_line, refusal_code}
use Rattle.filter_source.specs.Sources.{IsRefusedText, IsUnsafe}
use Rattle.filter_source.specs.TextPlaces.{ArePlacesOf}
use Rattle.filter_source.specs.VerifiedLine.{verified_line}
use Rattle.filter_source.specs.declared.diagnosis.Diagnosis.{Diagnosis}
use Rattle.filter_source.specs.declared.failure.Failure.{Failure}
use Rattle.filter_source.specs.declared.failure.Failure.TheVariants as failure
use Rattle.filter_source.specs.declared.refusal.Refusal.{Refusal}
use Rattle.filter_verifier.specs.FirstFault.{the_fault}
use Rattle.filter_verifier.specs.Safe.{IsSafe}
use Rattle.filter_verifier.specs.VerifiedView.{VerifiedView}
use Rattle.line_protocol.specs.Answers.{Answer}
use Rattle.line_protocol.specs.declared.answers.LineReply.{LineReply}
use Rattle.line_protocol.specs.declared.answers.LineReply.TheVariants.{Answered}
use Rattle.operator_cmds.specs.Replies.{Adds, Answers, refused}
use Rattle.operator_cmds.specs.Script.{AnswersFilter, AnswersSource, Filters, GetsName, GivesFile, GivesText}
use Rattle.operator_cmds.specs.Script.{IsDiagnosedBy, IsRefusedBy, IsRefusedFile, IsVerified, NamesSource}
use Rattle.operator_cmds.specs.Script.{ScriptView, TellsSource, diagnoses, gives, lacks}
use Rattle.operator_cmds.specs.Stages.{StageView, Empty, Setting, Open, size_in}
use Rattle.operator_cmds.specs.declared.filter.FilterSource.{FilterSource}
use Rattle.operator_cmds.specs.declared.filter.FilterSource.TheVariants as source
use Rattle.operator_cmds.proofs.Answering.{answers, given}

same : (size other : ℕ) → Some other ≡ Some size → size ≡ other
same size other e = cc

pub verified : (Gives : CodeView → Type 0) (code : CodeView) (size : ℕ) (r : Result VerifiedView Failure) → Gives code
    → IfOk r (λ v. (v ≡ record { program = code; size = size }) × (the_fault code size ≡ None)) → OnOk r (IsSafe code size)
    → IfOk r (λ v. IsVerified Gives size v)
verified Gives code size (Ok v) gives h safe = record {
  gives = subst (λ (w : VerifiedView). Gives w.program) (sym h.0) gives;
  faultless = subst (λ (w : VerifiedView). the_fault w.program size ≡ None) (sym h.0) h.1;
  safe = subst (λ (w : VerifiedView). IsSafe w.program size) (sym h.0) safe;
  size_is = ap (λ (w : VerifiedView). w.size) h.0;
}
verified Gives code size (Err e) gives h safe = tt

-- what is told of code that is refused is told of its source
pub diagnosed_by : (Gives : CodeView → Type 0) (Lacks : Refusal → Type 0) (Tells : Diagnosis → Type 0) (ArePlaces : List ℕ → Type 0) (code : CodeView) (places : List ℕ)
    (size : ℕ) (r : Result VerifiedView Failure) → Gives code → ArePlaces places → IfErr r (OnRefusal (IsUnsafe code size))
    → IfErr r (OnDiagnosis (TellsOfCode code places size)) → IfErr r (OnDiagnosis (IsDiagnosedBy Gives Lacks Tells ArePlaces size))
diagnosed_by Gives Lacks Tells ArePlaces code places size (Ok v) gives are h tells = tt
diagnosed_by Gives Lacks Tells ArePlaces code places size (Err (failure.Refused diagnosis)) gives are h tells = inr (code, gives, h, (places, are, tells))
diagnosed_by Gives Lacks Tells ArePlaces code places size (Err failure.Memory) gives are h tells = tt

-- of what something is told, that is refused
is_refused : (Gives : CodeView → Type 0) (Lacks : Refusal → Type 0) (Tells : Diagnosis → Type 0) (ArePlaces : List ℕ → Type 0) (size : ℕ) (diagnosis : Diagnosis)
    → IsDiagnosedBy Gives Lacks Tells ArePlaces size diagnosis → IsRefusedBy Gives Lacks size diagnosis.refusal
is_refused Gives Lacks Tells ArePlaces size diagnosis (inl h) = inl h.0
is_refused Gives Lacks Tells ArePlaces size diagnosis (inr h) = inr (h.0, h.1, h.2)

pub refused_source : (given : FilterSource) (size : ℕ) (diagnosis : Diagnosis) → diagnoses given size diagnosis
    → IsRefusedBy (gives given) (lacks given) size diagnosis.refusal
refused_source (source.Text text) size diagnosis h =
    is_refused (GivesText text.now) (IsRefusedText text.now) (TellsOfText text.now) (ArePlacesOf text.now) size diagnosis h
refused_source (source.File bytes) size diagnosis h =
    is_refused (GivesFile bytes.now) (IsRefusedFile bytes.now) TellsOfFile (λ places. places ≡ []) size diagnosis h

-- the line of a refusal, by its code and its place
refused_as : (why : Refusal) (number : ℕ) (code : List ℕ) (at : ℕ) → code ≡ refusal_code why → at ≡ place_in_line why number
    → refused code at ≡ refused (refusal_code why) (place_in_line why number)
refused_as why number code at e f = ap (λ (c : List ℕ). refused c at) e ∙ ap (λ (n : ℕ). refused (refusal_code why) n) f

module _ (Gives : CodeView → Type 0) (Lacks : Refusal → Type 0) (number : ℕ) (name : List ℕ) where
  -- verified code is answered by its cost and its peak
  pub taken : (size : ℕ) (before after : Filters) (filter : VerifiedView) (old new : List ℕ) → IsVerified Gives size filter
      → new ≡ old ++ verified_line filter.program → GetsName name filter before after
      → Answers (λ answer. AnswersSource Gives Lacks size number name before answer after) old new Answered
  taken size before after filter old new is added gets = (verified_line filter.program, added, inl (filter, is, (refl, gets)))

  -- a refusal is answered by its code and its place, and changes no name
  pub turned_away : (size : ℕ) (names : Filters) (why : Refusal) (code : List ℕ) (at : ℕ) (reply : LineReply) (old new : List ℕ)
      → IsRefusedBy Gives Lacks size why → code ≡ refusal_code why → at ≡ place_in_line why number → Adds (refused code at) old new reply
      → Answers (λ answer. AnswersSource Gives Lacks size number name names answer names) old new reply
  turned_away size names why code at reply old new is e f h =
      given reply (refused code at) (λ answer. AnswersSource Gives Lacks size number name names answer names) old new
      (λ answer diagnosis. inr (why, is, (diagnosis ∙ refused_as why number code at e f, λ other. refl))) h

  by_stage : (stage : StageView) (size : ℕ) (before : ScriptView) (answer : Answer) (after : ScriptView) → size_in stage ≡ Some size
      → NamesSource Gives Lacks size number name before answer after → AnswersFilter stage Gives Lacks number name before answer after
  by_stage Empty size before answer after e h = cc
  by_stage (Setting opening limit) size before answer after e h =
      subst (λ (n : ℕ). NamesSource Gives Lacks n number name before answer after) (same size opening.size e) h
  by_stage (Open journal) size before answer after e h =
      subst (λ (n : ℕ). NamesSource Gives Lacks n number name before answer after) (same size journal.opening.size e) h

  -- the answer to a source, for domains of the size of a stage, is that of the stage
  pub sourced : {E : Type 0} (stage : StageView) (size : ℕ) (before after : ScriptView) (done : Result LineReply E) (old new : List ℕ)
      → size_in stage ≡ Some size → after.stage ≡ before.stage
      → IfOk done (Answers (λ answer. AnswersSource Gives Lacks size number name before.filters answer after.filters) old new)
      → IfOk done (Answers (λ answer. AnswersFilter stage Gives Lacks number name before answer after) old new)
  sourced stage size before after done old new e stays h =
      answers done (λ answer. AnswersSource Gives Lacks size number name before.filters answer after.filters)
      (λ answer. AnswersFilter stage Gives Lacks number name before answer after) old new
      (λ answer a. by_stage stage size before answer after e (record { stage = stays; filters = a })) h

-- a refusal is told of the source that is refused
pub told_of : (IsTold : Diagnosis → Type 0) (number : ℕ) (before after : Option Diagnosis) (diagnosis : Diagnosis) (code : List ℕ) (at : ℕ)
    (reply : LineReply) (old new : List ℕ) → IsTold diagnosis → code ≡ refusal_code diagnosis.refusal → at ≡ place_in_line diagnosis.refusal number
    → after ≡ Some diagnosis → Adds (refused code at) old new reply → Answers (λ answer. TellsSource IsTold number before answer after) old new reply
told_of IsTold number before after diagnosis code at reply old new is e f kept h =
    given reply (refused code at) (λ answer. TellsSource IsTold number before answer after) old new
    (λ answer same. inr (diagnosis, is, same ∙ refused_as diagnosis.refusal number code at e f, kept)) h
