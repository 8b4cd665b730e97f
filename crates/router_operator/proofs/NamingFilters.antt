-- A source that gets a name, and a filter that is used by its name.
use Rattle.std.proofs.Common.{◌≡◌, ℕ, Bool, List, Option, Some, Result, IfOk, Global, refl, sym, subst}
use Rattle.std.specs.BTreeMap.{BTreeMap}
use Rattle.std.specs.declared.sync.Arc.{Arc}
use Rattle.filter_verifier.specs.VerifiedView.{VerifiedView}
use Rattle.line_protocol.specs.Answers.{Answer}
use Rattle.line_protocol.specs.declared.answers.LineReply.{LineReply}
use Rattle.netchange_core.specs.declared.event.Event.{Event}
use Rattle.operator_cmds.specs.Replies.{Answers}
use Rattle.operator_cmds.specs.Script as script
use Rattle.operator_cmds.specs.Script.{AnswersSource, NamesSource, gives, lacks}
use Rattle.operator_cmds.specs.State.{filter_at}
use Rattle.operator_cmds.specs.declared.filter.FilterSource.{FilterSource}
use Rattle.operator_cmds.specs.declared.filter.FilterSource.TheVariants as source
use Rattle.operator_cmds.proofs.Naming.{Key}
use Rattle.slot_lock.specs.Passes.{PassView, RouterView}
use Rattle.router_operator.specs.OperatorView.{IsAt, OperatorView, script_of}
use Rattle.router_operator.specs.Operators.{AnswersEvent, AnswersUse, AsScript, loading}
use Rattle.operator_cmds.proofs.Answering.{answers}

abbrev Filters : Type 0
Filters = BTreeMap Key (Arc VerifiedView Global)

-- the answer to a source is the answer to the command that gives it
by_source : (s : FilterSource) (before after : OperatorView) (number : ℕ) (name : List ℕ) (answer : Answer)
    → NamesSource (gives s) (lacks s) before.router.opening.size number name (script_of before) answer (script_of after)
    → script.AnswersCommand (script_of before) number (loading name s) answer (script_of after)
by_source (source.Text text) before after number name answer h = h
by_source (source.File bytes) before after number name answer h = h

-- an operator answers it as a script does, where the operator's fields are these; `old` is how they were
module _ (old : OperatorView) (router : RouterView) (pass : PassView) (m n : Filters) (links : List ℕ) (quit : Bool) (size limit : ℕ)
    (is : record { router = router; pass = pass; names = m.entries; links = links; has_quit = quit } ≡ old)
    (at : IsAt router pass size limit) where
  abbrev start : OperatorView
  start = record { router = router; pass = pass; names = m.entries; links = links; has_quit = quit }

  abbrev later : OperatorView
  later = record { router = router; pass = pass; names = n.entries; links = links; has_quit = quit }

  as_script : (s : FilterSource) (number : ℕ) (name : List ℕ) (answer : Answer)
      → AnswersSource (gives s) (lacks s) size number name (filter_at m) answer (filter_at n) → AsScript start number (loading name s) answer later
  as_script s number name answer h =
      let is_so : AnswersSource (gives s) (lacks s) router.opening.size number name (filter_at m) answer (filter_at n) =
      subst (λ (k : ℕ). AnswersSource (gives s) (lacks s) k number name (filter_at m) answer (filter_at n)) at.nodes h in
      record { answers = by_source s start later number name answer (record { stage = refl; filters = is_so }); names = refl }

  pub loads : {E : Type 0} (r : Result LineReply E) (s : FilterSource) (number : ℕ) (name before after : List ℕ)
      → IfOk r (Answers (λ answer. AnswersSource (gives s) (lacks s) size number name (filter_at m) answer (filter_at n)) before after)
      → IfOk r (Answers (λ answer. AsScript old number (loading name s) answer later) before after)
  loads r s number name before after h =
      subst (λ (o : OperatorView). IfOk r (Answers (λ answer. AsScript o number (loading name s) answer later) before after)) is
      (answers r (λ answer. AnswersSource (gives s) (lacks s) size number name (filter_at m) answer (filter_at n))
      (λ answer. AsScript start number (loading name s) answer later) before after (λ answer a. as_script s number name answer a) h)

-- the filter that a name has is used
pub uses : {E : Type 0} (r : Result LineReply E) (found : Option VerifiedView) (happens : Arc VerifiedView Global → Event)
    (filter : Arc VerifiedView Global) (happened : Event) (number : ℕ) (before after : OperatorView) (old new : List ℕ)
    → found ≡ Some filter.value → happened ≡ happens filter
    → IfOk r (Answers (λ answer. AnswersEvent before happened answer after) old new)
    → IfOk r (Answers (λ answer. AnswersUse found happens number before answer after) old new)
uses r found happens filter happened number before after old new e is h =
    answers r (λ answer. AnswersEvent before happened answer after) (λ answer. AnswersUse found happens number before answer after)
    old new
    (λ answer a. subst (λ (o : Option VerifiedView). AnswersUse o happens number before answer after) (sym e)
    (filter, refl, subst (λ (x : Event). AnswersEvent before x answer after) is a)) h
