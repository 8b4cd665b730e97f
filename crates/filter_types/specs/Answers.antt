-- What an answer says. A refusal for refused memory says nothing of the filter. (This project's own choice.)
use Rattle.std.specs.Prelude.{◌≡◌, ◌≢◌, Option, Some, None, Result, MatchResult}
use Rattle.std.specs.Prelude.{List}
use Rattle.filter_syntax.specs.SyntaxCommands.{DeclView, PartsView}
use Rattle.filter_types.specs.Kinds.{KindsFitParts}
use Rattle.filter_types.specs.Labels.{AreAllApart, labels_of}
use Rattle.filter_types.specs.declared.fault.TypeFault.{TypeFault}
use Rattle.filter_types.specs.declared.fault.TypeFault.TheVariants as fault

-- an answer is this result where there is one, and a refusal where there is none
abbrev pub AnswersKind : {A : Type 0} → Result A TypeFault → Option A → Type 0
AnswersKind answer expected = MatchResult answer (λ x. expected ≡ Some x) (λ why. why ≢ fault.Memory → expected ≡ None)

-- an answer is good where a fact holds, and a refusal where it does not
abbrev pub Judges : {A : Type 0} → Result A TypeFault → Type 0 → Type 0
Judges answer P = MatchResult answer (λ x. P) (λ why. why ≢ fault.Memory → P → ⊥)

-- labels and commands of the parts of a `case` fit
abbrev pub DoPartsFit : List DeclView → PartsView → Type 0
DoPartsFit variables parts = AreAllApart (labels_of parts) × KindsFitParts variables parts
